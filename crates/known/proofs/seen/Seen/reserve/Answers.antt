use Rattle.std.proofs.Common.{Some, is_some, ap}
use Rattle.std.specs.FinMap.{empty}
use Rattle.std.proofs.lemmas.Map.Text.{btree_map_updates_text}
use Rattle.known.proofs.Files.{over_kept, more_room, is_found, was_found}
use Rattle.known.proofs.Fronts.{read_kept}
use Rattle.known.proofs.seen.Seen.reserve.Goals as goal

pub unwrap-requires : goal.unwrap-requires
unwrap-requires c = is_found c.args.self.now c.args.name.now c.get_mut.result c.get_mut.ensures.value c.requires

pub returns-clause-room : goal.returns-clause-room
returns-clause-room c =
    let was = was_found c.args.self.now c.args.name.now c.get_mut.result c.unwrap.result c.get_mut.ensures.value c.unwrap.ensures in
    let sets = btree_map_updates_text c.args.name.now c.args.self.now.files (c.get_mut.follows.lender c.reserve.new.self) (Some c.reserve.new.self)
    ((c.get_mut.follows.holds c.reserve.new.self).3 (ap is_some was)) in
    more_room empty c.args.self.now.files.entries (c.get_mut.follows.lender c.reserve.new.self).entries c.args.name.now c.reserve.new.self sets
    c.unwrap.result.now was c.reserve.ensures.room 0

pub returns-clause-files : goal.returns-clause-files
returns-clause-files c =
    let was = was_found c.args.self.now c.args.name.now c.get_mut.result c.unwrap.result c.get_mut.ensures.value c.unwrap.ensures in
    let sets = btree_map_updates_text c.args.name.now c.args.self.now.files (c.get_mut.follows.lender c.reserve.new.self) (Some c.reserve.new.self)
    ((c.get_mut.follows.holds c.reserve.new.self).3 (ap is_some was)) in
    over_kept empty c.args.self.now.files.entries (c.get_mut.follows.lender c.reserve.new.self).entries c.args.name.now c.reserve.new.self sets
    c.unwrap.result.now was c.reserve.ensures.bytes

pub returns-clause-read : goal.returns-clause-read
returns-clause-read c =
    let was = was_found c.args.self.now c.args.name.now c.get_mut.result c.unwrap.result c.get_mut.ensures.value c.unwrap.ensures in
    let sets = btree_map_updates_text c.args.name.now c.args.self.now.files (c.get_mut.follows.lender c.reserve.new.self) (Some c.reserve.new.self)
    ((c.get_mut.follows.holds c.reserve.new.self).3 (ap is_some was)) in
    read_kept c.args.self.now (record { files = c.get_mut.follows.lender c.reserve.new.self }) c.args.name.now c.reserve.new.self c.unwrap.result.now
    sets
    was c.reserve.ensures.bytes c.reserve.ensures.limit
