use Rattle.std.proofs.Common.{List, ℕ, Some, is_some, ap, ◌∙◌}
use Rattle.std.specs.FinMap.{empty, insert}
use Rattle.std.proofs.lemmas.Map.Text.{btree_map_updates_text}
use Rattle.known.specs.Seen.{seen_files}
use Rattle.known.proofs.Files.{over_set, more_room, is_found, was_found}
use Rattle.known.proofs.Fronts.{others_stay}
use Rattle.known.proofs.seen.Seen.fill.Goals as goal

pub unwrap-requires : goal.unwrap-requires
unwrap-requires c = is_found c.args.self.now c.args.name.now c.get_mut.result c.get_mut.ensures.value c.requires.there

pub returns-clause-files : goal.returns-clause-files
returns-clause-files c =
    let was = was_found c.args.self.now c.args.name.now c.get_mut.result c.unwrap.result c.get_mut.ensures.value c.unwrap.ensures in
    let sets = btree_map_updates_text c.args.name.now c.args.self.now.files (c.get_mut.follows.lender c.fill.new.self) (Some c.fill.new.self)
    ((c.get_mut.follows.holds c.fill.new.self).3 (ap is_some was)) in
    over_set empty c.args.self.now.files.entries (c.get_mut.follows.lender c.fill.new.self).entries c.args.name.now c.fill.new.self sets
    ∙ ap (λ (bytes : List ℕ). insert (seen_files c.args.self.now) c.args.name.now bytes) c.fill.ensures.bytes

pub returns-clause-room : goal.returns-clause-room
returns-clause-room c =
    let was = was_found c.args.self.now c.args.name.now c.get_mut.result c.unwrap.result c.get_mut.ensures.value c.unwrap.ensures in
    let sets = btree_map_updates_text c.args.name.now c.args.self.now.files (c.get_mut.follows.lender c.fill.new.self) (Some c.fill.new.self)
    ((c.get_mut.follows.holds c.fill.new.self).3 (ap is_some was)) in
    more_room empty c.args.self.now.files.entries (c.get_mut.follows.lender c.fill.new.self).entries c.args.name.now c.fill.new.self sets
    c.unwrap.result.now was c.fill.ensures.room 0

pub returns-clause-others : goal.returns-clause-others
returns-clause-others c =
    let was = was_found c.args.self.now c.args.name.now c.get_mut.result c.unwrap.result c.get_mut.ensures.value c.unwrap.ensures in
    let sets = btree_map_updates_text c.args.name.now c.args.self.now.files (c.get_mut.follows.lender c.fill.new.self) (Some c.fill.new.self)
    ((c.get_mut.follows.holds c.fill.new.self).3 (ap is_some was)) in
    others_stay c.args.self.now (record { files = c.get_mut.follows.lender c.fill.new.self }) c.args.name.now c.fill.new.self sets
