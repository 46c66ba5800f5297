use Rattle.std.proofs.Common.{◌∷◌, [], map, string_bytes, is_some, ap, sym, ◌∙◌}
use Rattle.std.specs.List.{list_any}
use Rattle.std.specs.Str.{bytes_eq}
use Rattle.std.specs.Ordering.{nat_cmp}
use Rattle.std.specs.Cmp.Lexicographic.{slice_cmp}
use Rattle.std.specs.FinMap.{get, get-empty}
use Rattle.std.proofs.lemmas.List.{map-append}
use Rattle.tree_io.specs.Outside.{FileMap}
use Rattle.known.specs.Seen.{seen_files}
use Rattle.known.proofs.Fronts.{empty_read, set_files, unread_more}
use Rattle.known.proofs.Keeping.{named_more}
use Rattle.known.proofs.seeing.list_unread.Goals as goal

pub loop-name-init : goal.loop-name-init
loop-name-init c = record {
  names =
      λ name. ap (λ (files : FileMap). is_some (get files name)) c.new-seen.ensures ∙ ap is_some (get-empty (slice_cmp nat_cmp) name);
  nothing = empty_read c.new-seen.result c.new-seen.ensures;
}

pub loop-name-preserved : goal.loop-name-preserved
loop-name-preserved c = record {
  names =
      λ name. named_more (seen_files c.loop-name.seen) (seen_files c.set.new.self) (map string_bytes c.loop-name.yielded)
      (string_bytes c.in-Some.name) c.make_unread.result.bytes.items name (c.loop-name.invariant.names name)
      (set_files (string_bytes c.in-Some.name) c.make_unread.result c.loop-name.seen c.set.new.self c.in_ok-set.ensures.set)
      ∙ ap (list_any (bytes_eq name)) (sym (map-append string_bytes c.loop-name.yielded (c.in-Some.name ∷ [])));
  nothing =
      unread_more c.loop-name.seen c.set.new.self (string_bytes c.in-Some.name) c.make_unread.result c.in_ok-set.ensures.set
      c.make_unread.ensures.limit
      c.loop-name.invariant.nothing;
}
