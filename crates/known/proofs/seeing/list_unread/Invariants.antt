-- The names so far, and that nothing was read.
use Rattle.std.proofs.Common.{◌≡◌, ℕ, List, map, string_bytes, is_some}
use Rattle.std.specs.List.{list_any}
use Rattle.std.specs.FinMap.{get}
use Rattle.std.specs.Str.{bytes_eq}
use Rattle.known.specs.Seen.{IsRead, seen_files}
use Rattle.known.proofs.seeing.list_unread.Given as goal

abbrev pub invariant-loop-name : goal.invariant-loop-name
invariant-loop-name l = record {
  names : (name : List ℕ) → is_some (get (seen_files l.seen) name) ≡ list_any (bytes_eq name) (map string_bytes l.yielded);
  nothing : (name : List ℕ) (limit : ℕ) → IsRead l.seen name limit → limit ≡ 0;
}
