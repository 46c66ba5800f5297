-- What the scans for a difference find (own).
use Rattle.std.specs.Prelude.{◌≡◌, ℕ, List, [], ◌∷◌, Option, Some, None}
use Rattle.std.specs.Cmp.Lexicographic.{slice_cmp}
use Rattle.std.specs.Ordering.{nat_cmp}
use Rattle.std.specs.declared.cmp.Ordering.{Ordering}
use Rattle.std.specs.declared.cmp.Ordering.TheVariants.{Less, Equal, Greater}
use Rattle.rotor_base.specs.Files.{FileSet, names_of}
use Rattle.shape_core.specs.Shape.{Name}
use Rattle.rename_verify.specs.declared.bytes.Spot.{Spot}
use Rattle.rename_verify.specs.Differ.{HasOtherSources, PartAt, FilesPartAt}

-- the first name that one of two lists in byte order has alone: the lesser of the first two that differ
abbrev pub by_order : Ordering → Name → Name → Option Name → Option Name
by_order Less x y rest = Some x
by_order Equal x y rest = rest
by_order Greater x y rest = Some y

abbrev pub first_alone : List Name → List Name → Option Name
first_alone [] [] = None
first_alone [] (y ∷ ys) = Some y
first_alone (x ∷ xs) [] = Some x
first_alone (x ∷ xs) (y ∷ ys) = by_order (slice_cmp nat_cmp x y) x y (first_alone xs ys)

-- the name of what differs, or nothing does
abbrev pub IsOtherSource : FileSet → FileSet → Option Name → Type 0
IsOtherSource old new None = (names_of old.entries ≡ names_of new.entries) × (old.manifest ≡ new.manifest)
IsOtherSource old new (Some name) = HasOtherSources old new name

-- the offset at which two lists of bytes part, or they are the same
abbrev pub IsPart : List ℕ → List ℕ → Option ℕ → Type 0
IsPart old new None = old ≡ new
IsPart old new (Some offset) = PartAt old new offset

-- the first file that parts, with the offset, or all are the same
abbrev pub IsSpot : List (List ℕ) → List (List ℕ) → Option Spot → Type 0
IsSpot olds news None = olds ≡ news
IsSpot olds news (Some spot) = FilesPartAt olds news spot.file spot.offset
