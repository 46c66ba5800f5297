-- Trees that are known before the sources are read.
use Rattle.std.proofs.Common.{◌≡◌, ℕ, zero, suc, ◌<◌, ◌⊎◌, inl, inr, List, [], ◌∷◌, ◌++◌, All, map, length, get_or, set, refl, ap, sym, subst, ◌∙◌}
use Rattle.std.proofs.Common.{arith}
use Rattle.std.proofs.Common.{Option, Some, None}
use Rattle.std.specs.Prelude.{Contains, IfSome, slice_get}
use Rattle.std.proofs.lemmas.List.{map-set}
use Rattle.std.proofs.lemmas.List.Elements.{All-cons, All-contains_itself, All-head, All-nil, All-tail}
use Rattle.std.proofs.lemmas.Option.{none-some, same_Some}
use Rattle.rotor_base.specs.Files.{FileSet, IsProject}
use Rattle.rotor_base.specs.declared.source.SourceFile.{SourceFile}
use Rattle.ml_trees.specs.declared.module.FileTree.{FileTree as Source}
use Rattle.ml_trees.specs.declared.module.UnitTree.{UnitTree as Unit}
use Rattle.ml_trees.specs.Tree.{FileTree, Body, Face, UnitTree}
use Rattle.ml_trees.specs.View.{view_file, view_part_of, view_unit}
use Rattle.parse_module.specs.declared.files.FileKind.{FileKind}
use Rattle.parse_module.specs.declared.files.FileKind.TheVariants as kind
use Rattle.parse_module.specs.Whole.{IsOfFile}
use Rattle.project_reading.specs.Known.{IsReadAs, file_of}
use Rattle.project_reading.specs.Reads.{Reads}
use Rattle.project_reading.specs.Source.{kind_of_source}
use Rattle.project_reading.proofs.Twins.{parts_are_trees}

-- the source of each part of a unit is read as this part
pub record IsReadUnit (sources : List SourceFile) (u : UnitTree) : Type 0 where
  pub body : IfSome u.body (λ tree. IsReadAs sources (file_of tree) tree)
  pub face : IfSome u.face (λ tree. IsReadAs sources (file_of tree) tree)

file_is : (k : FileKind) (number : ℕ) (tree : FileTree) → IsOfFile k number tree → file_of tree ≡ number
file_is kind.Body number (Body file items) h = h
file_is kind.Body number (Face file items) h = absurd h
file_is kind.Face number (Body file items) h = absurd h
file_is kind.Face number (Face file items) h = h

unit_read : (files : FileSet) (us : List UnitTree) → IsProject files → Reads files us → (u : UnitTree) → Contains us u → IsReadUnit files.entries u
unit_read files us project read u h = record { body = part u.body (λ tree is. inl is); face = part u.face (λ tree is. inr is) }
  where
    part : (o : Option FileTree) → ((tree : FileTree) → o ≡ Some tree → (u.body ≡ Some tree) ⊎ (u.face ≡ Some tree))
        → IfSome o (λ tree. IsReadAs files.entries (file_of tree) tree)
    part None is = tt
    part (Some tree) is =
        let found = parts_are_trees files us project read u tree h (is tree refl) in
        let reads = found.3 in
        subst (λ n. IsReadAs files.entries n tree) (sym (file_is (kind_of_source found.1.name) found.0 tree reads.parsed.of_file))
        (record { source = found.1; there = found.2; reads = reads })

pub units_read : (files : FileSet) (us : List UnitTree) → IsProject files → Reads files us → All (IsReadUnit files.entries) us
units_read files us project read = λ k d lt. unit_read files us project read (get_or us k d) (All-contains_itself us k d lt)

-- the parts of a unit in code
pub part_in_code : (P : FileTree → Type 0) (o : Option Source) → IfSome (view_part_of o) P → IfSome o (λ tree. P (view_file tree))
part_in_code P None h = h
part_in_code P (Some tree) h = h

set_where : (P : ℕ → FileTree → Type 0) (l : List (Option FileTree)) (n : ℕ) (o : Option FileTree)
    → ((k : ℕ) (tree : FileTree) → slice_get l k ≡ Some (Some tree) → P k tree) → ((tree : FileTree) → o ≡ Some tree → P n tree)
    → (k : ℕ) (tree : FileTree) → slice_get (set l n o) k ≡ Some (Some tree) → P k tree
set_where P [] n o h p k tree is = h k tree is
set_where P (x ∷ xs) zero o h p zero tree is = p tree (same_Some o (Some tree) is)
set_where P (x ∷ xs) zero o h p (suc k) tree is = h (suc k) tree is
set_where P (x ∷ xs) (suc n) o h p zero tree is = h zero tree is
set_where P (x ∷ xs) (suc n) o h p (suc k) tree is = set_where (λ j. P (suc j)) xs n o (λ j. h (suc j)) p k tree is

-- the trees of a list are known
abbrev pub KnownIn : List SourceFile → List (Option Source) → Type 0
KnownIn sources l = (k : ℕ) (tree : FileTree) → slice_get (map view_part_of l) k ≡ Some (Some tree) → IsReadAs sources k tree

-- a part is put to its number, or taken out
pub known_set : (sources : List SourceFile) (l : List (Option Source)) (n : ℕ) (o : Option Source) → KnownIn sources l
    → IfSome o (λ tree. IsReadAs sources n (view_file tree)) → KnownIn sources (set l n o)
known_set sources l n o h p k tree is =
    set_where (IsReadAs sources) (map view_part_of l) n (view_part_of o) h (there o p) k tree
    (ap (λ m. slice_get m k) (sym (map-set view_part_of l n o)) ∙ is)
  where
    there : (o : Option Source) → IfSome o (λ tree. IsReadAs sources n (view_file tree)) → (tree : FileTree) → view_part_of o ≡ Some tree
        → IsReadAs sources n tree
    there None p tree is = absurd (none-some tree is)
    there (Some t) p tree is = subst (IsReadAs sources n) (same_Some (view_file t) tree is) p

-- what is at a number
pub found_at : (l : List (Option Source)) (n : ℕ) (tree : Source) → n < length l → get_or l n (Some tree) ≡ Some tree
    → slice_get (map view_part_of l) n ≡ Some (Some (view_file tree))
found_at [] n tree lt is = absurd (omega (arith, lt))
found_at (x ∷ xs) zero tree lt is = ap (λ o. Some (view_part_of o)) is
found_at (x ∷ xs) (suc n) tree lt is = found_at xs n tree (omega (arith, lt)) is

-- a tree stays known if its source stays
pub same_there : (olds news : List SourceFile) (n : ℕ) (tree : FileTree) → slice_get olds n ≡ slice_get news n → IsReadAs olds n tree
    → IsReadAs news n tree
same_there olds news n tree same h = record { source = h.source; there = sym same ∙ h.there; reads = h.reads }

-- no tree is known
abbrev pub NoTrees : List (Option Source) → Type 0
NoTrees l = (k : ℕ) (tree : FileTree) → slice_get (map view_part_of l) k ≡ Some (Some tree) → ⊥

pub one_more_none : (l : List (Option Source)) → NoTrees l → NoTrees (l ++ None ∷ [])
one_more_none [] h zero tree is = none-some tree (same_Some None (Some tree) is)
one_more_none [] h (suc k) tree is = none-some (Some tree) is
one_more_none (x ∷ xs) h zero tree is = h zero tree is
one_more_none (x ∷ xs) h (suc k) tree is = one_more_none xs (λ j. h (suc j)) k tree is

-- the last unit, and those before it
pub last_unit : (P : UnitTree → Type 0) (us : List Unit) (u : Unit) → All P (map view_unit (us ++ u ∷ [])) → P (view_unit u)
last_unit P [] u h = All-head P (view_unit u) [] h
last_unit P (x ∷ xs) u h = last_unit P xs u (All-tail P (view_unit x) (map view_unit (xs ++ u ∷ [])) h)

pub units_before : (P : UnitTree → Type 0) (us : List Unit) (u : Unit) → All P (map view_unit (us ++ u ∷ [])) → All P (map view_unit us)
units_before P [] u h = All-nil P
units_before P (x ∷ xs) u h =
    All-cons P (view_unit x) (map view_unit xs) (All-head P (view_unit x) (map view_unit (xs ++ u ∷ [])) h)
    (units_before P xs u (All-tail P (view_unit x) (map view_unit (xs ++ u ∷ [])) h))
