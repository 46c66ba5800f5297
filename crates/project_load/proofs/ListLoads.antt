-- The answer of loading by a list, from the calls that it makes.
use Rattle.std.proofs.Common.{◌≡◌, ◌∙◌, ◌⊎◌, inl, inr, ℕ, ◌<◌, ◌≤◌, ◌||◌, Bool, true, false, cond, List, [], ◌∷◌, ◌++◌, Some, Result, Ok, Err}
use Rattle.std.proofs.Common.{IsPermutation, String, length, min, refl, sym, ap, subst, arith}
use Rattle.std.specs.List.{list_any}
use Rattle.std.specs.BTreeSet.{BTreeSet, contains_text}
use Rattle.std.specs.FinMap.{empty, get, keys}
use Rattle.std.specs.Str.{bytes_eq}
use Rattle.std.specs.Cmp.Lexicographic.{nat_list_eq_equiv}
use Rattle.std.proofs.lemmas.List.Folds.{list_any-append}
use Rattle.std.proofs.lemmas.List.Sorted.{list_any-IsPermutation, IsPermutation-refl}
use Rattle.rotor_base.specs.Files.{FileSet}
use Rattle.rotor_base.specs.Lines.{feed_lines}
use Rattle.rotor_base.specs.declared.refusal.LoadError.TheVariants.{TooLarge}
use Rattle.tree_io.specs.Outside.{FileMap, IsFront}
use Rattle.project_load.specs.Entries.{AreHeld, IsFolder, IsListed, IsListLoad, IsUnread, given_by}
use Rattle.project_load.specs.Listed.{Gives, IsListAnswer, IsOutsideList, Lists, large, refused, taken, unread}
use Rattle.project_load.specs.declared.error.ListError.{ListError}
use Rattle.project_load.specs.declared.error.ListError.TheVariants as list
use Rattle.project_load.proofs.Sorted.{held_name}
use Rattle.project_load.proofs.SourcesRead.{cut_length, cut_whole, file_read}
use Rattle.project_load.proofs.Tables.{given_keys}

-- ---- the folder as a set

or_last : (t a : Bool) → cond t true a ≡ (a || (t || false))
or_last true true = refl
or_last true false = refl
or_last false true = refl
or_last false false = refl

-- one more name
pub set_more : (k name : List ℕ) (names : List (List ℕ)) (a b : Bool) → a ≡ list_any (bytes_eq name) names → b ≡ cond (bytes_eq k name) true a
    → b ≡ list_any (bytes_eq name) (names ++ k ∷ [])
set_more k name names a b e f =
    f ∙ or_last (bytes_eq k name) a ∙ ap (λ (t : Bool). a || (t || false)) (nat_list_eq_equiv.symm k name)
    ∙ ap (λ (s : Bool). s || (bytes_eq name k || false)) e
    ∙ sym (list_any-append (bytes_eq name) names (k ∷ []))

module _ {Y : Type 0} (folder : BTreeSet (String Y)) where
  pub is_folder : (held : FileMap) (names : List (List ℕ)) → IsPermutation (keys held) names
      → ((name : List ℕ) → contains_text folder name ≡ list_any (bytes_eq name) names) → IsFolder held folder
  is_folder held names moved h name = h name ∙ sym (list_any-IsPermutation (bytes_eq name) (keys held) names moved) ∙ held_name held name

  -- ---- the list

  -- it is too large
  pub too_long : (held : FileMap) (name bytes : List ℕ) → IsFront 1048577 (get held name) bytes → 1048576 < length bytes
      → Lists held name (Err (list.Load (TooLarge name)))
  too_long held name bytes front long =
      let w = file_read (get held name) bytes front in
      let len : length bytes ≡ min 1048577 (length w.0) = cut_length w.0 bytes w.2 in
      large w.0 w.1 (omega (arith, len, long)) refl

  module _ (held : FileMap) (name bytes : List ℕ) (front : IsFront 1048577 (get held name) bytes) (small : length bytes ≤ 1048576) where
    -- it is read whole
    whole_list : get held name ≡ Some bytes
    whole_list =
        let w = file_read (get held name) bytes front in
        w.1 ∙ ap (λ (b : List ℕ). Some b) (cut_whole w.0 bytes w.2 small)

    -- its lines are not read
    pub not_lines : (error : ListError) → IsFolder held folder → IsUnread folder (feed_lines bytes) error
        → IsOutsideList error ⊎ Lists held name (Err error)
    not_lines error is (inl e) = inl (inr e)
    not_lines error is (inr h) = inr (unread bytes h.0 whole_list small (h.2 held is) (ap (λ (x : ListError). Err x) h.1))

    -- they are
    pub lines_listed : (table : FileMap) → IsFolder held folder
        → ((held : FileMap) → IsFolder held folder → Gives held (feed_lines bytes) empty (given_by held table)) → IsListed held name table
    lines_listed table is h = record { bytes = bytes; there = whole_list; small = small; gives = h held is }

-- ---- the files

-- the sources of the entries are the names of the folder that they give
pub sources_listed : (held table : FileMap) (names : List (List ℕ)) → AreHeld held table → names ≡ keys table
    → IsPermutation (keys (given_by held table)) names
sources_listed held table names there e =
    subst (λ (ns : List (List ℕ)). IsPermutation ns names) (e ∙ sym (given_keys held table there)) (IsPermutation-refl names)

-- what loading them answers is what the list gives
pub list_answer : (held : FileMap) (name : List ℕ) (table : FileMap) (result : Result FileSet ListError) → IsListed held name table
    → IsListLoad held table result → IsListAnswer held name result
list_answer held name table (Ok files) l h = taken l.bytes (given_by held table) files l.there l.small l.gives h refl
list_answer held name table (Err error) l (inl o) = inl o
list_answer held name table (Err error) l (inr h) =
    inr (refused l.bytes (given_by held table) h.0 l.there l.small l.gives h.1 (ap (λ (x : ListError). Err x) h.2))
