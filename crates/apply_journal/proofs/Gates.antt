-- The gate that a listing and a reading find.
use Rattle.std.proofs.Common.{◌≡◌, ℕ, ◌≤◌, List, [], ◌∷◌, Bool, true, false, ◌||◌, Option, Some, None, option_map, IfSome, IsSome, IsPermutation}
use Rattle.std.proofs.Common.{Decides, String, string_bytes, map, length, take, refl, sym, ap, ◌∙◌, arith, length-take}
use Rattle.std.specs.Option.{is_some, ForSome}
use Rattle.std.specs.List.{list_any}
use Rattle.std.specs.Str.{bytes_eq}
use Rattle.std.specs.Cmp.Lexicographic.{bytes_decides}
use Rattle.std.specs.FinMap.{get, keys}
use Rattle.std.specs.declared.alloc.Global.{Global}
use Rattle.std.proofs.lemmas.List.{take_all}
use Rattle.std.proofs.lemmas.List.Sorted.{list_any-IsPermutation}
use Rattle.tree_io.specs.Outside.{FileMap}
use Rattle.apply_journal.proofs.Maps.{any_same, held_name}
use Rattle.apply_journal.specs.Recovered.{IsOpen, gate_name, open_bytes}

any_map : (test : List ℕ → Bool) (xs : List (String Global)) → list_any test (map string_bytes xs) ≡ list_any (λ x. test (string_bytes x)) xs
any_map test [] = refl
any_map test (x ∷ xs) = ap (λ b. test (string_bytes x) || b) (any_map test xs)

turned : (a b : List ℕ) → bytes_eq a b ≡ bytes_eq b a
turned a b = by (bytes_eq a b) (bytes_eq b a) refl refl where
  by : (s t : Bool) → bytes_eq a b ≡ s → bytes_eq b a ≡ t → bytes_eq a b ≡ bytes_eq b a
  by true t e f = e ∙ sym ((bytes_decides b a).1 (sym ((bytes_decides a b).0 e)))
  by false false e f = e ∙ sym f
  by false true e f = let bad : false ≡ true = sym e ∙ (bytes_decides a b).1 (sym ((bytes_decides b a).0 f)) in cc

-- a name is listed if the folder has it
pub held_listed : (held : FileMap) (listed : List (String Global)) (name : List ℕ) → IsPermutation (keys held) (map string_bytes listed)
    → list_any (λ other. bytes_eq (string_bytes other) name) listed ≡ is_some (get held name)
held_listed held listed name moved =
    sym (any_map (λ w. bytes_eq w name) listed) ∙ sym (list_any-IsPermutation (λ w. bytes_eq w name) (keys held) (map string_bytes listed) moved)
    ∙ any_same (λ w. bytes_eq w name) (bytes_eq name) (keys held) (λ w. turned w name) ∙ held_name held name

absent : (file : Option (List ℕ)) (limit : ℕ) → is_some file ≡ false → ◌≡◌ {A = Option (List ℕ)} None (option_map (take limit) file)
absent None limit e = refl
absent (Some bytes) limit e = cc

pub none_read : (content : Option FileMap) (listed : List (String Global)) (name : List ℕ) (limit : ℕ) (found : Bool)
    → ForSome content (λ held. IsPermutation (keys held) (map string_bytes listed))
    → found ≡ list_any (λ other. bytes_eq (string_bytes other) name) listed → found ≡ false
    → IfSome content (λ held. ◌≡◌ {A = Option (List ℕ)} None (option_map (take limit) (get held name)))
none_read None listed name limit found h e f = tt
none_read (Some held) listed name limit found h e f = absent (get held name) limit (sym (held_listed held listed name (h held refl)) ∙ sym e ∙ f)

pub is_there : (content : Option FileMap) (listed : List (String Global)) (name : List ℕ) (found : Bool)
    → ForSome content (λ held. IsPermutation (keys held) (map string_bytes listed))
    → found ≡ list_any (λ other. bytes_eq (string_bytes other) name) listed → found ≡ true → (held : FileMap) → content ≡ Some held
    → IsSome (get held name)
is_there content listed name found h e t held is = sym (held_listed held listed name (h held is)) ∙ sym e ∙ t

whole : (w : List ℕ) → take 6 w ≡ open_bytes → w ≡ open_bytes
whole w e =
    let five : length (take 6 w) ≡ 5 = ap length e in
    let short : length w ≤ 6 = omega (arith, five, length-take 6 w) in
    sym (take_all 6 w short) ∙ e

gate_by : (gate : Option (List ℕ)) (bytes : List ℕ) (r : Bool) → Some bytes ≡ option_map (take 6) gate → r ≡ bytes_eq bytes open_bytes
    → Decides r (gate ≡ Some open_bytes)
gate_by None bytes r e f = cc
gate_by (Some w) bytes r e f =
    let same : bytes ≡ take 6 w = cc in (
      λ t. ap (λ (v : List ℕ). Some v) (whole w (sym same ∙ (bytes_decides bytes open_bytes).0 (sym f ∙ t))),
      λ o. let is : w ≡ open_bytes = cc in f ∙ (bytes_decides bytes open_bytes).1 (same ∙ ap (take 6) is),
    )

-- the gate was read
pub gate_read : (content : Option FileMap) (bytes : List ℕ) (r : Bool)
    → IfSome content (λ held. Some bytes ≡ option_map (take 6) (get held gate_name)) → r ≡ bytes_eq bytes open_bytes
    → IfSome content (λ held. Decides r (IsOpen held))
gate_read None bytes r h e = tt
gate_read (Some held) bytes r h e = gate_by (get held gate_name) bytes r h e
