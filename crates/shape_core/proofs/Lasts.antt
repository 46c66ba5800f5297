-- The last value of a list that a test accepts.
use Rattle.std.proofs.lemmas.List.{drop_more, length-take-le, take-append-drop}
use Rattle.std.proofs.Common.{◌≡◌, ℕ, ◌+◌, ◌-◌, ◌<◌, ◌≤◌, Bool, true, List, [], ◌∷◌, ◌++◌, length, take, drop, get_or, Option, Some, None, sym}
use Rattle.std.proofs.Common.{ap, ◌∙◌, arith}
use Rattle.rotor_base.specs.declared.place.Place.{Place}
use Rattle.rotor_base.specs.declared.place.Goal.{Goal}
use Rattle.shape_core.specs.declared.shared.SharedEntry.{SharedEntry}
use Rattle.shape_core.specs.declared.shared.SharedEntry.TheVariants as e
use Rattle.shape_core.specs.Node.{entries_of}
use Rattle.shape_core.specs.Shape.{Name, or_else, some_if, darks, decl_of}
use Rattle.shape_core.specs.Looks.{Test, Spot, moved, last_where, some_place}

abbrev spot : ℕ → Place → ℕ → Option Spot
spot n p k = Some (n, p, k)

module _ (test : Test) where
  abbrev at_last : List SharedEntry → Option Spot
  at_last list = last_where test (entries_of list)

  -- a value that passes, with none that passes behind it
  pub passing : (x : Name) (g : Goal) (rest : List SharedEntry) → at_last rest ≡ None → test x g ≡ true
      → at_last (e.Val x g ∷ rest) ≡ spot 0 (some_place (decl_of g)) (length (darks (entries_of rest)))
  passing x g rest empty t =
      let here : Spot = (0, some_place (decl_of g), length (darks (entries_of rest))) in
      ap (λ o. or_else (moved o) (some_if (test x g) here)) empty ∙ ap (λ b. some_if b here) t

  -- entries in front move it
  pub behind : (front rest : List SharedEntry) (p : Place) (k : ℕ) → at_last rest ≡ spot 0 p k → at_last (front ++ rest) ≡ spot (length front) p k
  behind [] rest p k h = h
  behind (e.Val y g ∷ front) rest p k h =
      ap (λ o. or_else (moved o) (some_if (test y g) (0, some_place (decl_of g), length (darks (entries_of (front ++ rest))))))
      (behind front rest p k h)
  behind (e.Mod y s ∷ front) rest p k h = ap moved (behind front rest p k h)
  behind (e.Mty y s ∷ front) rest p k h = ap moved (behind front rest p k h)
  behind (e.Dark at ∷ front) rest p k h = ap moved (behind front rest p k h)

  -- the last value of a list that passes, if none passes from a position on and the value before it does
  pub found_before : (list : List SharedEntry) (left : ℕ) (d : SharedEntry) (x : Name) (g : Goal) (p : Place) (k : ℕ) (b : Bool) → 0 < left
      → left ≤ length list → d ≡ get_or list (left - 1) d → d ≡ e.Val x g → at_last (drop left list) ≡ None
      → k ≡ length (darks (entries_of (drop left list))) → b ≡ test x g → b ≡ true → p ≡ some_place (decl_of g)
      → spot (left - 1) p k ≡ at_last list
  found_before list left d x g p k b some within is val empty count t passed place =
      let i = left - 1 in
      let next : i + 1 ≡ left = omega (arith, some) in
      let rest = drop left list in
      let seam : drop i list ≡ e.Val x g ∷ rest =
      drop_more list i d (omega (arith, some, within)) ∙ ap (λ z. z ∷ drop (i + 1) list) (sym is ∙ val) ∙ ap (λ n. e.Val x g ∷ drop n list) next in
      let here = passing x g rest empty (sym t ∙ passed) in
      let there = behind (take i list) (e.Val x g ∷ rest) (some_place (decl_of g)) (length (darks (entries_of rest))) here in
      let number : length (take i list) ≡ i = length-take-le i list (omega (arith, some, within)) in
      let whole : take i list ++ (e.Val x g ∷ rest) ≡ list = ap (λ l. take i list ++ l) (sym seam) ∙ take-append-drop i list in
      ap (λ q. spot i q k) place ∙ ap (λ n. spot i (some_place (decl_of g)) n) count
      ∙ ap (λ n. spot n (some_place (decl_of g)) (length (darks (entries_of rest)))) (sym number) ∙ sym there ∙ ap at_last whole
