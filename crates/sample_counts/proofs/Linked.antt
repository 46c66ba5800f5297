-- The links that the units of a sample make, and the footprint of the `f` of the signature.
use Rattle.std.proofs.Common.{◌≡◌, ◌⊎◌, inl, inr, ◌∙◌, refl, sym, ap, subst, ℕ, zero, suc, List, [], ◌∷◌, ◌++◌, Some, Option}
use Rattle.std.proofs.Common.{codes, length, arith}
use Rattle.std.specs.Prelude.{Contains, AllPairs}
use Rattle.rotor_base.specs.Place.{IsBefore}
use Rattle.rotor_base.specs.declared.place.Place.{Place}
use Rattle.rotor_base.specs.declared.place.Foot.{Foot}
use Rattle.rotor_base.specs.declared.place.Link.{Link}
use Rattle.rotor_base.specs.declared.place.Goal.{Goal}
use Rattle.rotor_base.specs.declared.place.Goal.TheVariants.{Decl}
use Rattle.dependency_kernel.specs.Foot.{Joined, Path, IsFoot, link_of}
use Rattle.ml_trees.specs.Tree.{UnitTree}
use Rattle.shape_core.specs.Shape.{Shape, Opaque, Entries, none, a_mod, ◌⊕◌, mods, last_of, or_value, inside}
use Rattle.shape_core.specs.Links.{◌&◌, matched, link}
use Rattle.shape_core.proofs.Lists.{append_none}
use Rattle.binding_model.specs.Facts.{facts}
use Rattle.binding_model.specs.Scopes.{after_unit}
use Rattle.binding_model.specs.Steps.{Steps, trace}
use Rattle.binding_model.specs.Walk.{unit_steps, units_steps, items_steps, item_steps, apply_steps}
use Rattle.sample_counts.proofs.Trees.{other_items}
use Rattle.sample_counts.proofs.Walked.{pl, sig_f, first_unit, other_unit, first_shape, HasFirst, after_first, head, tail, made}
use Rattle.sample_counts.proofs.Walked.{body_entries, functor_adds, mod_is, mod_keeps}
use Rattle.sample_counts.proofs.Counted.{AreOthers, stays_first}

-- the `f` of `Base`, and the link of both
abbrev pub base_f : Place
base_f = pl 0 16

abbrev pub the_link : Link
the_link = link_of sig_f base_f

abbrev links_of : Steps → List Link
links_of ss = (trace link ss).told

-- ---- one unit

-- the items behind the functor
module _ (j : ℕ) (sc : Entries) (es : Entries) (is : last_of (mods sc) (codes "M") ≡ Some (made es))
    (first : last_of (mods sc) (codes "U0") ≡ Some first_shape) where
  abbrev applying : Option Shape → Option Shape → List Link
  applying f a = links_of (apply_steps (or_value f Opaque) (or_value (inside a (codes "Base" ∷ [])) Opaque))

  applied_links : links_of (item_steps j sc (head (tail other_items))) ≡ the_link ∷ []
  unfolding ◌&◌ matched
  applied_links =
      ap (λ (l : Entries). (applying (last_of (mods l) (codes "M")) (last_of (mods l) (codes "U0")) ++ []) ++ []) (append_none sc)
      ∙ ap (λ (o : Option Shape). (applying o (last_of (mods sc) (codes "U0")) ++ []) ++ []) is
      ∙ ap (λ (o : Option Shape). (applying (Some (made es)) o ++ []) ++ []) first

  rest_links : links_of (items_steps j sc (tail other_items)) ≡ the_link ∷ []
  unfolding ◌&◌
  rest_links = ap (λ (l : List Link). l ++ []) applied_links

module _ (j : ℕ) (sc : Entries) (h : HasFirst sc) where
  abbrev beyond : Entries
  beyond = sc ⊕ a_mod (codes "M") (made (body_entries j)) none

  all_links : links_of (items_steps j sc other_items) ≡ the_link ∷ []
  unfolding ◌&◌
  all_links =
      ap (λ (new : Entries). links_of (items_steps j (sc ⊕ new ⊕ none) (tail other_items))) (functor_adds j sc h)
      ∙ rest_links j (beyond ⊕ none) (body_entries j)
      (ap (λ (l : Entries). last_of (mods l) (codes "M")) (append_none beyond) ∙ mod_is sc (codes "M") (made (body_entries j)) (codes "M") refl)
      (ap (λ (l : Entries). last_of (mods l) (codes "U0")) (append_none beyond)
      ∙ mod_keeps sc (codes "M") (made (body_entries j)) (codes "U0") refl ∙ h.first)

  unit_links : (name : List ℕ) → links_of (unit_steps sc (other_unit name j)) ≡ the_link ∷ []
  unfolding ◌&◌
  unit_links name = ap (λ (l : List Link). l ++ []) all_links

-- ---- all units

-- the link, once for each of so many units
abbrev copies : List UnitTree → List Link
copies [] = []
copies (u ∷ us) = the_link ∷ copies us

units_links : (sc : Entries) (us : List UnitTree) → HasFirst sc → AreOthers us → links_of (units_steps sc us) ≡ copies us
unfolding ◌&◌
units_links sc [] h os = refl
units_links sc (u ∷ us) h os =
    ap (λ (l : List Link). l ++ links_of (units_steps (after_unit sc u) us))
    (ap (λ (v : UnitTree). links_of (unit_steps sc v)) os.0.is ∙ unit_links os.0.file sc h os.0.name)
    ∙ ap (λ (l : List Link). the_link ∷ l) (units_links (after_unit sc u) us (stays_first sc u h os.0) os.1)

pub links_are : (us : List UnitTree) → AreOthers us → (facts (first_unit ∷ us)).links ≡ copies us
unfolding ◌&◌
links_are us os = units_links (after_unit none first_unit) us after_first os

-- ---- the footprint

is_link : (us : List UnitTree) (l : Link) → Contains (copies us) l → l ≡ the_link
is_link [] l (k, less, e) = absurd (omega (arith, less))
is_link (u ∷ us) l (zero, less, e) = sym e
is_link (u ∷ us) l (suc k, less, e) = is_link us l (k, omega (arith, less), e)

sides : (a b c d : Place) → link_of a b ≡ link_of c d → (a ≡ c) × (b ≡ d)
sides a b c d e = (side a c (ap (λ (l : Link). l.item) e), side b d (ap (λ (l : Link). l.source) e)) where
  side : (p q : Place) → ◌≡◌ {A = Goal} (Decl p) (Decl q) → p ≡ q
  side p q e = cc

abbrev IsEither : Place → Type 0
IsEither p = (p ≡ sig_f) ⊎ (p ≡ base_f)

joins : (us : List UnitTree) (a b : Place) → Joined (copies us) a b → IsEither b
joins us a b (inl c) = inr (sides a b sig_f base_f (is_link us (link_of a b) c)).1
joins us a b (inr c) = inl (sides b a sig_f base_f (is_link us (link_of b a) c)).0

reached : (us : List UnitTree) (p : Place) → Path (copies us) sig_f p → IsEither p
reached us p Path.here = inl refl
reached us p (Path.along a b path joined) = joins us a b joined

not_before : (p q : Place) → p ≡ q → IsBefore p q → ⊥
not_before p q e h = by (subst (λ (x : Place). IsBefore x q) e h) where
  by : IsBefore q q → ⊥
  by (inl less) = omega (arith, less)
  by (inr less) = let l = less.1 in omega (arith, l)

three_apart : (x y z : Place) → IsEither x → IsEither y → IsEither z → IsBefore x y → IsBefore y z → IsBefore x z → ⊥
three_apart x y z (inl a) (inl b) c xy yz xz = not_before x y (a ∙ sym b) xy
three_apart x y z (inr a) (inr b) c xy yz xz = not_before x y (a ∙ sym b) xy
three_apart x y z (inl a) (inr b) (inl c) xy yz xz = not_before x z (a ∙ sym c) xz
three_apart x y z (inl a) (inr b) (inr c) xy yz xz = not_before y z (b ∙ sym c) yz
three_apart x y z (inr a) (inl b) (inl c) xy yz xz = not_before y z (b ∙ sym c) yz
three_apart x y z (inr a) (inl b) (inr c) xy yz xz = not_before x z (a ∙ sym c) xz

the_one : (x p : Place) → Contains (x ∷ []) p → x ≡ p
the_one x p (zero, less, e) = e
the_one x p (suc k, less, e) = absurd (omega (arith, less))

-- places in order, which are the two and no others
two : (xs : List Place) → AllPairs IsBefore xs → ((p : Place) → Contains xs p → IsEither p) → Contains xs sig_f → Contains xs base_f → length xs ≡ 2
two [] ordered either s b = absurd (omega (arith, s.1))
two (x ∷ []) ordered either s b =
    let same : sig_f ≡ base_f = sym (the_one x sig_f s) ∙ the_one x base_f b in
    let tokens : 7 ≡ 16 = ap (λ (p : Place). p.token) same in
    absurd (omega (arith, tokens))
two (x ∷ y ∷ []) ordered either s b = refl
two (x ∷ y ∷ z ∷ xs) ordered either s b =
    absurd (three_apart x y z (either x (0, omega arith, refl)) (either y (1, omega arith, refl)) (either z (2, omega arith, refl))
    (ordered 0 1 x (omega arith) (omega arith)) (ordered 1 2 x (omega arith) (omega arith)) (ordered 0 2 x (omega arith) (omega arith)))

-- the footprint has both declarations, if there is a unit after the first
pub two_members : (u : UnitTree) (us : List UnitTree) (foot : Foot) → AreOthers (u ∷ us) → IsFoot (facts (first_unit ∷ u ∷ us)).links sig_f foot
    → length foot.decls ≡ 2
two_members u us foot os is_foot =
    let f : IsFoot (copies (u ∷ us)) sig_f foot = subst (λ (ls : List Link). IsFoot ls sig_f foot) (links_are (u ∷ us) os) is_foot in
    two foot.decls f.ordered (λ p c. reached (u ∷ us) p (f.reached p c)) (f.all sig_f Path.here)
    (f.all base_f (Path.along sig_f base_f Path.here (inl (0, omega arith, refl))))
