-- Declarations in links with the outside.
use Rattle.std.proofs.Common.{◌≡◌, ℕ, ◌+◌, ◌<◌, ◌≤◌, ◌⊎◌, Bool, true, false, cond, refl, ap, sym, ◌∙◌, subst, inl, inr, List, [], length, get_or}
use Rattle.std.proofs.Common.{Contains, AllPairs, Some, None}
use Rattle.std.proofs.lemmas.List.{get_or_default}
use Rattle.std.proofs.lemmas.Bool.{cases_order}
use Rattle.std.specs.Ordering.{is_eq}
use Rattle.std.specs.BTreeMap.{is_at}
use Rattle.std.specs.BTreeSet.{BTreeSet, contains}
use Rattle.std.specs.List.{list_any}
use Rattle.std.proofs.lemmas.Cmp.{tied_itself}
use Rattle.rotor_base.specs.declared.place.Place.{Place}
use Rattle.rotor_base.specs.declared.place.Link.{Link}
use Rattle.rotor_base.specs.declared.place.Goal.TheVariants.{Decl, Outside}
use Rattle.rotor_base.specs.Place.{IsBefore, place_cmp}
use Rattle.dependency_kernel.specs.Foot.{IsFixed, IsFixedBy, IsLeastFixed}
use Rattle.rotor_base.proofs.Places.{place_found, place_total}
use Rattle.dependency_kernel.proofs.Below.{FoundBelow, found_none, found_more, found_last, found_split, found_all, found_within}

-- one of the first n links has the declaration at one end and the outside at the other
abbrev pub FixedBelow : ℕ → List Link → Place → Type 0
FixedBelow n links p = (link : Link) × FoundBelow n links link × IsFixedBy link p

-- the set has the declarations that the first n links fix, and no more
abbrev pub IsFixedSet : ℕ → List Link → BTreeSet Place → Type 0
IsFixedSet n links fixed =
    ((p : Place) → contains place_cmp fixed p ≡ true → FixedBelow n links p)
    × ((p : Place) → FixedBelow n links p → contains place_cmp fixed p ≡ true)

-- a link fixes one declaration
fixes_one : (link : Link) (p q : Place) → IsFixedBy link p → IsFixedBy link q → p ≡ q
fixes_one link p q (inl e) (inl f) = let item : Decl p ≡ Decl q = ap (λ (l : Link). l.item) (sym e ∙ f) in cc
fixes_one link p q (inl e) (inr f) = let item : Decl p ≡ Outside = ap (λ (l : Link). l.item) (sym e ∙ f) in cc
fixes_one link p q (inr e) (inl f) = let item : Outside ≡ Decl q = ap (λ (l : Link). l.item) (sym e ∙ f) in cc
fixes_one link p q (inr e) (inr f) = let source : Decl p ≡ Decl q = ap (λ (l : Link). l.source) (sym e ∙ f) in cc

fixed_more : (n : ℕ) (links : List Link) (p : Place) → FixedBelow n links p → FixedBelow (n + 1) links p
fixed_more n links p f = (f.0, found_more n links f.0 f.1, f.2)

-- no link fixes nothing
pub fixed_begin : (links : List Link) (fixed : BTreeSet Place) → fixed.keys ≡ [] → IsFixedSet 0 links fixed
fixed_begin links fixed empty = (
  (λ p h. let e : false ≡ true = sym (ap (list_any (is_at (place_cmp p))) empty) ∙ h in cc),
  (λ p f. absurd (found_none links f.0 f.1)),
)

module _ (n : ℕ) (links : List Link) (link : Link) (within : n < length links) (is : link ≡ get_or links n link) where
  -- a link that fixes nothing changes nothing
  pub fixed_same : (fixed : BTreeSet Place) → ((p : Place) → IsFixedBy link p → ⊥) → IsFixedSet n links fixed → IsFixedSet (n + 1) links fixed
  fixed_same fixed others s = (
    (λ p h. fixed_more n links p (s.0 p h)),
    (λ p f. elim (found_split n links f.0 link within is f.1) [
      | inl before ↦ s.1 p (f.0, before, f.2)
      | inr e ↦ absurd (others p (let P : Link → Type 0 = λ l. IsFixedBy l p in subst P e f.2))
    ]),
  )

  -- a link that fixes a declaration adds it
  pub fixed_add : (fixed fixed' : BTreeSet Place) (place : Place) → IsFixedBy link place
      → ((q : Place) → contains place_cmp fixed' q ≡ cond (is_at (place_cmp place) q) true (contains place_cmp fixed q))
      → IsFixedSet n links fixed → IsFixedSet (n + 1) links fixed'
  fixed_add fixed fixed' place ends put s = (sound, whole) where
    at_place : (q : Place) (t : Bool) → is_at (place_cmp place) q ≡ t → contains place_cmp fixed' q ≡ cond t true (contains place_cmp fixed q)
    at_place q t e = put q ∙ ap (λ (u : Bool). cond u true (contains place_cmp fixed q)) e

    sound : (p : Place) → contains place_cmp fixed' p ≡ true → FixedBelow (n + 1) links p
    sound p h = by_test (is_at (place_cmp place) p) refl where
      by_test : (t : Bool) → is_at (place_cmp place) p ≡ t → FixedBelow (n + 1) links p
      by_test true e = (link, found_last n links link is, subst (IsFixedBy link) (place_found place p e) ends)
      by_test false e = fixed_more n links p (s.0 p (sym (at_place p false e) ∙ h))

    keeps : (p : Place) → contains place_cmp fixed p ≡ true → contains place_cmp fixed' p ≡ true
    keeps p h = by_test (is_at (place_cmp place) p) refl where
      by_test : (t : Bool) → is_at (place_cmp place) p ≡ t → contains place_cmp fixed' p ≡ true
      by_test true e = at_place p true e
      by_test false e = at_place p false e ∙ h

    whole : (p : Place) → FixedBelow (n + 1) links p → contains place_cmp fixed' p ≡ true
    whole p f = elim (found_split n links f.0 link within is f.1) [
      | inl before ↦ keeps p (s.1 p (f.0, before, f.2))
      | inr e ↦
          let P : Link → Type 0 = λ l. IsFixedBy l p in
          let same : place ≡ p = fixes_one link place p ends (subst P e f.2) in
          let Q : Place → Type 0 = λ q. contains place_cmp fixed' q ≡ true in
          subst Q same (at_place place true (ap is_eq (tied_itself place_total place)))
    ]

-- of all links
pub fixed_sound : (n : ℕ) (links : List Link) (fixed : BTreeSet Place) → n ≤ length links → IsFixedSet n links fixed → (p : Place)
    → contains place_cmp fixed p ≡ true → IsFixed links p
fixed_sound n links fixed le s p h = let f = s.0 p h in (f.0, found_within n links f.0 le f.1, f.2)

pub fixed_whole : (n : ℕ) (links : List Link) (fixed : BTreeSet Place) → length links ≤ n → IsFixedSet n links fixed → (p : Place) → IsFixed links p
    → contains place_cmp fixed p ≡ true
fixed_whole n links fixed le s p f = s.1 p (f.0, found_all n links f.0 le f.1, f.2)

-- no declaration of the first n is fixed
abbrev pub NoneFixed : ℕ → List Place → BTreeSet Place → Type 0
NoneFixed n decls fixed = (q : Place) → FoundBelow n decls q → contains place_cmp fixed q ≡ true → ⊥

pub none_begin : (decls : List Place) (fixed : BTreeSet Place) → NoneFixed 0 decls fixed
none_begin decls fixed q f h = found_none decls q f

pub none_more : (n : ℕ) (decls : List Place) (fixed : BTreeSet Place) (place : Place) → n < length decls → place ≡ get_or decls n place
    → contains place_cmp fixed place ≡ false
    → NoneFixed n decls fixed → NoneFixed (n + 1) decls fixed
none_more n decls fixed place within is out none q f h =
    elim (found_split n decls q place within is f) [
      | inl before ↦ none q before h
      | inr e ↦ let c : false ≡ true = sym out ∙ (ap (contains place_cmp fixed) (sym e) ∙ h) in cc
    ]

-- the first that is fixed is the least, since the declarations are in order
pub first_is_least : (n : ℕ) (links : List Link) (decls : List Place) (fixed : BTreeSet Place) (place : Place) → n < length decls
    → place ≡ get_or decls n place → contains place_cmp fixed place ≡ true
    → AllPairs IsBefore decls → ((p : Place) → contains place_cmp fixed p ≡ true → IsFixed links p)
    → ((p : Place) → IsFixed links p → contains place_cmp fixed p ≡ true)
    → NoneFixed n decls fixed → IsLeastFixed links decls (Some place)
first_is_least n links decls fixed place within is has ordered sound whole none =
    record { member = (n, within, sym is); fixed = sound place has; least = least; none = tt } where
      least : (q : Place) → Contains decls q → IsFixed links q → (place ≡ q) ⊎ IsBefore place q
      least q f fix =
          elim (cases_order f.0 n) [
            | inl e ↦ inl (is ∙ (get_or_default decls n place q within ∙ (ap (λ (k : ℕ). get_or decls k q) (sym e) ∙ f.2)))
            | inr e ↦ elim e [
              | inl lt ↦ absurd (none q (f.0, lt, f.2) (whole q fix))
              | inr gt ↦
                  let P : Place → Type 0 = λ p. IsBefore p (get_or decls f.0 place) in
                  let there : get_or decls f.0 place ≡ q = get_or_default decls f.0 place q f.1 ∙ f.2 in
                  inr (subst (IsBefore place) there (subst P (sym is) (ordered n f.0 place gt f.1)))
            ]
          ]

-- if none is fixed, there is no least
pub none_is_fixed : (n : ℕ) (links : List Link) (decls : List Place) (fixed : BTreeSet Place) → length decls ≤ n
    → ((p : Place) → IsFixed links p → contains place_cmp fixed p ≡ true)
    → NoneFixed n decls fixed → IsLeastFixed links decls None
none_is_fixed n links decls fixed le whole none =
    record { member = tt; fixed = tt; least = tt; none = λ q f fix. none q (found_all n decls q le f) (whole q fix) }
