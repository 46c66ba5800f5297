-- Links and paths.
use Rattle.std.proofs.Common.{◌≡◌, ℕ, ◌+◌, ◌<◌, ◌≤◌, ◌⊎◌, ap, sym, ◌∙◌, subst, inl, inr, List, length, get_or}
use Rattle.rotor_base.specs.declared.place.Place.{Place}
use Rattle.rotor_base.specs.declared.place.Link.{Link}
use Rattle.rotor_base.specs.declared.place.Goal.TheVariants.{Decl}
use Rattle.std.specs.BTreeMap.{BTreeMap}
use Rattle.std.specs.Global.{Vec}
use Rattle.dependency_kernel.specs.Neighbors.{HasNeighbor}
use Rattle.dependency_kernel.specs.Foot.{link_of, Joined}
use Rattle.dependency_kernel.proofs.Below.{FoundBelow, found_none, found_more, found_last, found_split, found_all, found_within}

-- one of the first n links joins the two declarations
abbrev pub JoinedBelow : ℕ → List Link → Place → Place → Type 0
JoinedBelow n links a b = FoundBelow n links (link_of a b) ⊎ FoundBelow n links (link_of b a)

pub joined_none : (links : List Link) (a b : Place) → JoinedBelow 0 links a b → ⊥
joined_none links a b (inl f) = found_none links (link_of a b) f
joined_none links a b (inr f) = found_none links (link_of b a) f

pub joined_more : (n : ℕ) (links : List Link) (a b : Place) → JoinedBelow n links a b → JoinedBelow (n + 1) links a b
joined_more n links a b (inl f) = inl (found_more n links (link_of a b) f)
joined_more n links a b (inr f) = inr (found_more n links (link_of b a) f)

pub joined_all : (n : ℕ) (links : List Link) (a b : Place) → length links ≤ n → Joined links a b → JoinedBelow n links a b
joined_all n links a b le (inl f) = inl (found_all n links (link_of a b) le f)
joined_all n links a b le (inr f) = inr (found_all n links (link_of b a) le f)

pub joined_within : (n : ℕ) (links : List Link) (a b : Place) → n ≤ length links → JoinedBelow n links a b → Joined links a b
joined_within n links a b le (inl f) = inl (found_within n links (link_of a b) le f)
joined_within n links a b le (inr f) = inr (found_within n links (link_of b a) le f)

-- the last of the first n + 1 links joins its own ends, and is the only new one
pub joined_last : (n : ℕ) (links : List Link) (link : Link) (a b : Place) → link ≡ get_or links n link → link ≡ link_of a b
    → FoundBelow (n + 1) links (link_of a b)
joined_last n links link a b is e = let P : Link → Type 0 = λ x. FoundBelow (n + 1) links x in subst P e (found_last n links link is)

pub joined_split : (n : ℕ) (links : List Link) (link : Link) (a b : Place) → n < length links → link ≡ get_or links n link
    → JoinedBelow (n + 1) links a b
    → JoinedBelow n links a b ⊎ ((link ≡ link_of a b) ⊎ (link ≡ link_of b a))
joined_split n links link a b within is (inl f) =
    elim (found_split n links (link_of a b) link within is f) [ inl g ↦ inl (inl g) | inr e ↦ inr (inl (sym e)) ]
joined_split n links link a b within is (inr f) =
    elim (found_split n links (link_of b a) link within is f) [ inl g ↦ inl (inr g) | inr e ↦ inr (inr (sym e)) ]

-- the ends of a link
pub same_item : (a b c d : Place) → link_of a b ≡ link_of c d → a ≡ c
same_item a b c d e = let item : Decl a ≡ Decl c = ap (λ (link : Link). link.item) e in cc

pub same_source : (a b c d : Place) → link_of a b ≡ link_of c d → b ≡ d
same_source a b c d e = let source : Decl b ≡ Decl d = ap (λ (link : Link). link.source) e in cc

-- the table has what the first n links join, and no more
abbrev pub IsTableOf : ℕ → List Link → BTreeMap Place (Vec Place) → Type 0
IsTableOf n links table =
    ((a b : Place) → HasNeighbor table a b → JoinedBelow n links a b)
    × ((a b : Place) → JoinedBelow n links a b → HasNeighbor table a b)

-- one neighbor more
pub record Adds (old new : BTreeMap Place (Vec Place)) (from to : Place) : Type 0 where
  pub added : HasNeighbor new from to
  pub kept : (a b : Place) → HasNeighbor old a b → HasNeighbor new a b
  pub only : (a b : Place) → HasNeighbor new a b → HasNeighbor old a b ⊎ ((a ≡ from) × (b ≡ to))

module _ (n : ℕ) (links : List Link) (link : Link) (within : n < length links) (is : link ≡ get_or links n link) where
  -- a link that joins no declarations changes nothing
  pub table_same : (table : BTreeMap Place (Vec Place)) → ((a b : Place) → link ≡ link_of a b → ⊥) → IsTableOf n links table
      → IsTableOf (n + 1) links table
  table_same table others t = (
    (λ a b h. joined_more n links a b (t.0 a b h)),
    (λ a b j. elim (joined_split n links link a b within is j) [
      | inl before ↦ t.1 a b before
      | inr e ↦ elim e [ inl f ↦ absurd (others a b f) | inr f ↦ absurd (others b a f) ]
    ]),
  )

  -- a link of two declarations adds each to the neighbors of the other
  pub table_more : (old mid new : BTreeMap Place (Vec Place)) (x y : Place) → link ≡ link_of x y → Adds old mid x y → Adds mid new y x
      → IsTableOf n links old → IsTableOf (n + 1) links new
  table_more old mid new x y ends one two t = (sound, whole) where
    last : FoundBelow (n + 1) links (link_of x y)
    last = joined_last n links link x y is ends

    from_mid : (a b : Place) → HasNeighbor mid a b → JoinedBelow (n + 1) links a b
    from_mid a b h = elim (one.only a b h) [
      | inl before ↦ joined_more n links a b (t.0 a b before)
      | inr e ↦ inl (let P : Link → Type 0 = λ l. FoundBelow (n + 1) links l in
          subst P (ap (λ p. link_of p y) (sym e.0) ∙ ap (link_of a) (sym e.1)) last)
    ]

    sound : (a b : Place) → HasNeighbor new a b → JoinedBelow (n + 1) links a b
    sound a b h = elim (two.only a b h) [
      | inl before ↦ from_mid a b before
      | inr e ↦ inr (let P : Link → Type 0 = λ l. FoundBelow (n + 1) links l in
          subst P (ap (λ p. link_of p y) (sym e.1) ∙ ap (link_of b) (sym e.0)) last)
    ]

    whole : (a b : Place) → JoinedBelow (n + 1) links a b → HasNeighbor new a b
    whole a b j = elim (joined_split n links link a b within is j) [
      | inl before ↦ two.kept a b (one.kept a b (t.1 a b before))
      | inr e ↦ elim e [
        | inl f ↦
            let first : x ≡ a = same_item x y a b (sym ends ∙ f) in
            let second : y ≡ b = same_source x y a b (sym ends ∙ f) in
            let P : Place → Type 0 = λ p. HasNeighbor new p y in
            let Q : Place → Type 0 = λ q. HasNeighbor new a q in
            subst Q second (subst P first (two.kept x y one.added))
        | inr f ↦
            let first : x ≡ b = same_item x y b a (sym ends ∙ f) in
            let second : y ≡ a = same_source x y b a (sym ends ∙ f) in
            let P : Place → Type 0 = λ p. HasNeighbor new p x in
            let Q : Place → Type 0 = λ q. HasNeighbor new a q in
            subst Q first (subst P second two.added)
      ]
    ]
