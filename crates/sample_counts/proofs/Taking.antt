-- The order of linking of a first unit that needs nothing and of units of the other kind.
use Rattle.std.proofs.Common.{◌≡◌, ◌∙◌, refl, sym, ap, subst, ℕ, zero, suc, Bool, true, false, not, ◌&&◌, ◌||◌, List, [], ◌∷◌, ◌++◌, None, Some}
use Rattle.std.proofs.Common.{Option, length, if◌then◌else◌, arith, codes, nat_eq}
use Rattle.std.specs.List.{list_all, list_any}
use Rattle.std.specs.Str.{bytes_eq}
use Rattle.std.proofs.lemmas.List.{append_assoc, length-map}
use Rattle.std.proofs.lemmas.Slice.Eq.{bytes_eq-Decides}
use Rattle.ml_trees.specs.Tree.{UnitTree}
use Rattle.unit_heads.specs.Heads.{is_among}
use Rattle.unit_order.specs.Order.{needs_unit, is_ready, first_ready, go_on, taking, derived_order, takes_all}
use Rattle.unit_order.proofs.Taken.{among_more}
use Rattle.project_reading.specs.Units.{unit_named, in_order}
use Rattle.sample_counts.proofs.Walked.{first_unit}
use Rattle.sample_counts.proofs.Counted.{IsOther, AreOthers}

abbrev U0 : List ℕ
U0 = codes "U0"

pub same_word : (x : List ℕ) → bytes_eq x x ≡ true
same_word x = (bytes_eq-Decides x x).1 refl

pub turned : (x y : List ℕ) → bytes_eq x y ≡ false → bytes_eq y x ≡ false
turned x y h = by (bytes_eq y x) refl where
  by : (b : Bool) → bytes_eq y x ≡ b → b ≡ false
  by false e = refl
  by true e =
      let same : x ≡ y = sym ((bytes_eq-Decides y x).0 e) in
      let yes = (bytes_eq-Decides x y).1 same in
      let no : false ≡ true = sym h ∙ yes in
      cc

-- some of these units has the name
abbrev has_unit : List UnitTree → List ℕ → Bool
has_unit us name = list_any (λ u. bytes_eq u.name name) us

named_other : (us : List UnitTree) (name : List ℕ) → AreOthers us → has_unit us name ≡ true → IsOther (unit_named us name)
named_other [] name os h = let bad : false ≡ true = h in cc
named_other (u ∷ us) name os h = by (bytes_eq u.name name) (named_other us name os.1) h where
  by : (b : Bool) → (has_unit us name ≡ true → IsOther (unit_named us name)) → b || has_unit us name ≡ true
      → IsOther (if b then u else unit_named us name)
  by true later h = os.0
  by false later h = later h

-- what is known of the name of the next unit
record IsNext (us : List UnitTree) (name : List ℕ) : Type 0 where
  other : bytes_eq name U0 ≡ false
  has : has_unit us name ≡ true

is_some : (a b : List ℕ) → ◌≡◌ {A = Option (List ℕ)} (Some a) (Some b) → a ≡ b
is_some a b e = cc

next_of : (units : List UnitTree) (taken : List (List ℕ)) (us : List UnitTree) (name : List ℕ) → AreOthers us
    → first_ready units taken us ≡ Some name → IsNext us name
next_of units taken [] name os e = let bad : ◌≡◌ {A = Option (List ℕ)} None (Some name) = e in cc
next_of units taken (u ∷ us) name os e =
    by (not (is_among taken u.name) && is_ready units taken u) (next_of units taken us name os.1) e
  where
    on : (b : Bool) → has_unit us name ≡ true → b || has_unit us name ≡ true
    on true h = refl
    on false h = h

    by : (b : Bool) → (first_ready units taken us ≡ Some name → IsNext us name) → (if b then Some u.name else first_ready units taken us) ≡ Some name
        → IsNext (u ∷ us) name
    by true later e =
        let is = is_some u.name name e in
        let o = os.0 in
        let called : u.name ≡ o.name = ap (λ (v : UnitTree). v.name) o.is in
        record {
          other = ap (λ (x : List ℕ). bytes_eq x U0) (sym is ∙ called) ∙ o.another;
          has = ap (λ (b : Bool). b || has_unit us name) (ap (λ (x : List ℕ). bytes_eq u.name x) (sym is) ∙ same_word u.name);
        }
    by false later e = let next = later e in record { other = next.other; has = on (bytes_eq u.name name) next.has }

abbrev pub AllOthers : List UnitTree → List (List ℕ) → Type 0
AllOthers units [] = Unit {0}
AllOthers units (name ∷ names) = IsOther (unit_named units name) × AllOthers units names

module _ (others : List UnitTree) (os : AreOthers others) where
  abbrev units : List UnitTree
  units = first_unit ∷ others

  picked : (name : List ℕ) → IsNext others name → IsOther (unit_named units name)
  picked name next =
      subst (λ (b : Bool). IsOther (if b then first_unit else unit_named others name)) (sym (turned name U0 next.other))
      (named_other others name os next.has)

  -- once the first unit is taken, the names behind are of other units
  abbrev Goes : List (List ℕ) → List (List ℕ) → Type 0
  Goes taken all = (more : List (List ℕ)) × (all ≡ taken ++ more) × AllOthers units more

  behind_first : (taken : List (List ℕ)) → is_among taken U0 ≡ true → first_ready units taken units ≡ first_ready units taken others
  behind_first taken h =
      ap (λ (b : Bool). if not b && is_ready units taken first_unit then Some U0 else first_ready units taken others) h

  ends : (xs : List (List ℕ)) → xs ≡ xs ++ []
  ends [] = refl
  ends (x ∷ xs) = ap (λ (ys : List (List ℕ)). x ∷ ys) (ends xs)

  goes : (m : ℕ) (taken : List (List ℕ)) → is_among taken U0 ≡ true → Goes taken (taking m units taken)
  unfolding taking
  goes zero taken h = ([], ends taken, tt)
  goes (suc m) taken h = by (first_ready units taken units) (goes m) refl where
    by : (o : Option (List ℕ)) → ((front : List (List ℕ)) → is_among front U0 ≡ true → Goes front (taking m units front))
        → first_ready units taken units ≡ o → Goes taken (go_on taken o (taking m units))
    by None later e = ([], ends taken, tt)
    by (Some name) later e =
        let next = next_of units taken others name os (sym (behind_first taken h) ∙ e) in
        let still : is_among (taken ++ name ∷ []) U0 ≡ true = among_more taken name U0 ∙ ap (λ (b : Bool). b || bytes_eq name U0) h in
        let rest = later (taken ++ name ∷ []) still in
        (name ∷ rest.0, rest.1 ∙ append_assoc taken (name ∷ []) rest.0, (picked name next, rest.2))

  all_ready : (us : List UnitTree) → list_all (λ v. not (needs_unit first_unit v.name) || is_among [] v.name) us ≡ true
  all_ready [] = refl
  all_ready (u ∷ us) = all_ready us

  begins : derived_order units ≡ taking (length others) units (U0 ∷ [])
  unfolding taking
  begins =
      ap (λ (b : Bool). go_on [] (if b then Some U0 else first_ready units [] others) (taking (length others) units)) (all_ready units)

  others_in : (names : List (List ℕ)) → AllOthers units names → AreOthers (in_order units names)
  others_in [] h = tt
  others_in (name ∷ names) h = (h.0, others_in names h.1)

  -- the project: the first unit, and then as many others
  pub ordered : takes_all units ≡ true
      → (us : List UnitTree) × (in_order units (derived_order units) ≡ first_unit ∷ us) × AreOthers us × (length us ≡ length others)
  ordered all =
      let rest = goes (length others) (U0 ∷ []) refl in
      let names : derived_order units ≡ U0 ∷ rest.0 = begins ∙ rest.1 in
      let many : nat_eq (suc (length rest.0)) (suc (length others)) ≡ true =
      ap (λ (l : List (List ℕ)). nat_eq (length l) (suc (length others))) (sym names) ∙ all in
      let long : length rest.0 ≡ length others = grind (arith, many) in
      (in_order units rest.0, ap (in_order units) names, others_in rest.0 rest.2, length-map rest.0 (unit_named units) ∙ long)
