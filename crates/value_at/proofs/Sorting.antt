-- The places of a footprint, in order.
use Rattle.std.proofs.Common.{◌≡◌, ◌⊎◌, inl, inr, ℕ, List, [], ◌∷◌, ◌++◌, length, map, Bool, true, false}
use Rattle.std.proofs.Common.{cond, drop, Contains, refl, ap, sym, ◌∙◌, subst, arith, All}
use Rattle.std.specs.List.{AllPairs}
use Rattle.std.proofs.lemmas.Bool.Decides.{nat_tests}
use Rattle.std.proofs.lemmas.List.{drop_at}
use Rattle.std.proofs.lemmas.Simd.{map-map}
use Rattle.std.proofs.lemmas.List.Elements.{All-cons, All-nil}
use Rattle.std.proofs.lemmas.List.Kept.{AllPairs-cons}
use Rattle.rotor_base.specs.declared.place.Place.{Place}
use Rattle.rotor_base.specs.declared.place.Ref.{Ref}
use Rattle.rotor_base.specs.declared.place.Foot.{Foot}
use Rattle.value_sites.specs.Each.{Each}
use Rattle.binding_model.specs.Facts.{is_before, put, in_order}
use Rattle.rename_model.specs.Foot.{leads_in, refs_to}
use Rattle.rename_parts.proofs.Having.{Has, has_left, has_right, has_split, has_mapped, has_unmapped, has_filtered, has_unfiltered, has_contained}
use Rattle.rename_parts.proofs.Having.{contained_has}
use Rattle.value_at.specs.declared.footprint_places.ValuePlace.{ValuePlace}
use Rattle.value_at.specs.Places.{place_as, places_of}
use Rattle.value_at.specs.Laws.{IsPlaceOf, PlacesAreAll, PlacesAreInOrder}

-- ---- no earlier place behind a later one

turned : (p q : Place) → is_before p q ≡ true → is_before q p ≡ false
turned p q h = grind (arith, nat_tests)

chained : (p q r : Place) → is_before r q ≡ false → is_before q p ≡ false → is_before r p ≡ false
chained p q r h k = grind (arith, nat_tests)

module _ {A : Type 0} (at : A → Place) where
  abbrev Later : A → A → Type 0
  Later x y = is_before (at y) (at x) ≡ false

  later_by : (w x y : A) (ys : List A) (b : Bool) → Later w x → Each (Later w) (y ∷ ys) → Each (Later w) (put at x ys)
      → Each (Later w) (cond b (y ∷ put at x ys) (x ∷ (y ∷ ys)))
  later_by w x y ys true h k more = (k.0, more)
  later_by w x y ys false h k more = (h, k)

  later_put : (w x : A) (ys : List A) → Later w x → Each (Later w) ys → Each (Later w) (put at x ys)
  later_put w x [] h k = (h, tt)
  later_put w x (y ∷ ys) h k = later_by w x y ys (is_before (at y) (at x)) h k (later_put w x ys h k.1)

  later_all : (w x : A) (ys : List A) → Later w x → Each (Later x) ys → Each (Later w) ys
  later_all w x [] h k = tt
  later_all w x (y ∷ ys) h k = (chained (at w) (at x) (at y) k.0 h, later_all w x ys h k.1)

  abbrev Up : List A → Type 0
  Up [] = Unit {0}
  Up (x ∷ xs) = Each (Later x) xs × Up xs

  up_by : (x y : A) (ys : List A) (b : Bool) → is_before (at y) (at x) ≡ b → Up (y ∷ ys) → Up (put at x ys)
      → Up (cond b (y ∷ put at x ys) (x ∷ (y ∷ ys)))
  up_by x y ys true e u more = (later_put y x ys (turned (at y) (at x) e) u.0, more)
  up_by x y ys false e u more = ((e, later_all x y ys e u.0), u)

  up_put : (x : A) (ys : List A) → Up ys → Up (put at x ys)
  up_put x [] u = (tt, tt)
  up_put x (y ∷ ys) u = up_by x y ys (is_before (at y) (at x)) refl u (up_put x ys u.1)

  up_order : (xs : List A) → Up (in_order at xs)
  up_order [] = tt
  up_order (x ∷ xs) = up_put x (in_order at xs) (up_order xs)

  all_of_each : (P : A → Type 0) (xs : List A) → Each P xs → All P xs
  all_of_each P [] h = All-nil P
  all_of_each P (x ∷ xs) h = All-cons P x xs h.0 (all_of_each P xs h.1)

  pairs_of_up : (xs : List A) → Up xs → AllPairs Later xs
  pairs_of_up [] u = λ i j d lt below. absurd (omega arith)
  pairs_of_up (x ∷ xs) u = AllPairs-cons Later x xs (all_of_each (Later x) xs u.0) (pairs_of_up xs u.1)

  -- ---- the same things

  put_by : (P : A → Type 0) (x y : A) (ys : List A) (b : Bool) → (P x ⊎ Has P ys → Has P (put at x ys)) → P x ⊎ Has P (y ∷ ys)
      → Has P (cond b (y ∷ put at x ys) (x ∷ (y ∷ ys)))
  put_by P x y ys true more (inl p) = inr (more (inl p))
  put_by P x y ys true more (inr (inl q)) = inl q
  put_by P x y ys true more (inr (inr k)) = inr (more (inr k))
  put_by P x y ys false more k = k

  put_has : (P : A → Type 0) (x : A) (ys : List A) → P x ⊎ Has P ys → Has P (put at x ys)
  put_has P x [] (inl p) = inl p
  put_has P x [] (inr h) = absurd h
  put_has P x (y ∷ ys) h = put_by P x y ys (is_before (at y) (at x)) (put_has P x ys) h

  behind : (P : A → Type 0) (x y : A) (ys : List A) → P x ⊎ Has P ys → P x ⊎ Has P (y ∷ ys)
  behind P x y ys (inl p) = inl p
  behind P x y ys (inr k) = inr (inr k)

  has_by : (P : A → Type 0) (x y : A) (ys : List A) (b : Bool) → (Has P (put at x ys) → P x ⊎ Has P ys)
      → Has P (cond b (y ∷ put at x ys) (x ∷ (y ∷ ys))) → P x ⊎ Has P (y ∷ ys)
  has_by P x y ys true more (inl q) = inr (inl q)
  has_by P x y ys true more (inr k) = behind P x y ys (more k)
  has_by P x y ys false more k = k

  has_put : (P : A → Type 0) (x : A) (ys : List A) → Has P (put at x ys) → P x ⊎ Has P ys
  has_put P x [] (inl p) = inl p
  has_put P x [] (inr h) = absurd h
  has_put P x (y ∷ ys) h = has_by P x y ys (is_before (at y) (at x)) (has_put P x ys) h

  order_has : (P : A → Type 0) (xs : List A) → Has P xs → Has P (in_order at xs)
  order_has P [] h = h
  order_has P (x ∷ xs) (inl p) = put_has P x (in_order at xs) (inl p)
  order_has P (x ∷ xs) (inr h) = put_has P x (in_order at xs) (inr (order_has P xs h))

  order_by : (P : A → Type 0) (x : A) (xs : List A) → (Has P (in_order at xs) → Has P xs) → P x ⊎ Has P (in_order at xs) → P x ⊎ Has P xs
  order_by P x xs more (inl p) = inl p
  order_by P x xs more (inr k) = inr (more k)

  has_order : (P : A → Type 0) (xs : List A) → Has P (in_order at xs) → Has P xs
  has_order P [] h = h
  has_order P (x ∷ xs) h = order_by P x xs (has_order P xs) (has_put P x (in_order at xs) h)

-- ---- the laws

pub places_are_in_order : PlacesAreInOrder
places_are_in_order refs foot =
    let all : List ValuePlace = map (place_as true) foot.decls ++ map (λ (r : Ref). place_as false r.at) (refs_to foot refs) in
    pairs_of_up (λ (q : ValuePlace). q.at) (in_order (λ (q : ValuePlace). q.at) all) (up_order (λ (q : ValuePlace). q.at) all)

abbrev Is : ValuePlace → ValuePlace → Type 0
Is q z = z ≡ q

declared_place : (foot : Foot) (q : ValuePlace) → Has (λ d. place_as true d ≡ q) foot.decls → (q.is_declaration ≡ true) × Contains foot.decls q.at
declared_place foot q h =
    let found = contained_has (λ d. place_as true d ≡ q) foot.decls h in
    let P : Place → Type 0 = λ d. Contains foot.decls d in
    (sym (ap (λ (z : ValuePlace). z.is_declaration) found.2), subst P (ap (λ (z : ValuePlace). z.at) found.2) found.1)

used_place : (refs : List Ref) (foot : Foot) (q : ValuePlace) → Has (λ r. (place_as false r.at ≡ q) × (leads_in foot r.goal ≡ true)) refs
    → (q.is_declaration ≡ false) × ((r : Ref) × Contains refs r × (r.at ≡ q.at) × (leads_in foot r.goal ≡ true))
used_place refs foot q h =
    let found = contained_has (λ (r : Ref). (place_as false r.at ≡ q) × (leads_in foot r.goal ≡ true)) refs h in (
      sym (ap (λ (z : ValuePlace). z.is_declaration) found.2.0),
      (found.0, found.1, ap (λ (z : ValuePlace). z.at) found.2.0, found.2.1),
    )

is_place : (refs : List Ref) (foot : Foot) (q : ValuePlace)
    → Has (Is q) (map (place_as true) foot.decls) ⊎ Has (Is q) (map (λ (r : Ref). place_as false r.at) (refs_to foot refs)) → IsPlaceOf refs foot q
is_place refs foot q (inl h) = inl (declared_place foot q (has_unmapped (place_as true) (Is q) foot.decls h))
is_place refs foot q (inr h) =
    inr (used_place refs foot q (has_unfiltered (λ (r : Ref). leads_in foot r.goal) (λ (r : Ref). place_as false r.at ≡ q) refs
    (has_unmapped (λ (r : Ref). place_as false r.at) (Is q) (refs_to foot refs) h)))

as_place : (q : ValuePlace) (b : Bool) (at : Place) → q.is_declaration ≡ b → at ≡ q.at → place_as b at ≡ q
as_place q b at e same = λ i. record { at = same i; is_declaration = sym e i }

place_is : (refs : List Ref) (foot : Foot) (q : ValuePlace) → IsPlaceOf refs foot q
    → Has (Is q) (map (place_as true) foot.decls ++ map (λ (r : Ref). place_as false r.at) (refs_to foot refs))
place_is refs foot q (inl h) =
    has_left (Is q) (map (place_as true) foot.decls) (map (λ (r : Ref). place_as false r.at) (refs_to foot refs))
    (has_mapped (place_as true) (Is q) foot.decls (has_contained (λ d. place_as true d ≡ q) foot.decls q.at h.1 (as_place q true q.at h.0 refl)))
place_is refs foot q (inr (e, (r, has, at, leads))) =
    has_right (Is q) (map (place_as true) foot.decls) (map (λ (r : Ref). place_as false r.at) (refs_to foot refs))
    (has_mapped (λ (r : Ref). place_as false r.at) (Is q) (refs_to foot refs)
    (has_filtered (λ (r : Ref). leads_in foot r.goal) (λ (r : Ref). place_as false r.at ≡ q) refs
    (has_contained (λ (r : Ref). (place_as false r.at ≡ q) × (leads_in foot r.goal ≡ true)) refs r has (as_place q false r.at e at, leads))))

pub places_are_all : PlacesAreAll
places_are_all refs foot q =
    let at : ValuePlace → Place = λ q. q.at in
    let decls : List ValuePlace = map (place_as true) foot.decls in
    let uses : List ValuePlace = map (λ (r : Ref). place_as false r.at) (refs_to foot refs) in
    let listed : Contains (places_of refs foot) q → IsPlaceOf refs foot q
    = λ has. is_place refs foot q (has_split (Is q) decls uses
    (has_order at (Is q) (decls ++ uses) (has_contained (Is q) (places_of refs foot) q has refl))) in
    let lists : IsPlaceOf refs foot q → Contains (places_of refs foot) q
    = λ is.
    let found = contained_has (Is q) (places_of refs foot) (order_has at (Is q) (decls ++ uses) (place_is refs foot q is)) in
    let P : ValuePlace → Type 0 = λ z. Contains (places_of refs foot) z in
    subst P found.2 found.1 in
    (listed, lists)

-- ---- as they are listed

pub listed_places : (refs : List Ref) (foot : Foot) (hits : List Place) (n : ℕ) → hits ≡ foot.decls ++ map (λ (r : Ref). r.at) (refs_to foot refs)
    → n ≡ length foot.decls
    → map (place_as true) foot.decls ++ map (place_as false) (drop n hits)
    ≡ map (place_as true) foot.decls ++ map (λ (r : Ref). place_as false r.at) (refs_to foot refs)
listed_places refs foot hits n is long =
    let ats : List Place = map (λ (r : Ref). r.at) (refs_to foot refs) in
    ap (λ (ps : List Place). map (place_as true) foot.decls ++ map (place_as false) ps) (ap (drop n) is ∙ drop_at foot.decls ats n (sym long))
    ∙ ap (λ (qs : List ValuePlace). map (place_as true) foot.decls ++ qs) (map-map (place_as false) (λ (r : Ref). r.at) (refs_to foot refs))
