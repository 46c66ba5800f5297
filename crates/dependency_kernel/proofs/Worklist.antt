-- One step of the worklist, over plain values.
use Rattle.std.proofs.Common.{◌≡◌, ℕ, ◌+◌, length, length-append, ◌<◌, ◌⊎◌, Bool, true, false, cond, refl, ap, sym, ◌∙◌, subst, inl, inr, arith, List}
use Rattle.std.proofs.Common.{[], ◌∷◌, ◌++◌, Option, None, Contains}
use Rattle.std.proofs.lemmas.List.Elements.{Contains-append_left, Contains-append_right, Contains-append_cases, Contains-push, Contains-push_cases}
use Rattle.std.specs.Ordering.{is_eq}
use Rattle.std.proofs.lemmas.Cmp.{tied_itself}
use Rattle.std.specs.BTreeMap.{BTreeMap, is_at, get, values}
use Rattle.std.specs.Prelude.{sum_by, unwrap_or}
use Rattle.std.specs.Option.{option_map}
use Rattle.std.specs.List.{list_any}
use Rattle.std.specs.Map.{values_of, remove_entry}
use Rattle.std.proofs.lemmas.Map.Entries.{sum_by-remove_entry}
use Rattle.std.specs.BTreeSet.{BTreeSet, contains}
use Rattle.std.specs.Global.{Vec}
use Rattle.rotor_base.specs.declared.place.Place.{Place}
use Rattle.rotor_base.specs.declared.place.Link.{Link}
use Rattle.dependency_kernel.specs.Foot.{Joined, Path, here, along}
use Rattle.rotor_base.specs.Place.{place_cmp}
use Rattle.dependency_kernel.specs.Neighbors.{HasNeighbor}
use Rattle.rotor_base.proofs.Places.{place_found, place_total}
use Rattle.dependency_kernel.proofs.Table.{InList, Puts, at_from, put_only, IsTaken}

-- the set has the declaration
abbrev pub Has : BTreeSet Place → Place → Type 0
Has decls p = contains place_cmp decls p ≡ true

-- the declaration is taken already, or is still to do
abbrev pub Seen : BTreeSet Place → List Place → Place → Type 0
Seen decls todo p = Has decls p ⊎ Contains todo p

-- what the worklist keeps
pub record Works (links : List Link) (d : Place) (table : BTreeMap Place (Vec Place)) (decls : BTreeSet Place) (todo : List Place) : Type 0 where
  pub sound : (p : Place) → Seen decls todo p → Path links d p
  pub start : Seen decls todo d
  pub joined : (a b : Place) → HasNeighbor table a b → Joined links a b
  -- each link out of a declaration is still in the table, or its other end is seen
  pub open_or_seen : (a b : Place) → Joined links a b → (HasNeighbor table a b × (Has decls a → ⊥)) ⊎ Seen decls todo b

-- with nothing to do, all that is reached is taken
module _ (links : List Link) (d : Place) (table : BTreeMap Place (Vec Place)) (decls : BTreeSet Place) (works : Works links d table decls []) where
  taken : (p : Place) → Seen decls [] p → Has decls p
  taken p (inl h) = h
  taken p (inr h) = let below : h.0 < 0 = h.1 in absurd (omega arith)

  pub all_taken : (p : Place) → Path links d p → Has decls p
  all_taken p here = taken d works.start
  all_taken p (along a b path j) = elim (works.open_or_seen a b j) [
    | inl o ↦ absurd (o.1 (all_taken a path))
    | inr s ↦ taken b s
  ]

module _ (links : List Link) (d : Place) (table table' : BTreeMap Place (Vec Place)) (decls decls' : BTreeSet Place)
    (todo rest todo' next : List Place) (place : Place)
    (pop : todo ≡ rest ++ place ∷ []) (more : todo' ≡ rest ++ next)
    (gone : Puts table table' place None)
    (next_has : (b : Place) → HasNeighbor table place b → Contains next b)
    (next_only : (b : Place) → Contains next b → HasNeighbor table place b)
    (put : (q : Place) → contains place_cmp decls' q ≡ cond (is_at (place_cmp place) q) true (contains place_cmp decls q))
    (works : Works links d table decls todo) where
  in_todo : (p : Place) → Contains (rest ++ place ∷ []) p → Contains todo p
  in_todo p h = let P : List Place → Type 0 = λ xs. Contains xs p in subst P (sym pop) h

  in_new : (p : Place) → Contains (rest ++ next) p → Contains todo' p
  in_new p h = let P : List Place → Type 0 = λ xs. Contains xs p in subst P (sym more) h

  at_place : (q : Place) (t : Bool) → is_at (place_cmp place) q ≡ t → contains place_cmp decls' q ≡ cond t true (contains place_cmp decls q)
  at_place q t e = put q ∙ ap (λ (u : Bool). cond u true (contains place_cmp decls q)) e

  has_keeps : (p : Place) → Has decls p → Has decls' p
  has_keeps p h = by_test (is_at (place_cmp place) p) refl where
    by_test : (t : Bool) → is_at (place_cmp place) p ≡ t → Has decls' p
    by_test true e = at_place p true e
    by_test false e = at_place p false e ∙ h

  has_place : Has decls' place
  has_place = at_place place true (ap is_eq (tied_itself place_total place))

  seen_keeps : (p : Place) → Seen decls todo p → Seen decls' todo' p
  seen_keeps p (inl h) = inl (has_keeps p h)
  seen_keeps p (inr h) =
      let P : List Place → Type 0 = λ xs. Contains xs p in
      elim (Contains-push_cases rest place p (subst P pop h)) [
        | inl before ↦ inr (in_new p (Contains-append_left rest next p before))
        | inr e ↦ inl (let Q : Place → Type 0 = λ q. Has decls' q in subst Q e has_place)
      ]

  path_place : Path links d place
  path_place = works.sound place (inr (in_todo place (Contains-push rest place)))

  sound : (p : Place) → Seen decls' todo' p → Path links d p
  sound p (inl h) = by_test (is_at (place_cmp place) p) refl where
    by_test : (t : Bool) → is_at (place_cmp place) p ≡ t → Path links d p
    by_test true e = subst (Path links d) (place_found place p e) path_place
    by_test false e = works.sound p (inl (sym (at_place p false e) ∙ h))
  sound p (inr h) =
      let P : List Place → Type 0 = λ xs. Contains xs p in
      elim (Contains-append_cases rest next p (subst P more h)) [
        | inl before ↦ works.sound p (inr (in_todo p (Contains-append_left rest (place ∷ []) p before)))
        | inr new ↦ along place p path_place (works.joined place p (next_only p new))
      ]

  joined : (a b : Place) → HasNeighbor table' a b → Joined links a b
  joined a b h = elim (put_only table table' place None gone a b h) [ inl before ↦ works.joined a b before | inr new ↦ absurd new.1 ]

  open_or_seen : (a b : Place) → Joined links a b → (HasNeighbor table' a b × (Has decls' a → ⊥)) ⊎ Seen decls' todo' b
  open_or_seen a b j = elim (works.open_or_seen a b j) [
    | inr s ↦ inr (seen_keeps b s)
    | inl o ↦ by_test o (is_at (place_cmp place) a) refl
  ] where
    by_test : HasNeighbor table a b × (Has decls a → ⊥) → (t : Bool) → is_at (place_cmp place) a ≡ t → (HasNeighbor table' a b × (Has decls' a → ⊥))
        ⊎ Seen decls' todo' b
    by_test o true e =
        let Q : Place → Type 0 = λ q. HasNeighbor table q b in
        inr (inr (in_new b (Contains-append_right rest next b (next_has b (subst Q (sym (place_found place a e)) o.0)))))
    by_test o false e = inl (subst (InList b) (sym (at_from table table' place None gone a false e)) o.0, λ h. o.1 (sym (at_place a false e) ∙ h))

  pub works_on : Works links d table' decls' todo'
  works_on = record { sound = sound; start = seen_keeps d works.start; joined = joined; open_or_seen = open_or_seen }

-- the worklist begins with the declaration alone
pub works_begin : (links : List Link) (d : Place) (table : BTreeMap Place (Vec Place)) (decls : BTreeSet Place) (todo none : List Place)
    → decls.keys ≡ [] → none ≡ [] → todo ≡ none ++ d ∷ []
    → ((a b : Place) → HasNeighbor table a b → Joined links a b) → ((a b : Place) → Joined links a b → HasNeighbor table a b)
    → Works links d table decls todo
works_begin links d table decls todo none empty nothing first joined all =
    record { sound = sound; start = inr start; joined = joined; open_or_seen = λ a b j. inl (all a b j, not_taken a) } where
      not_taken : (p : Place) → Has decls p → ⊥
      not_taken p h = let e : false ≡ true = sym (ap (list_any (is_at (place_cmp p))) empty) ∙ h in cc

      only : todo ≡ d ∷ []
      only = first ∙ ap (λ (xs : List Place). xs ++ d ∷ []) nothing

      start : Contains todo d
      start = let P : List Place → Type 0 = λ xs. Contains xs d in subst P (sym only) (Contains-push [] d)

      sound : (p : Place) → Seen decls todo p → Path links d p
      sound p (inl h) = absurd (not_taken p h)
      sound p (inr h) =
          let P : List Place → Type 0 = λ xs. Contains xs p in
          elim (Contains-push_cases [] d p (subst P only h)) [
            | inl before ↦ let below : before.0 < 0 = before.1 in absurd (omega arith)
            | inr e ↦ subst (Path links d) e here
          ]

-- how many neighbors a list has
abbrev pub count : Vec Place → ℕ
count list = length list.items

-- each step takes one off what is left
pub falls : (table table' : BTreeMap Place (Vec Place)) (place : Place) (taken : Option (Vec Place)) (todo rest todo' next : List Place)
    → table'.entries ≡ remove_entry (is_at (place_cmp place)) table.entries → taken ≡ get place_cmp table place → IsTaken taken next
    → todo ≡ rest ++ place ∷ [] → todo' ≡ rest ++ next
    → sum_by count (values table') + length todo' < sum_by count (values table) + length todo
falls table table' place taken todo rest todo' next entries value is pop more =
    let whole = sum_by-remove_entry count (is_at (place_cmp place)) table.entries in
    let left : sum_by count (values table') ≡ sum_by count (values_of (remove_entry (is_at (place_cmp place)) table.entries)) =
    ap (λ es. sum_by count (values_of es)) entries in
    let part : unwrap_or (option_map count (get place_cmp table place)) 0 ≡ length next = ap (λ o. unwrap_or (option_map count o) 0) (sym value)
    ∙ counted is in
    omega (arith, whole, left, part, ap length pop, ap length more, length-append rest (place ∷ []), length-append rest next) where
      counted : IsTaken taken next → unwrap_or (option_map count taken) 0 ≡ length next
      counted (inl e) = ap (λ o. unwrap_or (option_map count o) 0) e.1 ∙ ap length e.2
      counted (inr e) = ap (λ o. unwrap_or (option_map count o) 0) e.0 ∙ ap length (sym e.1)
