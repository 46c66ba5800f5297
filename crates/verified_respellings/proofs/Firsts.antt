-- A renaming without the entries that an earlier one of the same place hides.
use Rattle.std.proofs.Common.{◌≡◌, inl, inr, List, [], ◌∷◌, Bool, true, false, cond, not, Some, Contains, filter, refl, ap, sym, subst, ◌∙◌}
use Rattle.rotor_base.specs.Place.{same_place}
use Rattle.rotor_base.specs.declared.place.Place.{Place}
use Rattle.shape_core.specs.Shape.{Name, or_else, some_if}
use Rattle.binding_model.specs.Renaming.{Renaming, at_place}
use Rattle.binding_model.proofs.LastEntries.{same_is}
use Rattle.binding_model.proofs.Sounds.{same_self}
use Rattle.valid_renamings.proofs.Together.{at_contains}
use Rattle.rename_verify.proofs.Alone.{first_in, more_in, none_in, split_in}

pub in_filtered : {A : Type 0} (test : A → Bool) (xs : List A) (z : A) → Contains (filter test xs) z → Contains xs z × (test z ≡ true)
in_filtered test [] z c = absurd (none_in z c)
in_filtered test (x ∷ xs) z c = by (test x) refl c (in_filtered test xs z) where
  by : (b : Bool) → test x ≡ b → Contains (cond b (x ∷ filter test xs) (filter test xs)) z
      → (Contains (filter test xs) z → Contains xs z × (test z ≡ true)) → Contains (x ∷ xs) z × (test z ≡ true)
  by true t k rest = elim (split_in x (filter test xs) z k) [
    | inl e ↦ (subst (Contains (x ∷ xs)) e (first_in x xs), subst (λ y. test y ≡ true) e t)
    | inr m ↦ (let r = rest m in (more_in x xs z r.0, r.1))
  ]
  by false t k rest = let r = rest k in (more_in x xs z r.0, r.1)

-- an entry of another place
abbrev pub is_elsewhere : Place → Place × Name → Bool
is_elsewhere d e = not (same_place d e.0)

abbrev pub firsts : Renaming → Renaming
firsts [] = []
firsts (e ∷ r) = e ∷ filter (is_elsewhere e.0) (firsts r)

at_others : (L : Renaming) (k d : Place) → same_place k d ≡ false → at_place (filter (is_elsewhere k) L) d ≡ at_place L d
at_others [] k d s = refl
at_others (x ∷ L) k d s = by (same_place k x.0) refl (at_others L k d s) where
  by : (b : Bool) → same_place k x.0 ≡ b → at_place (filter (is_elsewhere k) L) d ≡ at_place L d
      → at_place (cond (not b) (x ∷ filter (is_elsewhere k) L) (filter (is_elsewhere k) L)) d
      ≡ or_else (some_if (same_place x.0 d) x.1) (at_place L d)
  by false t rest = ap (or_else (some_if (same_place x.0 d) x.1)) rest
  by true t rest =
      let f : same_place x.0 d ≡ false = subst (λ p. same_place p d ≡ false) (same_is k x.0 t) s in
      rest ∙ sym (ap (λ b. or_else (some_if b x.1) (at_place L d)) f)

-- it gives each place the same name
pub at_firsts : (r : Renaming) (d : Place) → at_place (firsts r) d ≡ at_place r d
at_firsts [] d = refl
at_firsts (e ∷ r) d = by (same_place e.0 d) refl (at_firsts r d) where
  by : (b : Bool) → same_place e.0 d ≡ b → at_place (firsts r) d ≡ at_place r d
      → or_else (some_if (same_place e.0 d) e.1) (at_place (filter (is_elsewhere e.0) (firsts r)) d)
      ≡ or_else (some_if (same_place e.0 d) e.1) (at_place r d)
  by true s rest =
      ap (λ b. or_else (some_if b e.1) (at_place (filter (is_elsewhere e.0) (firsts r)) d)) s
      ∙ sym (ap (λ b. or_else (some_if b e.1) (at_place r d)) s)
  by false s rest = ap (or_else (some_if (same_place e.0 d) e.1)) (at_others (firsts r) e.0 d s ∙ rest)

not_same : (b : Bool) → not b ≡ true → b ≡ false
not_same false e = refl
not_same true e = let wrong : false ≡ true = e in cc

-- an entry of it is the one of its place
pub one_first : (r : Renaming) (d : Place) (y : Name) → Contains (firsts r) (d, y) → at_place (firsts r) d ≡ Some y
one_first [] d y c = absurd (none_in (d, y) c)
one_first (e ∷ r) d y c = elim (split_in e (filter (is_elsewhere e.0) (firsts r)) (d, y) c) [
  | inl i ↦ head i
  | inr k ↦ tail k (one_first r d y)
] where
  head : ◌≡◌ {A = Place × Name} e (d, y)
      → or_else (some_if (same_place e.0 d) e.1) (at_place (filter (is_elsewhere e.0) (firsts r)) d) ≡ Some y
  head i =
      let rest = at_place (filter (is_elsewhere e.0) (firsts r)) d in
      ap (λ (z : Place × Name). or_else (some_if (same_place z.0 d) z.1) rest) i ∙ ap (λ b. or_else (some_if b y) rest) (same_self d)

  tail : Contains (filter (is_elsewhere e.0) (firsts r)) (d, y) → (Contains (firsts r) (d, y) → at_place (firsts r) d ≡ Some y)
      → or_else (some_if (same_place e.0 d) e.1) (at_place (filter (is_elsewhere e.0) (firsts r)) d) ≡ Some y
  tail k rest =
      let f = in_filtered (is_elsewhere e.0) (firsts r) (d, y) k in
      let s : same_place e.0 d ≡ false = not_same (same_place e.0 d) f.1 in
      ap (λ b. or_else (some_if b e.1) (at_place (filter (is_elsewhere e.0) (firsts r)) d)) s
      ∙ (at_others (firsts r) e.0 d s ∙ rest f.0)

pub in_firsts : (r : Renaming) (d : Place) (y : Name) → Contains (firsts r) (d, y) → Contains r (d, y)
in_firsts r d y c = at_contains r d y (sym (at_firsts r d) ∙ one_first r d y c)
