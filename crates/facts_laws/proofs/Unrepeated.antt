-- A project that is Good repeats no name of a group.
use Rattle.std.proofs.Common.{◌≡◌, ◌<◌, ◌⊎◌, inl, inr, ℕ, zero, suc, List, [], ◌∷◌}
use Rattle.std.proofs.Common.{Bool, true, Option, Some, None, map, Contains, get_or, length, refl, ap}
use Rattle.std.proofs.Common.{sym, subst, ◌∙◌, arith}
use Rattle.std.proofs.lemmas.List.Elements.{Contains-append_cases}
use Rattle.std.proofs.lemmas.Slice.Eq.{bytes_eq-Decides}
use Rattle.std.specs.Prelude.{bytes_eq}
use Rattle.rotor_base.specs.Place.{IsBefore}
use Rattle.rotor_base.specs.declared.place.Goal.{Goal}
use Rattle.rotor_base.specs.declared.place.Goal.TheVariants.{Decl, Outside, Missing, Hidden, Blur}
use Rattle.rotor_base.specs.declared.place.Place.{Place}
use Rattle.value_sites.specs.Each.{Each}
use Rattle.ml_trees.specs.Tree.{UnitTree}
use Rattle.shape_core.specs.Shape.{Name, Entries, none, a_val, a_mod, a_mty, a_dark, vals, last_of, or_else, some_if}
use Rattle.binding_model.specs.Facts.{decls, decls_of, decl_list, AreNamedApart}
use Rattle.binding_model.specs.Renaming.{name_of}
use Rattle.binding_model.specs.Steps.{groups_of}
use Rattle.binding_model.specs.Walk.{steps}
use Rattle.binding_model.proofs.Clashing.{groups_named}
use Rattle.binding_model.proofs.Named.{IsNamed, Named}
use Rattle.binding_model.proofs.Naming.{each_in, units_named}
use Rattle.binding_model.proofs.Sounds.{sound_named}
use Rattle.capture_check.proofs.Before.{not_before}
use Rattle.facts_laws.specs.Laws.{GoodRepeatsNone}

split_in : {A : Type 0} (x : A) (xs : List A) (z : A) → Contains (x ∷ xs) z → (x ≡ z) ⊎ Contains xs z
split_in x xs z c = by c.0 c.1 c.2 where
  by : (k : ℕ) → k < suc (length xs) → get_or (x ∷ xs) k z ≡ z → (x ≡ z) ⊎ Contains xs z
  by zero less e = inl e
  by (suc k) less e = inr (k, omega (arith, less), e)

more_in : {A : Type 0} (x : A) (xs : List A) (z : A) → Contains xs z → Contains (x ∷ xs) z
more_in x xs z c = (suc c.0, omega (arith, c.1), c.2)

first_in : {A : Type 0} (x : A) (xs : List A) → Contains (x ∷ xs) x
first_in x xs = (0, omega arith, refl)

none_in : {A : Type 0} (z : A) → Contains [] z → ⊥
none_in z c = omega (arith, c.1)

or_none : {A : Type 0} (o p : Option A) → or_else o p ≡ None → (o ≡ None) × (p ≡ None)
or_none None p e = (refl, e)
or_none (Some x) p e = let wrong : Some x ≡ None = e in absurd cc

module _ (us : List UnitTree) where
  abbrev Own : Bool → Place → Name → Type 0
  Own b d x = x ≡ name_of us d

  -- a declaration has its binder's name
  abbrev IsOwn : Name × Goal → Type 0
  IsOwn v = (d : Place) → v.1 ≡ Decl d → v.0 ≡ name_of us d

  goal_own : (g : Goal) (x : Name) → IsNamed Own g x → IsOwn (x, g)
  goal_own (Decl e) x h d i = let same : e ≡ d = cc in h ∙ ap (name_of us) same
  goal_own Outside x h d i = absurd h
  goal_own Missing x h d i = absurd h
  goal_own Hidden x h d i = absurd h
  goal_own (Blur by n b) x h d i = absurd h

  vals_own : (es : Entries) → Named Own es → Each IsOwn (vals es)
  vals_own none h = tt
  vals_own (a_val x g es) h = (goal_own g x h.0, vals_own es h.1)
  vals_own (a_mod X s es) h = vals_own es h.1
  vals_own (a_mty S s es) h = vals_own es h.1
  vals_own (a_dark at es) h = vals_own es h

  in_goal : (g : Goal) (d : Place) → Contains (decl_list g) d → g ≡ Decl d
  in_goal (Decl e) d c = elim (split_in e [] d c) [ inl s ↦ ap (λ (p : Place). Decl p) s | inr k ↦ absurd (none_in d k) ]
  in_goal Outside d c = absurd (none_in d c)
  in_goal Missing d c = absurd (none_in d c)
  in_goal Hidden d c = absurd (none_in d c)
  in_goal (Blur by n b) d c = absurd (none_in d c)

  -- a declaration is found by its name
  is_found : (vs : List (Name × Goal)) → Each IsOwn vs → (d : Place) → Contains (decls_of vs) d → last_of vs (name_of us d) ≡ None → ⊥
  is_found [] h d c e = none_in d c
  is_found (v ∷ vs) h d c e =
      let o = or_none (last_of vs (name_of us d)) (some_if (bytes_eq v.0 (name_of us d)) v.1) e in
      elim (Contains-append_cases (decl_list v.1) (decls_of vs) d c) [
        | inl a ↦
            let name : v.0 ≡ name_of us d = h.0 d (in_goal v.1 d a) in
            let test : bytes_eq v.0 (name_of us d) ≡ true = (bytes_eq-Decides v.0 (name_of us d)).1 name in
            let wrong : Some v.1 ≡ None = ap (λ (b : Bool). some_if b v.1) (sym test) ∙ o.1 in
            absurd cc
        | inr b ↦ is_found vs h.1 d b o.0
      ]

  decl_same : (a b : Place) (g : Goal) → g ≡ Decl a → g ≡ Decl b → a ≡ b
  decl_same a b g e f = let both : ◌≡◌ {A = Goal} (Decl a) (Decl b) = sym e ∙ f in cc

  one_of_name : (vs : List (Name × Goal)) → AreNamedApart vs → Each IsOwn vs → (a b : Place) → Contains (decls_of vs) a → Contains (decls_of vs) b
      → name_of us a ≡ name_of us b → a ≡ b
  one_of_name [] h o a b c k e = absurd (none_in a c)
  one_of_name (v ∷ vs) h o a b c k e =
      by (Contains-append_cases (decl_list v.1) (decls_of vs) a c) (Contains-append_cases (decl_list v.1) (decls_of vs) b k)
      (one_of_name vs h.1 o.1 a b)
    where
      not_behind : (d z : Place) → Contains (decl_list v.1) d → Contains (decls_of vs) z → name_of us d ≡ name_of us z → ⊥
      not_behind d z i j s =
          let name : v.0 ≡ name_of us z = o.0 d (in_goal v.1 d i) ∙ s in
          is_found vs o.1 z j (ap (last_of vs) (sym name) ∙ h.0)

      by : Contains (decl_list v.1) a ⊎ Contains (decls_of vs) a → Contains (decl_list v.1) b ⊎ Contains (decls_of vs) b
          → (Contains (decls_of vs) a → Contains (decls_of vs) b → name_of us a ≡ name_of us b → a ≡ b) → a ≡ b
      by (inl i) (inl j) rest = decl_same a b v.1 (in_goal v.1 a i) (in_goal v.1 b j)
      by (inl i) (inr j) rest = absurd (not_behind a b i j e)
      by (inr i) (inl j) rest = absurd (not_behind b a j i (sym e))
      by (inr i) (inr j) rest = rest i j e

unmapped : (gs : List Entries) (g : List Place) → Contains (map decls gs) g → (es : Entries) × Contains gs es × (decls es ≡ g)
unmapped [] g c = absurd (none_in g c)
unmapped (x ∷ gs) g c = elim (split_in (decls x) (map decls gs) g c) [
  | inl e ↦ (x, first_in x gs, e)
  | inr k ↦ (let r = unmapped gs g k in (r.0, more_in x gs r.0 r.1, r.2))
]

pub good_repeats_none : GoodRepeatsNone
good_repeats_none us sound good first again h =
    let all = groups_named (Own us) (steps us) (units_named (Own us) us none tt (sound_named us sound)) in
    let g = unmapped (groups_of (steps us)) h.group h.among in
    let es = g.0 in
    let apart = each_in (λ x. AreNamedApart (vals x)) (groups_of (steps us)) es good.apart g.1 in
    let named = each_in (Named (Own us)) (groups_of (steps us)) es all g.1 in
    let one : first ≡ again =
    one_of_name us (vals es) apart (vals_own us es named) first again (subst (λ l. Contains l first) (sym g.2) h.here)
    (subst (λ l. Contains l again) (sym g.2) h.there) h.same in
    not_before again (subst (λ p. IsBefore p again) one h.order)
