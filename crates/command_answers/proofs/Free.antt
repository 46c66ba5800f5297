-- Whether a binder may be renamed is decided, and so is the least changed binder that may not.
use Rattle.std.proofs.Common.{◌≡◌, ◌⊎◌, inl, inr, List, Bool, true, false, Option, Some, None, Contains, refl, sym, ap, subst}
use Rattle.rotor_base.specs.Place.{IsBefore}
use Rattle.rotor_base.specs.declared.place.Goal.{Goal}
use Rattle.rotor_base.specs.declared.place.Goal.TheVariants.{Decl, Outside, Missing, Hidden, Blur}
use Rattle.rotor_base.specs.declared.place.Link.{Link}
use Rattle.rotor_base.specs.declared.place.Place.{Place}
use Rattle.rotor_base.specs.declared.place.Ref.{Ref}
use Rattle.value_sites.specs.Places.{Site}
use Rattle.ml_trees.specs.Tree.{UnitTree}
use Rattle.binding_model.specs.Facts.{facts}
use Rattle.binding_model.specs.Renaming.{IsBlur, IsFixedSite, IsFree, HasBehind, at_place, places}
use Rattle.capture_check.proofs.Before.{not_before}
use Rattle.facts_laws.proofs.Sorted.{before_all}
use Rattle.ladder_laws.proofs.Least.{Decides, Ranked, Some_of, before, behind, decides_as, decides_one, decides_some, same}
use Rattle.ladder_laws.proofs.Repeats.{contained_some, place_rank, some_contained}
use Rattle.rename_verify.specs.Changed.{Changed}
use Rattle.rename_verify.specs.Fixed.{IsHeld, IsLeastHeld}
use Rattle.command_answers.proofs.Listed.{both_known, either_known, not_known, one_or_none}

abbrev Known : Type 0 → Type 0
Known A = A ⊎ (A → ⊥)

-- ---- places, sites and goals

place_known : (p q : Place) → Known (p ≡ q)
place_known p q = by (place_rank p q) where
  by : Ranked (IsBefore p q) (p ≡ q) (IsBefore q p) → Known (p ≡ q)
  by (before h) = inr (λ e. not_before q (subst (λ z. IsBefore z q) e h))
  by (same e) = inl e
  by (behind h) = inr (λ e. not_before q (subst (λ z. IsBefore q z) e h))

fixed_known : (o : Option Site) → Known (IsFixedSite o)
fixed_known None = inr (λ k. k)
fixed_known (Some x) = by (x.operator) (x.pun) refl refl where
  by : (a b : Bool) → x.operator ≡ a → x.pun ≡ b → Known (IsFixedSite (Some x))
  by true b p q = inl (rw p refl)
  by false true p q = inl (rw (p, q) refl)
  by false false p q = inr (λ h. let wrong : false ≡ true = rw (p, q) at h in cc)

blur_known : (g : Goal) → Known (IsBlur g)
blur_known (Decl d) = inr (λ k. k)
blur_known Outside = inr (λ k. k)
blur_known Missing = inr (λ k. k)
blur_known Hidden = inr (λ k. k)
blur_known (Blur by n o) = inl tt

outside_known : (g : Goal) → Known (g ≡ Outside)
outside_known Outside = inl refl
outside_known (Decl d) = inr (λ e. cc)
outside_known Missing = inr (λ e. cc)
outside_known Hidden = inr (λ e. cc)
outside_known (Blur by n o) = inr (λ e. cc)

module _ (d : Place) where
  decl_known : (g : Goal) → Known (g ≡ Decl d)
  decl_known (Decl e) = by (place_known e d) where
    by : Known (e ≡ d) → Known (Decl e ≡ Decl d)
    by (inl s) = inl (ap (λ (z : Place). Decl z) s)
    by (inr n) = inr (λ s. n (let k : ◌≡◌ {A = Goal} (Decl e) (Decl d) = s in cc))
  decl_known Outside = inr (λ e. cc)
  decl_known Missing = inr (λ e. cc)
  decl_known Hidden = inr (λ e. cc)
  decl_known (Blur by n o) = inr (λ e. cc)

  behind_known : (g : Goal) → Known (HasBehind d g)
  behind_known (Decl e) = inr (λ k. k)
  behind_known Outside = inr (λ k. k)
  behind_known Missing = inr (λ k. k)
  behind_known Hidden = inr (λ k. k)
  behind_known (Blur by n None) = inr (λ k. k)
  behind_known (Blur by n (Some e)) = place_known e d

-- ---- a binder

module _ (us : List UnitTree) (d : Place) where
  -- a reference, or a link, by which the binder may not be renamed
  abbrev Holds : Ref → Type 0
  Holds r = ((r.goal ≡ Decl d) × IsFixedSite (at_place (places us) r.at)) ⊎ HasBehind d r.goal

  abbrev Joins : Link → Type 0
  Joins l = (((l.item ≡ Decl d) × (l.source ≡ Outside)) ⊎ ((l.item ≡ Outside) × (l.source ≡ Decl d)))
      ⊎ (HasBehind d l.source ⊎ ((l.item ≡ Decl d) × IsBlur l.source))

  holds_known : (r : Ref) → Known (Holds r)
  holds_known r = either_known (both_known (decl_known d r.goal) (fixed_known (at_place (places us) r.at))) (behind_known d r.goal)

  joins_known : (l : Link) → Known (Joins l)
  joins_known l =
      either_known
      (either_known (both_known (decl_known d l.item) (outside_known l.source)) (both_known (outside_known l.item) (decl_known d l.source)))
      (either_known (behind_known d l.source) (both_known (decl_known d l.item) (blur_known l.source)))

  abbrev SomeRef : Type 0
  SomeRef = (r : Ref) × Contains (facts us).refs r × Holds r

  abbrev SomeLink : Type 0
  SomeLink = (l : Link) × Contains (facts us).links l × Joins l

  held_ref : SomeRef → IsFree us d → ⊥
  held_ref (r, c, inl h) f = f.uses r c h.0 h.1
  held_ref (r, c, inr h) f = f.refs_seen r c h

  held_link : SomeLink → IsFree us d → ⊥
  held_link (l, c, inl h) f = f.inside l c h
  held_link (l, c, inr h) f = f.links_seen l c h

  pub free_known : Known (IsFree us d)
  free_known =
      by (fixed_known (at_place (places us) d)) (one_or_none Holds holds_known (facts us).refs) (one_or_none Joins joins_known (facts us).links)
    where
      by : Known (IsFixedSite (at_place (places us) d)) → SomeRef ⊎ ((r : Ref) → Contains (facts us).refs r → Holds r → ⊥)
          → SomeLink ⊎ ((l : Link) → Contains (facts us).links l → Joins l → ⊥) → Known (IsFree us d)
      by (inl h) refs links = inr (λ f. f.word h)
      by (inr n) (inl r) links = inr (held_ref r)
      by (inr n) (inr refs) (inl l) = inr (held_link l)
      by (inr n) (inr refs) (inr links) = inl (record {
        word = n;
        uses = λ r c g s. refs r c (inl (g, s));
        inside = λ l c h. links l c (inl h);
        refs_seen = λ r c h. refs r c (inr h);
        links_seen = λ l c h. links l c (inr h);
      })

-- ---- the least changed binder that may not be renamed

module _ (us : List UnitTree) (list : List Changed) where
  abbrev One : Changed → Place → Type 0
  One c p = (p ≡ c.0) × (IsFree us c.0 → ⊥)

  to_held : (p : Place) → Some_of IsBefore One list p → IsHeld us list p
  to_held p h =
      let k = contained_some IsBefore One list p h in
      record { change = k.0; among = k.1; place = sym k.2.0; fixed = subst (λ q. IsFree us q → ⊥) (sym k.2.0) k.2.1 }

  from_held : (p : Place) → IsHeld us list p → Some_of IsBefore One list p
  from_held p h =
      some_contained IsBefore One list h.change p h.among (sym h.place, subst (λ q. IsFree us q → ⊥) (sym h.place) h.fixed)

  held_decided : Decides IsBefore (IsHeld us list)
  held_decided =
      decides_as IsBefore (Some_of IsBefore One list) (IsHeld us list) to_held from_held
      (decides_some IsBefore place_rank before_all One
      (λ c. decides_one IsBefore c.0 (IsFree us c.0 → ⊥) (not_known (free_known us c.0))) list)

  pub least_held : (o : Option Place) × IsLeastHeld us list o
  least_held = by held_decided where
    free : ((p : Place) → IsHeld us list p → ⊥) → (c : Changed) → Contains list c → Known (IsFree us c.0) → IsFree us c.0
    free none c k (inl f) = f
    free none c k (inr n) = absurd (none c.0 (record { change = c; among = k; place = refl; fixed = n }))

    by : Decides IsBefore (IsHeld us list) → (o : Option Place) × IsLeastHeld us list o
    by (inl l) = (Some l.it, record { there = l.has; least = l.least })
    by (inr none) = (None, λ c k. free none c k (free_known us c.0))
