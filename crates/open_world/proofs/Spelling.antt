-- The respelled parts, and what a name finds in them.
use Rattle.std.proofs.Common.{◌≡◌, List, [], ◌∷◌, length, refl, sym, ap, subst, ◌∙◌}
use Rattle.std.proofs.Common.{inl, inr, arith}
use Rattle.std.specs.Prelude.{◌⊎◌}
use Rattle.rotor_base.specs.declared.place.Place.{Place}
use Rattle.rotor_base.specs.declared.place.Goal.{Goal}
use Rattle.rotor_base.specs.declared.place.Goal.TheVariants.{Decl, Outside, Missing, Hidden, Blur}
use Rattle.shape_core.specs.Shape.{Name, Shape, Struct, Functor, Unitary, Opaque, Entries, none, a_val, a_mod, a_mty, a_dark, ◌⊕◌, vals}
use Rattle.shape_core.specs.Shape.{last_of, passed, find_val}
use Rattle.shape_core.specs.Respell.{Words, spell_at, spell_shape, spell_entries}
use Rattle.shape_core.proofs.Spelled.{spell-append}
use Rattle.binding_model.proofs.Named.{IsNamed, NamedShape, Named, named-append}
use Rattle.open_world.proofs.Twofold.{Values, block, Twofold, Known, Maps, Makes, Unknown, Filled, Parts, end, val, mod_of, mty_of, dark, filled}
use Rattle.open_world.proofs.Twofold.{old, olds}
use Rattle.open_world.proofs.Twofold.{new, news, KeptGoal, KeptBlock, HasName, Fine, Fines}
use Rattle.open_world.proofs.Seen.{stays, opened, marks, was, behind, counts, through, found, same_end, IsDeclared, sees}
use Rattle.open_world.proofs.Fixed.{spell_block}
use Rattle.open_world.proofs.Told.{Any, declared}

-- ---- goals are declarations

spelled_goal : (g : Goal) (x y : Name) → IsNamed Any g x → IsNamed Any g y
spelled_goal (Decl d) x y h = tt
spelled_goal Outside x y h = absurd h
spelled_goal Missing x y h = absurd h
spelled_goal Hidden x y h = absurd h
spelled_goal (Blur by n o) x y h = absurd h

module _ (w : Words) where
  mutual
    pub named_spelled : (s : Shape) → NamedShape Any s → NamedShape Any (spell_shape w s)
    named_spelled (Struct es) h = named_spells es h
    named_spelled (Functor p r) h = (named_spelled p h.0, named_spelled r h.1)
    named_spelled (Unitary r) h = named_spelled r h
    named_spelled Opaque h = tt

    pub named_spells : (es : Entries) → Named Any es → Named Any (spell_entries w es)
    named_spells none h = tt
    named_spells (a_val x g es) h = (spelled_goal g x (spell_at w g x) h.0, named_spells es h.1)
    named_spells (a_mod X s es) h = (named_spelled s h.0, named_spells es h.1)
    named_spells (a_mty S s es) h = (named_spelled s h.0, named_spells es h.1)
    named_spells (a_dark at es) h = named_spells es h

  kept_named : (g : Goal) (x : Name) → KeptGoal w g x → IsNamed Any g x
  kept_named (Decl d) x h = tt
  kept_named Outside x h = absurd h
  kept_named Missing x h = absurd h
  kept_named Hidden x h = absurd h
  kept_named (Blur by n o) x h = absurd h

  pub block_named : (vs : Values) → KeptBlock w vs → Named Any (block vs)
  block_named [] h = tt
  block_named (e ∷ vs) h = (kept_named e.1 e.0 h.0, block_named vs h.1)

  module _ (name : Place → Name) where
    has_named : (g : Goal) (x : Name) → HasName name g x → IsNamed Any g x
    has_named (Decl d) x h = tt
    has_named Outside x h = absurd h
    has_named Missing x h = absurd h
    has_named Hidden x h = absurd h
    has_named (Blur by n o) x h = absurd h

    mutual
      pub named_old : (s : Twofold) → Fine w name s → NamedShape Any (old s)
      named_old (Known m) h = named_olds m h
      named_old (Maps p r) h = (named_old p h.0, named_old r h.1)
      named_old (Makes r) h = named_old r h
      named_old Unknown h = tt
      named_old (Filled vs) h = tt

      pub named_olds : (m : Parts) → Fines w name m → Named Any (olds m)
      named_olds end h = tt
      named_olds (val x g m) h = (has_named g x h.0, named_olds m h.1)
      named_olds (mod_of X s m) h = (named_old s h.0, named_olds m h.1)
      named_olds (mty_of S s m) h = (named_old s h.0, named_olds m h.1)
      named_olds (dark at m) h = named_olds m h
      named_olds (filled at vs m) h = named_olds m h.1

    mutual
      pub named_new : (s : Twofold) → Fine w name s → NamedShape Any (new s)
      named_new (Known m) h = named_news m h
      named_new (Maps p r) h = (named_new p h.0, named_new r h.1)
      named_new (Makes r) h = named_new r h
      named_new Unknown h = tt
      named_new (Filled vs) h = block_named vs h

      pub named_news : (m : Parts) → Fines w name m → Named Any (news m)
      named_news end h = tt
      named_news (val x g m) h = (has_named g x h.0, named_news m h.1)
      named_news (mod_of X s m) h = (named_new s h.0, named_news m h.1)
      named_news (mty_of S s m) h = (named_new s h.0, named_news m h.1)
      named_news (dark at m) h = named_news m h
      named_news (filled at vs m) h = named-append Any (block vs) (news m) (block_named vs h.0) (named_news m h.1)

  -- ---- respelled parts

  abbrev mutual
    spell_two : Twofold → Twofold
    spell_two (Known m) = Known (spell_parts m)
    spell_two (Maps p r) = Maps (spell_two p) (spell_two r)
    spell_two (Makes r) = Makes (spell_two r)
    spell_two Unknown = Unknown
    spell_two (Filled vs) = Filled vs

    pub spell_parts : Parts → Parts
    spell_parts end = end
    spell_parts (val x g m) = val (spell_at w g x) g (spell_parts m)
    spell_parts (mod_of X s m) = mod_of X (spell_two s) (spell_parts m)
    spell_parts (mty_of S s m) = mty_of S (spell_two s) (spell_parts m)
    spell_parts (dark at m) = dark at (spell_parts m)
    spell_parts (filled at vs m) = filled at vs (spell_parts m)

  mutual
    old_spelled : (s : Twofold) → old (spell_two s) ≡ spell_shape w (old s)
    old_spelled (Known m) = ap Struct (olds_spelled m)
    old_spelled (Maps p r) = ap (λ t. Functor t (old (spell_two r))) (old_spelled p) ∙ ap (Functor (spell_shape w (old p))) (old_spelled r)
    old_spelled (Makes r) = ap Unitary (old_spelled r)
    old_spelled Unknown = refl
    old_spelled (Filled vs) = refl

    pub olds_spelled : (m : Parts) → olds (spell_parts m) ≡ spell_entries w (olds m)
    olds_spelled end = refl
    olds_spelled (val x g m) = ap (a_val (spell_at w g x) g) (olds_spelled m)
    olds_spelled (mod_of X s m) = ap (λ t. a_mod X t (olds (spell_parts m))) (old_spelled s) ∙ ap (a_mod X (spell_shape w (old s))) (olds_spelled m)
    olds_spelled (mty_of S s m) = ap (λ t. a_mty S t (olds (spell_parts m))) (old_spelled s) ∙ ap (a_mty S (spell_shape w (old s))) (olds_spelled m)
    olds_spelled (dark at m) = ap (a_dark at) (olds_spelled m)
    olds_spelled (filled at vs m) = ap (a_dark at) (olds_spelled m)

  module _ (name : Place → Name) where
    mutual
      new_spelled : (s : Twofold) → Fine w name s → new (spell_two s) ≡ spell_shape w (new s)
      new_spelled (Known m) h = ap Struct (news_spelled m h)
      new_spelled (Maps p r) h =
          ap (λ t. Functor t (new (spell_two r))) (new_spelled p h.0) ∙ ap (Functor (spell_shape w (new p))) (new_spelled r h.1)
      new_spelled (Makes r) h = ap Unitary (new_spelled r h)
      new_spelled Unknown h = refl
      new_spelled (Filled vs) h = ap Struct (sym (spell_block w vs h))

      pub news_spelled : (m : Parts) → Fines w name m → news (spell_parts m) ≡ spell_entries w (news m)
      news_spelled end h = refl
      news_spelled (val x g m) h = ap (a_val (spell_at w g x) g) (news_spelled m h.1)
      news_spelled (mod_of X s m) h =
          ap (λ t. a_mod X t (news (spell_parts m))) (new_spelled s h.0) ∙ ap (a_mod X (spell_shape w (new s))) (news_spelled m h.1)
      news_spelled (mty_of S s m) h =
          ap (λ t. a_mty S t (news (spell_parts m))) (new_spelled s h.0) ∙ ap (a_mty S (spell_shape w (new s))) (news_spelled m h.1)
      news_spelled (dark at m) h = ap (a_dark at) (news_spelled m h)
      news_spelled (filled at vs m) h =
          ap (λ l. block vs ⊕ l) (news_spelled m h.1) ∙ ap (λ l. l ⊕ spell_entries w (news m)) (sym (spell_block w vs h.0))
          ∙ sym (spell-append w (block vs) (news m))

  pub marks_spelled : (m : Parts) → marks (spell_parts m) ≡ marks m
  marks_spelled end = refl
  marks_spelled (val x g m) = marks_spelled m
  marks_spelled (mod_of X s m) = marks_spelled m
  marks_spelled (mty_of S s m) = marks_spelled m
  marks_spelled (dark at m) = ap (λ l. stays at ∷ l) (marks_spelled m)
  marks_spelled (filled at vs m) = ap (λ l. opened at vs ∷ l) (marks_spelled m)

  -- ---- a look-up that stays in the old list stays in the new one

  pub nothing_passed : (x : Name) (m : Parts) → passed (olds m) x ≡ [] → behind x m ≡ []
  nothing_passed x m e = empty (behind x m) (sym (counts x m) ∙ ap length e)
    where
      empty : {A : Type 0} (l : List A) → length l ≡ 0 → l ≡ []
      empty [] h = refl
      empty (a ∷ l) h = absurd (omega (arith, h))

  module _ (name : Place → Name) (m : Parts) (h : Fines w name m) (x y : Name) where
    through_same : (passed (olds m) x ≡ []) ⊎ (y ≡ x) → through y (behind x m) (was x m) ≡ through x (behind x m) (was x m)
    through_same (inl e) =
        let none : behind x m ≡ [] = nothing_passed x m e in
        ap (λ l. through y l (was x m)) none ∙ sym (ap (λ l. through x l (was x m)) none)
    through_same (inr e) = ap (λ z. through z (behind x m) (was x m)) e

    pub found_stays : find_val (spell_entries w (olds m)) y ≡ find_val (olds m) x → (passed (olds m) x ≡ []) ⊎ (y ≡ x)
        → find_val (spell_entries w (news m)) y ≡ find_val (news m) x
    found_stays e u =
        let k = spell_parts m in
        let named = named_olds name m h in
        let after : IsDeclared (was y k) =
        subst (λ l. IsDeclared (last_of (vals l) y)) (sym (olds_spelled m)) (declared (spell_entries w (olds m)) (named_spells (olds m) named) y) in
        let s = sees (was x m) (was y k) (passed (olds m) x) (passed (olds k) y) (declared (olds m) named x) after
        (ap (λ l. find_val l y) (olds_spelled m) ∙ e) in
        let b : behind y k ≡ behind x m = same_end x y m k (marks_spelled m) (sym (counts y k) ∙ (s.number ∙ counts x m)) in
        ap (λ l. find_val l y) (sym (news_spelled name m h)) ∙ found y k
        ∙ ap (λ l. through y l (was y k)) b ∙ ap (λ o. through y (behind x m) o) s.goal ∙ through_same u ∙ sym (found x m)
