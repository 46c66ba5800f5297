-- The links of a match stay if outside modules are filled in, if they stay before.
use Rattle.std.proofs.Common.{◌≡◌, ℕ, List, [], ◌∷◌, Option, Some, None, length, refl, sym, ap, ◌∙◌}
use Rattle.std.proofs.Common.{inl, inr}
use Rattle.std.specs.Prelude.{◌⊎◌}
use Rattle.rotor_base.specs.declared.place.Place.{Place}
use Rattle.rotor_base.specs.declared.place.Goal.{Goal}
use Rattle.rotor_base.specs.declared.place.Goal.TheVariants.{Decl, Outside, Missing, Hidden, Blur}
use Rattle.value_sites.specs.Each.{Each}
use Rattle.shape_core.specs.Shape.{Name, Shape, Struct, Functor, Unitary, Opaque, Entries, none, a_val, a_mod, a_mty, a_dark, vals, or_else}
use Rattle.shape_core.specs.Shape.{or_value, unless_some, last_of, passed, last_place, behind_of, seen, find_val, find_mod, find_mty}
use Rattle.shape_core.specs.Links.{Trace, nothing, a_step, one, pin, pin_entries, pin_vals}
use Rattle.shape_core.specs.Respell.{Words, spell_at, spell_entries}
use Rattle.shape_core.proofs.Founds.{Each as EachOf, last_of-has}
use Rattle.binding_model.proofs.Named.{Named}
use Rattle.open_world.proofs.Twofold.{Values, Parts, end, val, mod_of, mty_of, dark, filled, olds}
use Rattle.open_world.proofs.Twofold.{news, KeptGoal, KeptBlock, Fines}
use Rattle.open_world.proofs.Seen.{Mark, stays, opened, expand, marks, was, behind, finds, passes, block_last, IsDeclared, last_some, never_blur}
use Rattle.open_world.proofs.Fixed.{is_none, none_is, FixedVal, Fixed, Deep, DeepMods}
use Rattle.open_world.proofs.Told.{Told, tell, source, Any, each_of, each_of_three, pick_same, declared, seen_behind, Keeps}
use Rattle.open_world.proofs.Spelling.{named_spells, named_olds, named_news, spell_parts, olds_spelled, news_spelled, marks_spelled}
use Rattle.open_world.proofs.Spelling.{nothing_passed, found_stays}

-- ---- goals

hidden_same : (o p : Option Goal) → unless_some p Outside Hidden ≡ unless_some o Outside Hidden → is_none p ≡ is_none o
hidden_same None None e = refl
hidden_same (Some u) (Some v) e = refl
hidden_same None (Some v) e = absurd cc
hidden_same (Some u) None e = absurd cc

hidden_from : (o p : Option Goal) (a b : Goal) → (a ≡ Hidden → ⊥) → (b ≡ Hidden → ⊥) → unless_some p b Hidden ≡ unless_some o a Hidden
    → is_none p ≡ is_none o
hidden_from None None a b h k e = refl
hidden_from (Some u) (Some v) a b h k e = refl
hidden_from None (Some v) a b h k e = absurd (h (sym e))
hidden_from (Some u) None a b h k e = absurd (k e)

-- what a look-up under a module gives is a declaration, Missing or Blur
seen_not : (f : Option Goal) (p : Option Place) (n : ℕ) (g : Goal) → IsDeclared f → ((d : Place) → Decl d ≡ g → ⊥) → (Missing ≡ g → ⊥)
    → ((by : Place) (k : ℕ) (b : Option Place) → Blur by k b ≡ g → ⊥) → or_value (seen f p n) Missing ≡ g → ⊥
seen_not None None n g h a b c e = b e
seen_not (Some z) None n g h a b c e = a h.0 (sym h.1 ∙ e)
seen_not f (Some at) n g h a b c e = c at n (behind_of f) e

pub seen_decl : (f : Option Goal) (p : Option Place) (n : ℕ) (d : Place) → IsDeclared f → or_value (seen f p n) Missing ≡ Decl d → f ≡ Some (Decl d)
seen_decl None None n d h e = absurd cc
seen_decl (Some g) None n d h e = ap Some e
seen_decl f (Some at) n d h e = absurd cc

module _ (es : Entries) (h : Named Any es) (x : Name) where
  abbrev under : Goal
  under = or_value (find_val es x) Missing

  abbrev at_last : Option Place
  at_last = last_place (passed es x)

  abbrev number : ℕ
  number = length (passed es x)

  pub not_hidden : under ≡ Hidden → ⊥
  not_hidden e = seen_not (last_of (vals es) x) at_last number Hidden (declared es h x) (λ d i. cc) (λ i. cc) (λ b k o i. cc) e

  pub not_outside : under ≡ Outside → ⊥
  not_outside e = seen_not (last_of (vals es) x) at_last number Outside (declared es h x) (λ d i. cc) (λ i. cc) (λ b k o i. cc) e

  -- a Blur passes Dark entries
  pub blurred : (by : Place) (n : ℕ) (b : Option Place) → under ≡ Blur by n b → passed es x ≡ [] → ⊥
  blurred by n b e p =
      no_blur (last_of (vals es) x) (declared es h x)
      (sym (ap (λ l. or_value (seen (last_of (vals es) x) (last_place l) (length l)) Missing) p) ∙ e)
    where
      no_blur : (f : Option Goal) → IsDeclared f → or_value f Missing ≡ Blur by n b → ⊥
      no_blur None k i = cc
      no_blur (Some g) k i = never_blur (Some g) by n b k (ap Some i)

  -- what passes Dark entries is a Blur
  pub is_blur : (at : Place) (p : List Place) → passed es x ≡ at ∷ p
      → (by : Place) × (under ≡ Blur by (length (passed es x)) (behind_of (last_of (vals es) x)))
  is_blur at p e =
      let b = last_some p at in
      (b.0, ap (λ o. or_value (seen (last_of (vals es) x) o (length (passed es x))) Missing) (ap last_place e ∙ b.1))

value_same : (a b : Option Goal) → or_value b Missing ≡ or_value a Missing → (or_value a Missing ≡ Missing → ⊥) → b ≡ a
value_same None b e h = absurd (h refl)
value_same (Some g) None e h = absurd (h (sym e))
value_same (Some g) (Some k) e h = ap Some e

module _ (w : Words) (name : Place → Name) where
  -- a link that keeps its source, and has one
  pub record Stays (t : Told) : Type 0 where
    pub keeps : Keeps w t
    pub there : source t ≡ Missing → ⊥

  -- ---- pinnings

  fixed_from : (x : Name) (g : Goal) (es : Entries) → Keeps w (tell x g es None) → FixedVal w x g es
  fixed_from x g es k = record {
    hid = hidden_same (last_of (vals es) x) (last_of (vals (spell_entries w es)) (spell_at w g x)) k.same;
    word = λ e. k.outside (ap (λ o. unless_some o Outside Hidden) e);
  }

  pub fixed_vals : (es : Entries) → Each Stays (pin_vals tell es).told → Fixed w es
  fixed_vals none h = tt
  fixed_vals (a_val x g es) h =
      let p = each_of Stays (one (tell x g es None)) (pin_vals tell es) h in (fixed_from x g es p.0.0.keeps, fixed_vals es p.1)
  fixed_vals (a_mod X s es) h = fixed_vals es h
  fixed_vals (a_mty S s es) h = fixed_vals es h
  fixed_vals (a_dark at es) h = fixed_vals es h

  shown_stays : {V : Type 0} (o : Option V) (a : Trace Told) → Each Stays (unless_some o a nothing).told → o ≡ None → Each Stays a.told
  shown_stays None a h e = h
  shown_stays (Some v) a h e = absurd cc

  mutual
    pub deep_from : (s : Shape) → Each Stays (pin tell s).told → Deep w s
    deep_from (Struct es) h = deeps_from es (each_of Stays a_step (pin_entries tell es) h).1
    deep_from (Functor p r) h =
        let q = each_of_three Stays a_step (pin tell p) (pin tell r) h in (deep_from p q.1, deep_from r q.2)
    deep_from (Unitary r) h = deep_from r (each_of Stays a_step (pin tell r) h).1
    deep_from Opaque h = tt

    deeps_from : (es : Entries) → Each Stays (pin_entries tell es).told → Fixed w es × DeepMods w es
    deeps_from none h = (tt, tt)
    deeps_from (a_val x g es) h =
        let p = each_of Stays (one (tell x g es None)) (pin_entries tell es) h in
        let q = deeps_from es p.1 in
        ((fixed_from x g es p.0.0.keeps, q.0), q.1)
    deeps_from (a_mod X s es) h =
        let p = each_of_three Stays a_step (unless_some (find_mod es X) (pin tell s) nothing) (pin_entries tell es) h in
        let q = deeps_from es p.2 in
        (q.0, (λ e. deep_from s (shown_stays (find_mod es X) (pin tell s) p.1 e), q.1))
    deeps_from (a_mty S s es) h =
        let p = each_of_three Stays a_step (unless_some (find_mty es S) (pin tell s) nothing) (pin_entries tell es) h in
        let q = deeps_from es p.2 in
        (q.0, (λ e. deep_from s (shown_stays (find_mty es S) (pin tell s) p.1 e), q.1))
    deeps_from (a_dark at es) h = deeps_from es (each_of Stays a_step (pin_entries tell es) h).1

  -- ---- a target without openings

  plain_vals : (m : Parts) → marks m ≡ [] → vals (news m) ≡ vals (olds m)
  plain_vals end e = refl
  plain_vals (val x g m) e = ap (λ l. (x, g) ∷ l) (plain_vals m e)
  plain_vals (mod_of X s m) e = plain_vals m e
  plain_vals (mty_of S s m) e = plain_vals m e
  plain_vals (dark at m) e = absurd cc
  plain_vals (filled at vs m) e = absurd cc

  -- a word of what is opened stays
  abbrev KeptMarks : List Mark → Type 0
  KeptMarks [] = Unit {0}
  KeptMarks (stays at ∷ ms) = KeptMarks ms
  KeptMarks (opened at vs ∷ ms) = KeptBlock w vs × KeptMarks ms

  kept_goal : (g : Goal) (x : Name) (d : Place) → KeptGoal w g x → g ≡ Decl d → w d x ≡ x
  kept_goal (Decl c) x d k e = let same : c ≡ d = cc in ap (λ p. w p x) (sym same) ∙ k
  kept_goal Outside x d k e = absurd k
  kept_goal Missing x d k e = absurd k
  kept_goal Hidden x d k e = absurd k
  kept_goal (Blur by n o) x d k e = absurd k

  kept_each : (vs : Values) → KeptBlock w vs → EachOf (λ x g. KeptGoal w g x) vs
  kept_each [] k = tt
  kept_each (e ∷ vs) k = (k.0, kept_each vs k.1)

  -- a declaration among what is opened keeps its word
  pub kept_or : (x : Name) (d : Place) (vs : Values) (o : Option Goal) → KeptBlock w vs → (o ≡ Some (Decl d) → w d x ≡ x)
      → or_else o (last_of vs x) ≡ Some (Decl d) → w d x ≡ x
  kept_or x d vs (Some g) k h e = h e
  kept_or x d vs None k h e = last_of-has (λ y g. KeptGoal w g y) vs x (Decl d) (kept_each vs k) e

  pub kept_among : (ms : List Mark) → KeptMarks ms → (x : Name) (d : Place) → last_of (vals (expand ms)) x ≡ Some (Decl d) → w d x ≡ x
  kept_among [] k x d e = absurd cc
  kept_among (stays at ∷ ms) k x d e = kept_among ms k x d e
  kept_among (opened at vs ∷ ms) k x d e =
      kept_or x d vs (last_of (vals (expand ms)) x) k.0 (kept_among ms k.1 x d) (sym (block_last vs (expand ms) x) ∙ e)

  kept_unless : (o : Option Goal) (ms ks : List Mark) → KeptMarks ms → KeptMarks ks → KeptMarks (unless_some o ms ks)
  kept_unless None ms ks h k = h
  kept_unless (Some g) ms ks h k = k

  kept_behind : (m : Parts) → Fines w name m → (x : Name) → KeptMarks (behind x m)
  kept_behind end h x = tt
  kept_behind (val y g m) h x = kept_behind m h.1 x
  kept_behind (mod_of X s m) h x = kept_behind m h.1 x
  kept_behind (mty_of S s m) h x = kept_behind m h.1 x
  kept_behind (dark at m) h x =
      let k = kept_behind m h x in kept_unless (was x m) (stays at ∷ behind x m) (behind x m) k k
  kept_behind (filled at vs m) h x =
      let k = kept_behind m h.1 x in kept_unless (was x m) (opened at vs ∷ behind x m) (behind x m) (h.0, k) k

  -- the source of an item, in a list of which nothing is known that keeps words
  module _ (E : Parts) (fines : Fines w name E) where
    abbrev before : Named Any (olds E)
    before = named_olds w name E fines

    abbrev after : Named Any (news E)
    after = named_news w name E fines

    pub behind_is : (x : Name) (d : Place) (o : Option Goal) → last_of (vals (expand (behind x E))) x ≡ o
        → or_else o (was x E) ≡ Some (Decl d) → (w d x ≡ x) ⊎ (was x E ≡ Some (Decl d))
    behind_is x d None e i = inr i
    behind_is x d (Some g) e i = inl (kept_among (behind x E) (kept_behind E fines x) x d (e ∙ i))

    module _ (x : Name) (g : Goal) (m : Parts) (s : Stays (tell x g (olds m) (Some (olds E)))) where
      abbrev y : Name
      y = spell_at w g x

      pub hid : is_none (last_of (vals (spell_entries w (olds m))) y) ≡ is_none (last_of (vals (olds m)) x)
      hid =
          hidden_from (last_of (vals (olds m)) x) (last_of (vals (spell_entries w (olds m))) y)
          (or_value (find_val (olds E) x) Missing) (or_value (find_val (spell_entries w (olds E)) y) Missing)
          (not_hidden (olds E) before x) (not_hidden (spell_entries w (olds E)) (named_spells w (olds E) before) y) s.keeps.same

      -- the old source, if no later value hides the item
      pub old_source : last_of (vals (olds m)) x ≡ None → source (tell x g (olds m) (Some (olds E))) ≡ or_value (find_val (olds E) x) Missing
      old_source e = ap (λ o. unless_some o (or_value (find_val (olds E) x) Missing) Hidden) e

      pub old_found : last_of (vals (olds m)) x ≡ None → find_val (spell_entries w (olds E)) y ≡ find_val (olds E) x
      old_found e =
          let none : last_of (vals (spell_entries w (olds m))) y ≡ None =
          none_is (last_of (vals (spell_entries w (olds m))) y) (hid ∙ ap is_none e) in
          value_same (find_val (olds E) x) (find_val (spell_entries w (olds E)) y)
          (sym (ap (λ o. unless_some o (or_value (find_val (spell_entries w (olds E)) y) Missing) Hidden) none) ∙ (s.keeps.same ∙ old_source e))
          (λ i. s.there (old_source e ∙ i))

      module _ (fine : Fines w name m) (plain : marks m ≡ []) where
        last_new : last_of (vals (news m)) x ≡ last_of (vals (olds m)) x
        last_new = ap (λ l. last_of l x) (plain_vals m plain)

        last_spelled : last_of (vals (spell_entries w (news m))) y ≡ last_of (vals (spell_entries w (olds m))) y
        last_spelled =
            ap (λ l. last_of (vals l) y) (sym (news_spelled w name m fine))
            ∙ ap (λ l. last_of l y) (plain_vals (spell_parts w m) (marks_spelled w m ∙ plain))
            ∙ ap (λ l. last_of (vals l) y) (olds_spelled w m)

        word_if : (p : List Place) → passed (olds E) x ≡ p → last_of (vals (olds m)) x ≡ None → (passed (olds E) x ≡ []) ⊎ (y ≡ x)
        word_if [] i e = inl i
        word_if (at ∷ p) i e =
            let b = is_blur (olds E) before x at p i in
            inr (s.keeps.blur b.0 (length (passed (olds E) x)) (behind_of (last_of (vals (olds E)) x)) (old_source e ∙ b.1))

        same_if : (o : Option Goal) → last_of (vals (news m)) x ≡ o
            → unless_some o (or_value (find_val (spell_entries w (news E)) y) Missing) Hidden
            ≡ unless_some o (or_value (find_val (news E) x) Missing) Hidden
        same_if None e =
            let n : last_of (vals (olds m)) x ≡ None = sym last_new ∙ e in
            ap (λ v. or_value v Missing) (found_stays w name E fines x y (old_found n) (word_if (passed (olds E) x) refl n))
        same_if (Some v) e = refl

        -- if nothing is passed in the old list, nothing is passed in the new one
        new_passed : passed (olds E) x ≡ [] → passed (news E) x ≡ []
        new_passed e = passes x E ∙ ap (λ l. passed (expand l) x) (nothing_passed w x E e)

        outside_if : (o : Option Goal) → unless_some o (or_value (find_val (news E) x) Missing) Hidden ≡ Outside → y ≡ x
        outside_if None e = absurd (not_outside (news E) after x e)
        outside_if (Some v) e = absurd cc

        blur_from : (p : List Place) → passed (olds E) x ≡ p → last_of (vals (olds m)) x ≡ None → (by : Place) (n : ℕ) (b : Option Place)
            → or_value (find_val (news E) x) Missing ≡ Blur by n b → y ≡ x
        blur_from [] i e by n b h = absurd (blurred (news E) after x by n b h (new_passed i))
        blur_from (at ∷ p) i e by n b h =
            let q = is_blur (olds E) before x at p i in
            s.keeps.blur q.0 (length (passed (olds E) x)) (behind_of (last_of (vals (olds E)) x)) (old_source e ∙ q.1)

        blur_if : (o : Option Goal) → last_of (vals (news m)) x ≡ o → (by : Place) (n : ℕ) (b : Option Place)
            → unless_some o (or_value (find_val (news E) x) Missing) Hidden ≡ Blur by n b → y ≡ x
        blur_if None e by n b h = blur_from (passed (olds E) x) refl (sym last_new ∙ e) by n b h
        blur_if (Some v) e by n b h = absurd cc

        behind_from : (p : List Place) → passed (olds E) x ≡ p → last_of (vals (olds m)) x ≡ None → (by : Place) (n : ℕ) (d : Place)
            → or_value (find_val (news E) x) Missing ≡ Blur by n (Some d) → was x E ≡ Some (Decl d) → w d x ≡ x
        behind_from [] i e by n d h k = absurd (blurred (news E) after x by n (Some d) h (new_passed i))
        behind_from (at ∷ p) i e by n d h k =
            let q = is_blur (olds E) before x at p i in
            s.keeps.behind q.0 (length (passed (olds E) x)) d (old_source e ∙ (q.1 ∙ ap (λ f. Blur q.0 (length (passed (olds E) x)) (behind_of f)) k))

        behind_case : last_of (vals (olds m)) x ≡ None → (by : Place) (n : ℕ) (d : Place)
            → or_value (find_val (news E) x) Missing ≡ Blur by n (Some d) → w d x ≡ x
        behind_case e by n d h =
            let f = seen_behind (last_of (vals (news E)) x) (last_place (passed (news E) x)) (length (passed (news E) x)) n by d
            (declared (news E) after x) h in
            elim (behind_is x d (last_of (vals (expand (behind x E))) x) refl (sym (finds x E) ∙ f))
            [ inl k ↦ k | inr k ↦ behind_from (passed (olds E) x) refl e by n d h k ]

        behind_if : (o : Option Goal) → last_of (vals (news m)) x ≡ o → (by : Place) (n : ℕ) (d : Place)
            → unless_some o (or_value (find_val (news E) x) Missing) Hidden ≡ Blur by n (Some d) → w d x ≡ x
        behind_if None e by n d h = behind_case (sym last_new ∙ e) by n d h
        behind_if (Some v) e by n d h = absurd cc

        pub keeps_plain : Keeps w (tell x g (news m) (Some (news E)))
        keeps_plain = record {
          same =
              pick_same (last_of (vals (spell_entries w (news m))) y) (last_of (vals (news m)) x)
              (or_value (find_val (spell_entries w (news E)) y) Missing)
              Hidden (ap is_none last_spelled ∙ (hid ∙ sym (ap is_none last_new)))
              ∙ same_if (last_of (vals (news m)) x) refl;
          outside = λ e. outside_if (last_of (vals (news m)) x) e;
          blur = λ by n b e. blur_if (last_of (vals (news m)) x) refl by n b e;
          behind = λ by n d e. behind_if (last_of (vals (news m)) x) refl by n d e;
        }
