-- A match keeps its links if outside modules are filled in, if it keeps them before.
use Rattle.std.proofs.Common.{◌≡◌, ℕ, zero, suc, Bool, true, false, List, [], ◌∷◌, Option, Some, None, length, refl, sym, ap, subst, ◌∙◌}
use Rattle.std.specs.Prelude.{bytes_eq}
use Rattle.rotor_base.specs.declared.place.Place.{Place}
use Rattle.rotor_base.specs.declared.place.Goal.{Goal}
use Rattle.rotor_base.specs.declared.place.Goal.TheVariants.{Decl, Missing}
use Rattle.value_sites.specs.Each.{Each}
use Rattle.shape_core.specs.Shape.{Name, Shape, Entries, ◌⊕◌, vals, or_else}
use Rattle.shape_core.specs.Shape.{or_value, some_if, unless_some, last_of, passed, last_place, behind_of, seen, find_val, find_mod, find_mty}
use Rattle.shape_core.specs.Links.{Trace, ◌&◌, nothing, a_step, one, or_empty, pin, pin_vals, match_entries, match_step, match_to}
use Rattle.shape_core.specs.Respell.{Words, spell_at, over}
use Rattle.shape_core.proofs.Founds.{Each as EachOf, last_of-has}
use Rattle.open_world.proofs.Twofold.{Values, block, Twofold, Known, Maps, Makes, Unknown, Filled, Parts, end, val, mod_of, mty_of, dark, filled}
use Rattle.open_world.proofs.Twofold.{old, olds}
use Rattle.open_world.proofs.Twofold.{new, news, HasName, Fine, Fines, twofold_mods, twofold_mtys, or_end, old_mod, new_mod}
use Rattle.open_world.proofs.Twofold.{old_mty, new_mty, old_empty, new_empty}
use Rattle.open_world.proofs.Seen.{Mark, marks, IsDeclared}
use Rattle.open_world.proofs.Fixed.{FixedVal, Fixed, Deep, same_find, fixed_new, deep_new}
use Rattle.open_world.proofs.Told.{Told, tell, each_then, each_of, each_three, each_of_three, declared, Keeps, keeps_found, keeps_vals, GoesOn}
use Rattle.open_world.proofs.Told.{keeps_step, keeps_match}
use Rattle.open_world.proofs.Spelling.{named_olds, named_news, named_new}
use Rattle.open_world.proofs.Grown.{Stays, is_blur, seen_decl, fixed_vals, deep_from, hid, old_source, old_found, keeps_plain}

module _ (w : Words) (name : Place → Name) where
  has_names : (m : Parts) → Fines w name m → EachOf (λ x g. HasName name g x) (vals (olds m))
  has_names end h = tt
  has_names (val x g m) h = (h.0, has_names m h.1)
  has_names (mod_of X s m) h = has_names m h.1
  has_names (mty_of S s m) h = has_names m h.1
  has_names (dark at m) h = has_names m h
  has_names (filled at vs m) h = has_names m h.1

  fine_or : (o : Option Twofold) (b : Bool) (s : Twofold) → Fine w name (or_end o) → Fine w name s → Fine w name (or_end (or_else o (some_if b s)))
  fine_or (Some t) b s h k = h
  fine_or None true s h k = k
  fine_or None false s h k = tt

  fine_mod : (m : Parts) → Fines w name m → (X : Name) → Fine w name (or_end (last_of (twofold_mods m) X))
  fine_mod end h X = tt
  fine_mod (val x g m) h X = fine_mod m h.1 X
  fine_mod (mod_of Y s m) h X = fine_or (last_of (twofold_mods m) X) (bytes_eq Y X) s (fine_mod m h.1 X) h.0
  fine_mod (mty_of Y s m) h X = fine_mod m h.1 X
  fine_mod (dark at m) h X = fine_mod m h X
  fine_mod (filled at vs m) h X = fine_mod m h.1 X

  fine_mty : (m : Parts) → Fines w name m → (X : Name) → Fine w name (or_end (last_of (twofold_mtys m) X))
  fine_mty end h X = tt
  fine_mty (val x g m) h X = fine_mty m h.1 X
  fine_mty (mod_of Y s m) h X = fine_mty m h.1 X
  fine_mty (mty_of Y s m) h X = fine_or (last_of (twofold_mtys m) X) (bytes_eq Y X) s (fine_mty m h.1 X) h.0
  fine_mty (dark at m) h X = fine_mty m h X
  fine_mty (filled at vs m) h X = fine_mty m h.1 X

  module _ (E : Parts) (fines : Fines w name E) where
    abbrev Old : Told → Type 0
    Old = Stays w name

    abbrev New : Told → Type 0
    New = Keeps w

    -- ---- a target with an opening: all of the source is linked with the outside

    module _ (x : Name) (g : Goal) (m : Parts) (s : Old (tell x g (olds m) (Some (olds E)))) (f : Fixed w (olds E)) where
      abbrev y : Name
      y = spell_at w g x

      named_so : (z : Name) (d : Place) → or_value (find_val (olds E) z) Missing ≡ Decl d → name d ≡ z
      named_so z d e =
          last_of-has (λ u k. HasName name k u) (vals (olds E)) z (Decl d) (has_names E fines)
          (seen_decl (last_of (vals (olds E)) z) (last_place (passed (olds E) z)) (length (passed (olds E) z)) d
          (declared (olds E) (named_olds w name E fines) z) e)

      word_decl : last_of (vals (olds m)) x ≡ None → (d : Place) → or_value (find_val (olds E) x) Missing ≡ Decl d → y ≡ x
      word_decl e d i =
          let here : find_val (olds E) y ≡ find_val (olds E) x = sym (same_find w (olds E) f y) ∙ old_found w name E fines x g m s e in
          sym (named_so y d (ap (λ v. or_value v Missing) here ∙ i)) ∙ named_so x d i

      plain_goal : last_of (vals (olds m)) x ≡ None → (v : Option Goal) → IsDeclared v
          → or_value (find_val (olds E) x) Missing ≡ or_value v Missing → y ≡ x
      plain_goal e None k i = absurd (s.there (old_source w name E fines x g m s e ∙ i))
      plain_goal e (Some j) k i = word_decl e k.0 (i ∙ k.1)

      word_case : (p : List Place) → passed (olds E) x ≡ p → last_of (vals (olds m)) x ≡ None → y ≡ x
      word_case [] i e =
          plain_goal e (last_of (vals (olds E)) x) (declared (olds E) (named_olds w name E fines) x)
          (ap (λ l. or_value (seen (last_of (vals (olds E)) x) (last_place l) (length l)) Missing) i)
      word_case (at ∷ p) i e =
          let q = is_blur (olds E) (named_olds w name E fines) x at p i in
          s.keeps.blur q.0 (length (passed (olds E) x)) (behind_of (last_of (vals (olds E)) x)) (old_source w name E fines x g m s e ∙ q.1)

      fixed_item : FixedVal w x g (olds m)
      fixed_item = record { hid = hid w name E fines x g m s; word = λ e. word_case (passed (olds E) x) refl e }

    -- ---- what a match says of the values

    abbrev OldVals : Parts → Type 0
    OldVals end = Unit {0}
    OldVals (val x g m) = Old (tell x g (olds m) (Some (olds E))) × OldVals m
    OldVals (mod_of X s m) = OldVals m
    OldVals (mty_of S s m) = OldVals m
    OldVals (dark at m) = OldVals m
    OldVals (filled at vs m) = OldVals m

    abbrev BlockVals : Values → Entries → Type 0
    BlockVals [] es = Unit {0}
    BlockVals (e ∷ vs) es = New (tell e.0 e.1 (block vs ⊕ es) (Some (news E))) × BlockVals vs es

    abbrev NewVals : Parts → Type 0
    NewVals end = Unit {0}
    NewVals (val x g m) = New (tell x g (news m) (Some (news E))) × NewVals m
    NewVals (mod_of X s m) = NewVals m
    NewVals (mty_of S s m) = NewVals m
    NewVals (dark at m) = Each New (pin_vals tell (news E)).told × NewVals m
    NewVals (filled at vs m) = BlockVals vs (news m) × NewVals m

    plain_new : (m : Parts) → Fines w name m → marks m ≡ [] → OldVals m → NewVals m
    plain_new end h p v = tt
    plain_new (val x g m) h p v = (keeps_plain w name E fines x g m v.0 h.1 p, plain_new m h.1 p v.1)
    plain_new (mod_of X s m) h p v = plain_new m h.1 p v
    plain_new (mty_of S s m) h p v = plain_new m h.1 p v
    plain_new (dark at m) h p v = absurd cc
    plain_new (filled at vs m) h p v = absurd cc

    fixed_items : (m : Parts) → Fixed w (olds E) → OldVals m → Fixed w (olds m)
    fixed_items end f v = tt
    fixed_items (val x g m) f v = (fixed_item x g m v.0 f, fixed_items m f v.1)
    fixed_items (mod_of X s m) f v = fixed_items m f v
    fixed_items (mty_of S s m) f v = fixed_items m f v
    fixed_items (dark at m) f v = fixed_items m f v
    fixed_items (filled at vs m) f v = fixed_items m f v

    block_new : (vs : Values) (es : Entries) → Fixed w (block vs ⊕ es) → Fixed w (news E) → BlockVals vs es
    block_new [] es f e = tt
    block_new (a ∷ vs) es f e = (keeps_found w a.0 a.1 (block vs ⊕ es) f.0 (news E) e (named_news w name E fines), block_new vs es f.1 e)

    block_rest : (vs : Values) (es : Entries) → Fixed w (block vs ⊕ es) → Fixed w es
    block_rest [] es f = f
    block_rest (a ∷ vs) es f = block_rest vs es f.1

    opened_new : (m : Parts) → Fixed w (news m) → Fixed w (news E) → NewVals m
    opened_new end f e = tt
    opened_new (val x g m) f e = (keeps_found w x g (news m) f.0 (news E) e (named_news w name E fines), opened_new m f.1 e)
    opened_new (mod_of X s m) f e = opened_new m f e
    opened_new (mty_of S s m) f e = opened_new m f e
    opened_new (dark at m) f e = (keeps_vals w (news E) e, opened_new m f e)
    opened_new (filled at vs m) f e = (block_new vs (news m) f e, opened_new m (block_rest vs (news m) f) e)

    new_vals : (m : Parts) → Fines w name m → OldVals m → (ms : List Mark) → marks m ≡ ms
        → (((k : Mark) (ks : List Mark) → ms ≡ k ∷ ks → Fixed w (olds E)))
        → NewVals m
    new_vals m h v [] e f = plain_new m h e v
    new_vals m h v (k ∷ ks) e f =
        let all = f k ks refl in
        opened_new m (fixed_new w name m h (fixed_items m all v)) (fixed_new w name E fines all)

    -- ---- matches of structures

    module _ (go : Shape → Shape → Trace Told)
        (on : (a b : Twofold) → Fine w name a → Fine w name b → Each Old (go (old a) (old b)).told → Each New (go (new a) (new b)).told) where
      old_vals : (m : Parts) → Each Old (match_entries tell go (olds E) (olds m)).told → OldVals m
      old_vals end h = tt
      old_vals (val x g m) h =
          let p = each_of Old (one (tell x g (olds m) (Some (olds E)))) (match_entries tell go (olds E) (olds m)) h in (p.0.0, old_vals m p.1)
      old_vals (mod_of X s m) h =
          old_vals m (each_of_three Old a_step (unless_some (find_mod (olds m) X) (go (or_empty (find_mod (olds E) X)) (old s)) nothing)
          (match_entries tell go (olds E) (olds m)) h).2
      old_vals (mty_of S s m) h =
          let t = or_empty (find_mty (olds E) S) in
          old_vals m (each_of_three Old a_step (unless_some (find_mty (olds m) S) (go t (old s) & go (old s) t) nothing)
          (match_entries tell go (olds E) (olds m)) h).2
      old_vals (dark at m) h = old_vals m (each_of_three Old a_step (pin_vals tell (olds E)) (match_entries tell go (olds E) (olds m)) h).2
      old_vals (filled at vs m) h = old_vals m (each_of_three Old a_step (pin_vals tell (olds E)) (match_entries tell go (olds E) (olds m)) h).2

      -- an opening in the target links the values of the source with the outside
      all_pinned : (m : Parts) → Each Old (match_entries tell go (olds E) (olds m)).told → (k : Mark) (ks : List Mark) → marks m ≡ k ∷ ks
          → Fixed w (olds E)
      all_pinned end h k ks e = absurd cc
      all_pinned (val x g m) h k ks e =
          all_pinned m (each_of Old (one (tell x g (olds m) (Some (olds E)))) (match_entries tell go (olds E) (olds m)) h).1 k ks e
      all_pinned (mod_of X s m) h k ks e =
          all_pinned m (each_of_three Old a_step (unless_some (find_mod (olds m) X) (go (or_empty (find_mod (olds E) X)) (old s)) nothing)
          (match_entries tell go (olds E) (olds m)) h).2 k ks e
      all_pinned (mty_of S s m) h k ks e =
          let t = or_empty (find_mty (olds E) S) in
          all_pinned m (each_of_three Old a_step (unless_some (find_mty (olds m) S) (go t (old s) & go (old s) t) nothing)
          (match_entries tell go (olds E) (olds m)) h).2 k ks e
      all_pinned (dark at m) h k ks e =
          fixed_vals w name (olds E) (each_of_three Old a_step (pin_vals tell (olds E)) (match_entries tell go (olds E) (olds m)) h).1
      all_pinned (filled at vs m) h k ks e =
          fixed_vals w name (olds E) (each_of_three Old a_step (pin_vals tell (olds E)) (match_entries tell go (olds E) (olds m)) h).1

      shown : (o : Option Twofold) (a b : Trace Told) → (Each Old a.told → Each New b.told) → Each Old (unless_some (over old o) a nothing).told
          → Each New (unless_some (over new o) b nothing).told
      shown None a b f h = f h
      shown (Some t) a b f h = tt

      one_mod : (X : Name) (s : Twofold) (m : Parts) → Fine w name s
          → Each Old (unless_some (find_mod (olds m) X) (go (or_empty (find_mod (olds E) X)) (old s)) nothing).told
          → Each New (unless_some (find_mod (news m) X) (go (or_empty (find_mod (news E) X)) (new s)) nothing).told
      one_mod X s m fs h =
          let p = last_of (twofold_mods E) X in
          let was : or_empty (find_mod (olds E) X) ≡ old (or_end p) = ap or_empty (old_mod E X) ∙ old_empty p in
          let is : or_empty (find_mod (news E) X) ≡ new (or_end p) = ap or_empty (new_mod E X) ∙ new_empty p in
          subst (λ o. Each New (unless_some o (go (or_empty (find_mod (news E) X)) (new s)) nothing).told) (sym (new_mod m X))
          (subst (λ z. Each New (unless_some (over new (last_of (twofold_mods m) X)) (go z (new s)) nothing).told) (sym is)
          (shown (last_of (twofold_mods m) X) (go (old (or_end p)) (old s)) (go (new (or_end p)) (new s)) (on (or_end p) s (fine_mod E fines X) fs)
          (subst (λ z. Each Old (unless_some (over old (last_of (twofold_mods m) X)) (go z (old s)) nothing).told) was
          (subst (λ o. Each Old (unless_some o (go (or_empty (find_mod (olds E) X)) (old s)) nothing).told) (old_mod m X) h))))

      both_ways : (a b : Twofold) → Fine w name a → Fine w name b → Each Old (go (old a) (old b) & go (old b) (old a)).told
          → Each New (go (new a) (new b) & go (new b) (new a)).told
      both_ways a b fa fb h =
          let p = each_of Old (go (old a) (old b)) (go (old b) (old a)) h in
          each_then New (go (new a) (new b)) (go (new b) (new a)) (on a b fa fb p.0) (on b a fb fa p.1)

      one_mty : (S : Name) (s : Twofold) (m : Parts) → Fine w name s
          → Each Old (unless_some (find_mty (olds m) S)
          (go (or_empty (find_mty (olds E) S)) (old s) & go (old s) (or_empty (find_mty (olds E) S))) nothing).told
          → Each New (unless_some (find_mty (news m) S)
          (go (or_empty (find_mty (news E) S)) (new s) & go (new s) (or_empty (find_mty (news E) S))) nothing).told
      one_mty S s m fs h =
          let p = last_of (twofold_mtys E) S in
          let was : or_empty (find_mty (olds E) S) ≡ old (or_end p) = ap or_empty (old_mty E S) ∙ old_empty p in
          let is : or_empty (find_mty (news E) S) ≡ new (or_end p) = ap or_empty (new_mty E S) ∙ new_empty p in
          let e = or_empty (find_mty (news E) S) in
          let d = or_empty (find_mty (olds E) S) in
          subst (λ o. Each New (unless_some o (go e (new s) & go (new s) e) nothing).told) (sym (new_mty m S))
          (subst (λ z. Each New (unless_some (over new (last_of (twofold_mtys m) S)) (go z (new s) & go (new s) z) nothing).told) (sym is)
          (shown (last_of (twofold_mtys m) S) (go (old (or_end p)) (old s) & go (old s) (old (or_end p)))
          (go (new (or_end p)) (new s) & go (new s) (new (or_end p))) (both_ways (or_end p) s (fine_mty E fines S) fs)
          (subst (λ z. Each Old (unless_some (over old (last_of (twofold_mtys m) S)) (go z (old s) & go (old s) z) nothing).told) was
          (subst (λ o. Each Old (unless_some o (go d (old s) & go (old s) d) nothing).told) (old_mty m S) h))))

      add_block : (vs : Values) (es : Entries) → BlockVals vs es → Each New (match_entries tell go (news E) es).told
          → Each New (match_entries tell go (news E) (block vs ⊕ es)).told
      add_block [] es b h = h
      add_block (a ∷ vs) es b h =
          each_then New (one (tell a.0 a.1 (block vs ⊕ es) (Some (news E)))) (match_entries tell go (news E) (block vs ⊕ es)) (b.0, tt)
          (add_block vs es b.1 h)

      new_entries : (m : Parts) → Fines w name m → NewVals m → Each Old (match_entries tell go (olds E) (olds m)).told
          → Each New (match_entries tell go (news E) (news m)).told
      new_entries end f v h = tt
      new_entries (val x g m) f v h =
          let p = each_of Old (one (tell x g (olds m) (Some (olds E)))) (match_entries tell go (olds E) (olds m)) h in
          each_then New (one (tell x g (news m) (Some (news E)))) (match_entries tell go (news E) (news m)) (v.0, tt) (new_entries m f.1 v.1 p.1)
      new_entries (mod_of X s m) f v h =
          let p = each_of_three Old a_step (unless_some (find_mod (olds m) X) (go (or_empty (find_mod (olds E) X)) (old s)) nothing)
          (match_entries tell go (olds E) (olds m)) h in
          each_three New a_step (unless_some (find_mod (news m) X) (go (or_empty (find_mod (news E) X)) (new s)) nothing)
          (match_entries tell go (news E) (news m)) tt (one_mod X s m f.0 p.1) (new_entries m f.1 v p.2)
      new_entries (mty_of S s m) f v h =
          let d = or_empty (find_mty (olds E) S) in
          let e = or_empty (find_mty (news E) S) in
          let p = each_of_three Old a_step (unless_some (find_mty (olds m) S) (go d (old s) & go (old s) d) nothing)
          (match_entries tell go (olds E) (olds m)) h in
          each_three New a_step (unless_some (find_mty (news m) S) (go e (new s) & go (new s) e) nothing)
          (match_entries tell go (news E) (news m)) tt (one_mty S s m f.0 p.1) (new_entries m f.1 v p.2)
      new_entries (dark at m) f v h =
          let p = each_of_three Old a_step (pin_vals tell (olds E)) (match_entries tell go (olds E) (olds m)) h in
          each_three New a_step (pin_vals tell (news E)) (match_entries tell go (news E) (news m)) tt v.0 (new_entries m f v.1 p.2)
      new_entries (filled at vs m) f v h =
          let p = each_of_three Old a_step (pin_vals tell (olds E)) (match_entries tell go (olds E) (olds m)) h in
          add_block vs (news m) v.0 (new_entries m f.1 v.1 p.2)

      pub structures : (m : Parts) → Fines w name m → Each Old (match_entries tell go (olds E) (olds m)).told
          → Each New (match_entries tell go (news E) (news m)).told
      structures m f h = new_entries m f (new_vals m f (old_vals m h) (marks m) refl (λ k ks e. all_pinned m h k ks e)) h

  -- ---- matches

  abbrev pub Grows : (Shape → Shape → Trace Told) → Type 0
  Grows go = (a b : Twofold) → Fine w name a → Fine w name b → Each (Stays w name) (go (old a) (old b)).told
      → Each (Keeps w) (go (new a) (new b)).told

  module _ (go : Shape → Shape → Trace Told) (on : Grows go) (goes : GoesOn w go) where
    -- shapes of which all that is visible is linked with the outside
    deeply : (a b : Twofold) → Fine w name a → Fine w name b → Deep w (old a) → Deep w (old b)
        → Each (Keeps w) (match_step tell go (new a) (new b)).told
    deeply a b fa fb d e =
        keeps_step w go goes (new a) (new b) (deep_new w name a fa d) (deep_new w name b fb e) (named_new w name a fa) (named_new w name b fb)

    apart : (a b : Twofold) → Fine w name a → Fine w name b → Each (Stays w name) (a_step & pin tell (old b) & pin tell (old a)).told
        → Each (Keeps w) (match_step tell go (new a) (new b)).told
    apart a b fa fb h =
        let p = each_of_three (Stays w name) a_step (pin tell (old b)) (pin tell (old a)) h in
        deeply a b fa fb (deep_from w name (old a) p.2) (deep_from w name (old b) p.1)

    grows_step : Grows (match_step tell go)
    grows_step (Known es) (Known ts) fa fb h =
        each_then (Keeps w) a_step (match_entries tell go (news es) (news ts)) tt
        (structures es fa go on ts fb (each_of (Stays w name) a_step (match_entries tell go (olds es) (olds ts)) h).1)
    grows_step (Known es) (Maps q t) fa fb h = apart (Known es) (Maps q t) fa fb h
    grows_step (Known es) (Makes t) fa fb h = apart (Known es) (Makes t) fa fb h
    grows_step (Known es) Unknown fa fb h = apart (Known es) Unknown fa fb h
    grows_step (Known es) (Filled vs) fa fb h = apart (Known es) (Filled vs) fa fb h
    grows_step (Maps p r) (Known ts) fa fb h = apart (Maps p r) (Known ts) fa fb h
    grows_step (Maps p r) (Maps q t) fa fb h =
        let k = each_of_three (Stays w name) a_step (go (old q) (old p)) (go (old r) (old t)) h in
        each_three (Keeps w) a_step (go (new q) (new p)) (go (new r) (new t)) tt (on q p fb.0 fa.0 k.1) (on r t fa.1 fb.1 k.2)
    grows_step (Maps p r) (Makes t) fa fb h = apart (Maps p r) (Makes t) fa fb h
    grows_step (Maps p r) Unknown fa fb h = apart (Maps p r) Unknown fa fb h
    grows_step (Maps p r) (Filled vs) fa fb h = apart (Maps p r) (Filled vs) fa fb h
    grows_step (Makes r) (Known ts) fa fb h = apart (Makes r) (Known ts) fa fb h
    grows_step (Makes r) (Maps q t) fa fb h = apart (Makes r) (Maps q t) fa fb h
    grows_step (Makes r) (Makes t) fa fb h =
        each_then (Keeps w) a_step (go (new r) (new t)) tt (on r t fa fb (each_of (Stays w name) a_step (go (old r) (old t)) h).1)
    grows_step (Makes r) Unknown fa fb h = apart (Makes r) Unknown fa fb h
    grows_step (Makes r) (Filled vs) fa fb h = apart (Makes r) (Filled vs) fa fb h
    grows_step Unknown (Known ts) fa fb h = apart Unknown (Known ts) fa fb h
    grows_step Unknown (Maps q t) fa fb h = apart Unknown (Maps q t) fa fb h
    grows_step Unknown (Makes t) fa fb h = apart Unknown (Makes t) fa fb h
    grows_step Unknown Unknown fa fb h = tt
    grows_step Unknown (Filled vs) fa fb h = deeply Unknown (Filled vs) fa fb tt tt
    grows_step (Filled vs) (Known ts) fa fb h = apart (Filled vs) (Known ts) fa fb h
    grows_step (Filled vs) (Maps q t) fa fb h = apart (Filled vs) (Maps q t) fa fb h
    grows_step (Filled vs) (Makes t) fa fb h = apart (Filled vs) (Makes t) fa fb h
    grows_step (Filled vs) Unknown fa fb h = deeply (Filled vs) Unknown fa fb tt tt
    grows_step (Filled vs) (Filled us) fa fb h = deeply (Filled vs) (Filled us) fa fb tt tt

  pub grows_to : (n : ℕ) → Grows (match_to tell n)
  grows_to zero a b fa fb h = tt
  grows_to (suc n) a b fa fb h = grows_step (match_to tell n) (grows_to n) (keeps_match w n) a b fa fb h
