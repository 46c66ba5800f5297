-- The words of the renamed project are the new word at the places that take it.
use Rattle.std.proofs.Common.{◌≡◌, ℕ, suc, ◌⊎◌, inl, inr, ◌||◌, ◌&&◌, List, [], ◌∷◌, ◌++◌, Bool, true, false, true≢false, cond, Option, Some, None}
use Rattle.std.proofs.Common.{map, Contains, refl, ap, sym, subst, ◌∙◌, if◌then◌else◌, IfNone}
use Rattle.std.specs.BTreeSet.{BTreeSet, contains}
use Rattle.std.proofs.lemmas.List.Folds.{list_any-append}
use Rattle.std.specs.List.{list_any}
use Rattle.rotor_base.specs.Place.{same_place, place_cmp}
use Rattle.rotor_base.specs.declared.place.Place.{Place}
use Rattle.rotor_base.specs.declared.place.Goal.{Goal}
use Rattle.rotor_base.specs.declared.place.Goal.TheVariants.{Decl, Outside, Missing, Hidden, Blur}
use Rattle.rotor_base.specs.declared.place.Ref.{Ref}
use Rattle.rotor_base.specs.declared.place.Link.{Link}
use Rattle.rotor_base.specs.declared.place.Foot.{Foot}
use Rattle.rotor_base.specs.declared.token.Class.{Class}
use Rattle.rotor_base.specs.declared.token.Class.TheVariants as class
use Rattle.rotor_base.specs.declared.source.SourceFile.{SourceFile}
use Rattle.dependency_kernel.specs.Foot.{IsFoot, IsFixed, IsFixedBy}
use Rattle.ml_lexer.specs.Lexed.{Lexeme}
use Rattle.ml_lexer.specs.Respelled.{respelled}
use Rattle.value_sites.specs.Places.{Site}
use Rattle.value_sites.specs.Respelled.{Spelling, spelled}
use Rattle.ml_syntax.specs.RespelledFile.{new_words}
use Rattle.ml_syntax.specs.RespelledSource.{IsRespelled, AreRespelled}
use Rattle.value_sites.specs.Sound.{IsSound}
use Rattle.ml_trees.specs.Tree.{UnitTree}
use Rattle.shape_core.specs.Shape.{Name, or_else, some_if, or_value}
use Rattle.value_sites.specs.Each.{Each}
use Rattle.binding_model.specs.Facts.{facts, put, in_order, is_before}
use Rattle.binding_model.specs.Renaming.{IsBinder}
use Rattle.binding_model.specs.Local.{IsWatched}
use Rattle.binding_model.specs.Renaming.{places, at_place, goal_at, new_word, in_file, IsFixedSite, IsFree as IsFreePlace}
use Rattle.binding_model.specs.Scopes.{here}
use Rattle.binding_model.specs.Steps.{refs_of}
use Rattle.binding_model.specs.Walk.{steps}
use Rattle.binding_model.proofs.Goals.{goals_found}
use Rattle.binding_model.proofs.LastEntries.{same_is}
use Rattle.binding_model.proofs.Leasts.{foot_is_watched, place_in}
use Rattle.binding_model.proofs.Sounds.{same_self}
use Rattle.binding_model.proofs.Standing.{given, member_in}
use Rattle.binding_model.proofs.Telltale.{apart_of, no_goal}
use Rattle.rename_model.specs.Foot.{IsIn, is_in, leads_in, refs_to, hits, IsHit}
use Rattle.rename_model.specs.Renaming.{at_reference, at_item, at_source, watch_of, renamed_words}
use Rattle.rename_parts.specs.Hits.{is_lower, hit_words}
use Rattle.shape_core.specs.Places.{HasPlaces}
use Rattle.rename_parts.specs.Findings.{IsFree}
use Rattle.rename_parts.specs.Sources.{IsMade, AreMade}
use Rattle.rename_parts.proofs.Having.{Has, has_as, has_each, has_contained, contained_has, has_mapped, has_filtered, any_has, has_right, has_left}
use Rattle.rename_parts.proofs.Having.{has_any, has_unmapped, has_unfiltered}

-- ---- what is free of the first refusals may be renamed

module _ (us : List UnitTree) (d : Place) (foot : Foot) (new : Name) (sound : IsSound us) (is : IsFoot (facts us).links d foot)
    (free : IsFree us d foot new) where
  member_hit : (p : Place) → IsIn foot p → IsHit us foot p
  member_hit p c =
      let h = contained_has (λ q. q ≡ p) (foot.decls ++ map (λ r. r.at) (refs_to foot (facts us).refs))
      (has_left (λ q. q ≡ p) foot.decls (map (λ r. r.at) (refs_to foot (facts us).refs)) (has_contained (λ q. q ≡ p) foot.decls p c refl)) in
      subst (IsHit us foot) h.2 h.1

  in_is : (p : Place) → IsIn foot p → is_in foot p ≡ true
  in_is p c = any_has (same_place p) foot.decls (has_contained (λ q. same_place p q ≡ true) foot.decls p c (same_self p))

  leads_is : (p : Place) (g : Goal) → IsIn foot p → g ≡ Decl p → leads_in foot g ≡ true
  leads_is p g c e = ap (leads_in foot) e ∙ in_is p c

  ref_hit : (p : Place) (r : Ref) → IsIn foot p → Contains (facts us).refs r → r.goal ≡ Decl p → IsHit us foot r.at
  ref_hit p r c has e =
      let R = (facts us).refs in
      let k = has_filtered (λ z. leads_in foot z.goal) (λ (z : Ref). z.at ≡ r.at) R
      (has_contained (λ (z : Ref). (z.at ≡ r.at) × (leads_in foot z.goal ≡ true)) R r has (refl, leads_is p r.goal c e)) in
      let h = contained_has (λ q. q ≡ r.at) (foot.decls ++ map (λ z. z.at) (refs_to foot R))
      (has_right (λ q. q ≡ r.at) foot.decls (map (λ z. z.at) (refs_to foot R))
      (has_mapped (λ (z : Ref). z.at) (λ q. q ≡ r.at) (refs_to foot R) k)) in
      subst (IsHit us foot) h.2 h.1

  not_fixed : (p : Place) → IsHit us foot p → (o : Option Site) → at_place (places us) p ≡ o → IsFixedSite o → ⊥
  not_fixed p h None e k = k
  not_fixed p h (Some x) e k = by x.operator x.pun refl refl k where
    by : (a b : Bool) → x.operator ≡ a → x.pun ≡ b → (a || b) ≡ true → ⊥
    by true b i j k = free.words p h (x, e, i)
    by false true i j k = free.plain p h (x, e, j)
    by false false i j k = true≢false (sym k)

  inside : (p : Place) → IsIn foot p → (l : Link) → Contains (facts us).links l → ((l.item ≡ Decl p) × (l.source ≡ Outside))
      ⊎ ((l.item ≡ Outside) × (l.source ≡ Decl p)) → ⊥
  inside p c l has e = none p c (l, has, ends e) where
    none : (q : Place) → Contains foot.decls q → IsFixed (facts us).links q → ⊥
    none = subst (λ (o : Option Place). IfNone o ((q : Place) → Contains foot.decls q → IsFixed (facts us).links q → ⊥)) free.inside is.outside.none

    ends : ((l.item ≡ Decl p) × (l.source ≡ Outside)) ⊎ ((l.item ≡ Outside) × (l.source ≡ Decl p)) → IsFixedBy l p
    ends (inl k) = inl (ap (λ i. record { item = i; source = l.source }) k.0 ∙ ap (λ s. record { item = Decl p; source = s }) k.1)
    ends (inr k) = inr (ap (λ i. record { item = i; source = l.source }) k.0 ∙ ap (λ s. record { item = Outside; source = s }) k.1)

  member_free : (p : Place) → IsIn foot p → IsFreePlace us p
  member_free p c = record {
    word = not_fixed p (member_hit p c) (at_place (places us) p) refl;
    uses = λ r has e. not_fixed r.at (ref_hit p r c has e) (at_place (places us) r.at) refl;
    inside = inside p c;
    refs_seen = λ r has b. free.clear r.at (at_reference r.goal p has c b);
    links_seen = λ l has b. elim b [ inl k ↦ free.clear p (at_source l has c k) | inr k ↦ free.clear p (at_item l has c k.0 k.1) ];
  }

  pub watched : IsBinder us d → IsWatched us (watch_of us d foot new) × ((a : Place) → IsIn foot a → IsBinder us a)
  watched b = foot_is_watched us (watch_of us d foot new) d sound b is refl free.other member_free

-- ---- the goals at a place

each_put : {A : Type 0} (at : A → Place) (P : A → Type 0) (x : A) (xs : List A) → P x → Each P xs → Each P (put at x xs)
each_put at P x [] p h = (p, tt)
each_put at P x (y ∷ ys) p h = by (is_before (at y) (at x)) (each_put at P x ys p h.1) where
  by : (b : Bool) → Each P (put at x ys) → Each P (if b then y ∷ put at x ys else x ∷ (y ∷ ys))
  by true r = (h.0, r)
  by false r = (p, h)

each_ordered : {A : Type 0} (at : A → Place) (P : A → Type 0) (xs : List A) → Each P xs → Each P (in_order at xs)
each_ordered at P [] h = tt
each_ordered at P (x ∷ xs) h = each_put at P x (in_order at xs) h.0 (each_ordered at P xs h.1)

goal_case : (r : Ref) (rs : List Ref) (p : Place) (g : Goal) (b : Bool) → same_place r.at p ≡ b
    → (goal_at rs p ≡ Some g → Has (λ z. (z.at ≡ p) × (z.goal ≡ g)) rs) → or_else (some_if b r.goal) (goal_at rs p) ≡ Some g
    → Has (λ z. (z.at ≡ p) × (z.goal ≡ g)) (r ∷ rs)
goal_case r rs p g true s f h = inl (same_is r.at p s, (let q : r.goal ≡ g = cc in q))
goal_case r rs p g false s f h = inr (f h)

goal_has : (rs : List Ref) (p : Place) (g : Goal) → goal_at rs p ≡ Some g → Has (λ z. (z.at ≡ p) × (z.goal ≡ g)) rs
goal_has [] p g e = let wrong : None ≡ Some g = e in absurd cc
goal_has (r ∷ rs) p g e = goal_case r rs p g (same_place r.at p) refl (goal_has rs p g) e

-- the text of a lexeme, respelled
abbrev spelled_text : Spelling → Class → ℕ → Name → Name
spelled_text w c n text = (spelled w c (record { at = n; text = text })).text

given_value : (b : Bool) (new x : Name) → or_value (some_if b new) x ≡ cond b new x
given_value true new x = refl
given_value false new x = refl

-- ---- the words

module _ (us : List UnitTree) (d : Place) (foot : Foot) (new : Name) (sound : IsSound us) (binders : (a : Place) → IsIn foot a → IsBinder us a)
    (set : BTreeSet Place) (has : HasPlaces (hits (facts us).refs foot) set) where
  abbrev R : List Ref
  R = (facts us).refs

  own : Each (λ r. goal_at R r.at ≡ Some r.goal) R
  own = each_ordered (λ r. r.at) (λ r. goal_at R r.at ≡ Some r.goal) (refs_of (steps us)) (goals_found us sound)

  -- a reference to a member at a place
  used : (p : Place) → list_any (same_place p) (map (λ r. r.at) (refs_to foot R)) ≡ true → (r : Ref) × (r.at ≡ p) × (leads_in foot r.goal ≡ true)
      × (goal_at R p ≡ Some r.goal)
  used p e =
      let h = has_unfiltered (λ r. leads_in foot r.goal) (λ (r : Ref). same_place p r.at ≡ true) R
      (has_unmapped (λ (r : Ref). r.at) (λ q. same_place p q ≡ true) (refs_to foot R)
      (has_any (same_place p) (map (λ r. r.at) (refs_to foot R)) e)) in
      let k = contained_has (λ (r : Ref). ((same_place p r.at ≡ true) × (leads_in foot r.goal ≡ true)) × (goal_at R r.at ≡ Some r.goal)) R
      (has_each (λ (r : Ref). (same_place p r.at ≡ true) × (leads_in foot r.goal ≡ true)) (λ r. goal_at R r.at ≡ Some r.goal) R own h) in
      let at : k.0.at ≡ p = sym (same_is p k.0.at k.2.0.0) in
      (k.0, at, k.2.0.1, subst (λ q. goal_at R q ≡ Some k.0.goal) at k.2.1)

  uses : (p : Place) (g : Goal) → goal_at R p ≡ Some g → leads_in foot g ≡ true → list_any (same_place p) (map (λ r. r.at) (refs_to foot R)) ≡ true
  uses p g e l =
      let h = goal_has R p g e in
      let k = has_filtered (λ r. leads_in foot r.goal) (λ (r : Ref). same_place p r.at ≡ true) R
      (has_as (λ (r : Ref). (r.at ≡ p) × (r.goal ≡ g)) (λ (r : Ref). (same_place p r.at ≡ true) × (leads_in foot r.goal ≡ true)) R
      (λ r z. (subst (λ q. same_place p q ≡ true) (sym z.0) (same_self p), ap (leads_in foot) z.1 ∙ l)) h) in
      any_has (same_place p) (map (λ r. r.at) (refs_to foot R)) (has_mapped (λ (r : Ref). r.at) (λ q. same_place p q ≡ true) (refs_to foot R) k)

  -- a member is the place of no reference
  no_member : (p : Place) (g : Goal) → goal_at R p ≡ Some g → is_in foot p ≡ true → ⊥
  no_member p g e i =
      let b = binders p (member_in p foot.decls i) in
      let n = place_in (λ z. z.1.binds ≡ true → goal_at R z.0 ≡ None) (places us) p b.0 (no_goal us (apart_of us sound)) b.1 in
      let wrong : None ≡ Some g = sym (n b.2) ∙ e in
      absurd cc

  abbrev U : Place → Bool
  U p = list_any (same_place p) (map (λ r. r.at) (refs_to foot R))

  in_hits : (p : Place) → contains place_cmp set p ≡ (is_in foot p || U p)
  in_hits p = has p ∙ list_any-append (same_place p) foot.decls (map (λ r. r.at) (refs_to foot R))

  without : (p : Place) → goal_at R p ≡ None → (b : Bool) → U p ≡ b → contains place_cmp set p ≡ is_in foot p
  without p e true u = let k = used p u in (let wrong : None ≡ Some k.0.goal = sym e ∙ k.3 in absurd cc)
  without p e false u = in_hits p ∙ (ap (λ b. is_in foot p || b) u ∙ or_false (is_in foot p)) where
    or_false : (b : Bool) → (b || false) ≡ b
    or_false true = refl
    or_false false = refl

  with_goal : (p : Place) (g : Goal) → goal_at R p ≡ Some g → (i u l : Bool) → is_in foot p ≡ i → U p ≡ u → leads_in foot g ≡ l
      → contains place_cmp set p ≡ leads_in foot g
  with_goal p g e true u l h k m = absurd (no_member p g e h)
  with_goal p g e false true true h k m = in_hits p ∙ (ap (λ b. b || U p) h ∙ (k ∙ sym m))
  with_goal p g e false false false h k m = in_hits p ∙ (ap (λ b. b || U p) h ∙ (k ∙ sym m))
  with_goal p g e false true false h k m =
      let z = used p k in
      let same : z.0.goal ≡ g = (let q : Some z.0.goal ≡ Some g = sym z.3 ∙ e in cc) in
      absurd (true≢false (sym z.2 ∙ (ap (leads_in foot) same ∙ m)))
  with_goal p g e false false true h k m = absurd (true≢false (sym (uses p g e m) ∙ k))

  goal_word : (p : Place) (x : Name) (g : Goal) → new_word (map (λ e. (e, new)) foot.decls) (Some g) p x ≡ cond (leads_in foot g) new x
  goal_word p x (Decl q) = ap (λ o. or_value o x) (given new foot.decls q) ∙ given_value (is_in foot q) new x
  goal_word p x Outside = refl
  goal_word p x Missing = refl
  goal_word p x Hidden = refl
  goal_word p x (Blur by n o) = refl

  word_by : (p : Place) (x : Name) (o : Option Goal) → goal_at R p ≡ o
      → renamed_words us (watch_of us d foot new) p x ≡ cond (contains place_cmp set p) new x
  word_by p x None e =
      ap (λ z. new_word (map (λ q. (q, new)) foot.decls) z p x) e
      ∙ (ap (λ z. or_value z x) (given new foot.decls p) ∙ (given_value (is_in foot p) new x ∙ ap (λ b. cond b new x) (sym (without p e (U p) refl))))
  word_by p x (Some g) e =
      ap (λ z. new_word (map (λ q. (q, new)) foot.decls) z p x) e
      ∙ (goal_word p x g ∙ ap (λ b. cond b new x) (sym (with_goal p g e (is_in foot p) (U p) (leads_in foot g) refl refl refl)))

  pub word_is : (p : Place) (x : Name) → renamed_words us (watch_of us d foot new) p x ≡ cond (contains place_cmp set p) new x
  word_is p x = word_by p x (goal_at R p) refl

  one_word : (file n : ℕ) (c : Class) (text : Name) → (spelled_text (in_file (renamed_words us (watch_of us d foot new)) file) c n text) ≡ cond
      (is_lower c && contains place_cmp set (here file n)) new text
  one_word file n class.Lower text = word_is (here file n) text
  one_word file n _ text = refl

  pub texts_are : (file n : ℕ) (xs : List Lexeme) → new_words (in_file (renamed_words us (watch_of us d foot new)) file) n xs ≡ hit_words set file new
      n xs
  texts_are file n [] = refl
  texts_are file n (x ∷ xs) = ap (λ t. t ∷ new_words (in_file (renamed_words us (watch_of us d foot new)) file) (suc n) xs)
      (one_word file n x.class x.bytes) ∙ ap (λ l. cond (is_lower x.class && contains place_cmp set (here file n)) new x.bytes ∷ l)
      (texts_are file (suc n) xs)

  made : (file : ℕ) (old out : SourceFile) → IsMade set new file old out
      → IsRespelled (in_file (renamed_words us (watch_of us d foot new)) file) old out
  made file old out m = record {
    lexemes = m.lexemes;
    cut = m.cut;
    name = m.name;
    bytes = m.bytes ∙ ap (respelled old.bytes m.lexemes) (sym (texts_are file 1 m.lexemes));
  }

  pub all_made : (n : ℕ) (olds outs : List SourceFile) → AreMade set new n olds outs
      → AreRespelled (in_file (renamed_words us (watch_of us d foot new))) n olds outs
  all_made n [] [] h = tt
  all_made n [] (o ∷ outs) h = absurd h
  all_made n (o ∷ olds) [] h = absurd h
  all_made n (o ∷ olds) (q ∷ outs) h = (made n o q h.0, all_made (suc n) olds outs h.1)
