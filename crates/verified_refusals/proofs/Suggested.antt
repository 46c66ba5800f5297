-- What the words of respelled files suggest is the renaming.
use Rattle.std.proofs.Common.{◌≡◌, ◌||◌, ◌⊎◌, inl, inr, ℕ, List, [], ◌∷◌, Bool, true, false, cond, Option, Some, None, map, Contains}
use Rattle.std.proofs.Common.{refl, ap, sym, subst, ◌∙◌, unwrap_or}
use Rattle.std.specs.Prelude.{IsTrue}
use Rattle.rotor_base.specs.Files.{FileSet, IsProject, names_of}
use Rattle.rotor_base.specs.declared.place.Goal.{Goal}
use Rattle.rotor_base.specs.declared.place.Goal.TheVariants.{Decl, Outside, Missing, Hidden, Blur}
use Rattle.rotor_base.specs.declared.place.Place.{Place}
use Rattle.rotor_base.specs.declared.source.SourceFile.{SourceFile}
use Rattle.rotor_base.proofs.Rising.{some_is}
use Rattle.ml_lexer.specs.Lexed.{Lexeme}
use Rattle.value_sites.specs.Places.{Site}
use Rattle.value_sites.specs.Sound.{IsSound}
use Rattle.ml_trees.specs.Tree.{UnitTree}
use Rattle.shape_core.specs.Shape.{Name, or_value}
use Rattle.binding_model.specs.Facts.{facts, is_before, put, in_order}
use Rattle.binding_model.specs.Renaming.{Renaming, places, at_place, name_of, site_name, goal_at, new_word, words_of, respell, Changes, IsFixedSite}
use Rattle.binding_model.specs.Renaming.{IsFree}
use Rattle.binding_model.proofs.Leasts.{place_in}
use Rattle.binding_model.proofs.Telltale.{apart_of, no_goal}
use Rattle.capture_check.specs.declared.fault.Fault.{Fault}
use Rattle.capture_check.specs.Fault.{faults}
use Rattle.project_reading.specs.Reads.{Reads}
use Rattle.project_reading.specs.Respelled.{respelled_lists}
use Rattle.project_reading.proofs.RespellingKept.{respelling_keeps_the_reading}
use Rattle.project_reading.proofs.Soundness.{read_is_sound}
use Rattle.respelled_reading.specs.Renamed.{AreRenamed, GivesValueNames}
use Rattle.respelled_reading.proofs.Renamed.{changes_places, renamed_files_are_cut, renamed_files_are_read}
use Rattle.value_places.specs.Binders.{binding}
use Rattle.rename_respell.specs.Respelled.{AreRespelledBytes, changed, mapped_words}
use Rattle.rename_respell.proofs.Given.{bytes_same}
use Rattle.rename_parts.proofs.Having.{Has, has_as, has_mapped, has_filtered, contained_has}
use Rattle.rename_parts.proofs.Found.{site_found}
use Rattle.rename_survey.specs.Survey.{binder_of, binders_of}
use Rattle.rename_verify.specs.declared.verdict.Why.TheVariants as why
use Rattle.rename_verify.specs.Candidate.{AreLexemesOf, candidate, given_name, word_at}
use Rattle.rename_verify.specs.Laws.{ChangesAll}
use Rattle.rename_verify.specs.Verdict.{reasons}
use Rattle.rename_verify.proofs.Complete.{at_contains}
use Rattle.rename_verify.proofs.Given.{changed_is, changed_word, changes_are_changed, in_changed, keeps_fixed}
use Rattle.rename_verify.proofs.Listing.{entry_is}
use Rattle.rename_verify.proofs.Reasons.{no_bytes, no_fixed, no_sources, then_broken}
use Rattle.rename_verify.proofs.Respelt.{cut_is, lists_of, word_is}
use Rattle.verified_renamings.proofs.Bytes.{renamed_have_bytes}

-- ---- lists

has_put : {A : Type 0} (P : A → Type 0) (at : A → Place) (x : A) (xs : List A) → P x ⊎ Has P xs → Has P (put at x xs)
has_put P at x [] (inl h) = inl h
has_put P at x [] (inr h) = absurd h
has_put P at x (y ∷ ys) h = by (is_before (at y) (at x)) h (has_put P at x ys) where
  by : (b : Bool) → P x ⊎ Has P (y ∷ ys) → (P x ⊎ Has P ys → Has P (put at x ys)) → Has P (cond b (y ∷ put at x ys) (x ∷ (y ∷ ys)))
  by true (inl k) rest = inr (rest (inl k))
  by true (inr (inl k)) rest = inl k
  by true (inr (inr k)) rest = inr (rest (inr k))
  by false (inl k) rest = inl k
  by false (inr k) rest = inr k

has_ordered : {A : Type 0} (P : A → Type 0) (at : A → Place) (xs : List A) → Has P xs → Has P (in_order at xs)
has_ordered P at [] h = h
has_ordered P at (x ∷ xs) (inl h) = has_put P at x (in_order at xs) (inl h)
has_ordered P at (x ∷ xs) (inr h) = has_put P at x (in_order at xs) (inr (has_ordered P at xs h))

-- a binder is listed
is_listed : (us : List UnitTree) (d : Place) (x : Site) → at_place (places us) d ≡ Some x → x.binds ≡ true
    → Contains (binders_of us) (binder_of (d, x))
is_listed us d x at binds =
    let L = places us in
    let b = binder_of (d, x) in
    let here : Has (λ e. (binder_of e ≡ b) × (e.1.binds ≡ true)) L =
    has_as (λ e. (e.0 ≡ d) × (e.1 ≡ x)) (λ e. (binder_of e ≡ b) × (e.1.binds ≡ true)) L
    (λ e k. (ap (λ p. binder_of (p, e.1)) k.0 ∙ ap (λ (s : Site). binder_of (d, s)) k.1, ap (λ (s : Site). s.binds) k.1 ∙ binds))
    (site_found L d x at) in
    let listed : Has (λ z. z ≡ b) (binders_of us) =
    has_ordered (λ z. z ≡ b) (λ z. z.at) (map binder_of (binding L))
    (has_mapped binder_of (λ z. z ≡ b) (binding L) (has_filtered (λ (e : Place × Site). e.1.binds) (λ e. binder_of e ≡ b) L here)) in
    let k = contained_has (λ z. z ≡ b) (binders_of us) listed in
    subst (Contains (binders_of us)) k.2 k.1

or_first : (a b : Bool) → (a || b ≡ true → ⊥) → a ≡ false
or_first true b h = absurd (h refl)
or_first false b h = refl

or_second : (a b : Bool) → (a || b ≡ true → ⊥) → b ≡ false
or_second true b h = absurd (h refl)
or_second false true h = absurd (h refl)
or_second false false h = refl

-- ---- the renaming, and files that are renamed

pub record IsGiving (us : List UnitTree) (r : Renaming) : Type 0 where
  pub gives : GivesValueNames us r
  pub binders : (d : Place) (y : Name) → Contains r (d, y) → (x : Site) × (at_place (places us) d ≡ Some x) × IsTrue x.binds
  pub free : (d : Place) (y : Name) → Contains r (d, y) → IsFree us d
  pub only : ChangesAll us r

module _ (old new : FileSet) (us : List UnitTree) (r : Renaming) (p : IsProject old) (reads : Reads old us) (h : IsGiving us r)
    (renamed : AreRenamed us r old new) where
  sound : IsSound us
  sound = read_is_sound old us p reads

  abbrev vs : List UnitTree
  vs = respell us r

  pub still : Reads new vs
  still = renamed_files_are_read respelling_keeps_the_reading us r old new p reads h.gives renamed

  abbrev news : List (List ℕ)
  news = map (λ (s : SourceFile). s.bytes) new.entries

  lexemes : (lists : List (List Lexeme)) × AreLexemesOf new.entries lists
  lexemes =
      let olds = lists_of 0 old.entries reads.trees reads.read in
      (respelled_lists _ 0 olds.0, cut_is new.entries _ (renamed_files_are_cut us r old new olds.0 p reads h.gives renamed olds.1))

  bytes : AreRespelledBytes (words_of r (facts us).refs) 0 old.entries news
  bytes =
      let olds = lists_of 0 old.entries reads.trees reads.read in
      renamed_have_bytes old us p reads (words_of r (facts us).refs) (changes_places us r sound h.gives) (keeps_fixed us r h.gives sound)
      olds.0 olds.1 new.entries renamed.sources

  module _ (lists : List (List Lexeme)) (cut : AreLexemesOf new.entries lists) where
    abbrev cand : Renaming
    cand = candidate lists (binders_of us)

    -- the word of a binder in the new sources
    new_at : (d : Place) (x : Site) → at_place (places us) d ≡ Some x → x.binds ≡ true → x.operator ≡ false → x.pun ≡ false
        → word_at lists d ≡ Some (or_value (at_place r d) x.name)
    new_at d x at binds operator pun =
        let alone : goal_at (facts us).refs d ≡ None = place_in (λ e. e.1.binds ≡ true → goal_at (facts us).refs e.0 ≡ None) (places us) d x
        (no_goal us (apart_of us sound)) at binds in
        word_is old new us r p reads h.gives renamed lists cut d x at operator pun ∙ ap (λ o. Some (new_word r o d x.name)) alone

    -- the candidate gives it to a binder that the renaming changes
    taken : (d : Place) (y : Name) → at_place r d ≡ Some y → at_place (changed us cand) d ≡ Some y
    taken d y e =
        let c = at_contains r d y e in
        let b = h.binders d y c in
        let x = b.0 in
        let free : (x.operator || x.pun) ≡ true → ⊥ = λ f. (h.free d y c).word (subst IsFixedSite (sym b.1) f) in
        let operator = or_first x.operator x.pun free in
        let pun = or_second x.operator x.pun free in
        let word : word_at lists d ≡ Some y = new_at d x b.1 b.2 operator pun ∙ ap (λ o. Some (or_value o x.name)) e in
        let name : given_name lists (binder_of (d, x)) ≡ y =
        ap (λ v. cond (v || x.pun) x.name (unwrap_or (word_at lists d) x.name)) operator
        ∙ (ap (λ v. cond v x.name (unwrap_or (word_at lists d) x.name)) pun ∙ ap (λ o. unwrap_or o x.name) word) in
        let entry : at_place cand d ≡ Some y = entry_is us sound lists (binder_of (d, x)) (is_listed us d x b.1 b.2)
        ∙ ap (λ (z : Name). Some z) name in
        changes_are_changed us cand d y (entry, h.only d y c)

    -- and to no other binder
    not_taken : (d : Place) (z : Name) → at_place r d ≡ None → at_place (changed us cand) d ≡ Some z → ⊥
    not_taken d z e f =
        let c = changed_is us sound lists d z f in
        let k = changed_word us sound lists d z c in
        let g = in_changed us sound lists d z f in
        let x = k.0 in
        let both : Some g.0.site ≡ Some x = sym g.0.at ∙ k.1 in
        let site : g.0.site ≡ x = some_is g.0.site x both in
        let binds : x.binds ≡ true = ap (λ (s : Site). s.binds) (sym site) ∙ g.0.binds in
        let free : (x.operator || x.pun) ≡ true → ⊥ = λ t. (let wrong : true ≡ false = sym t ∙ k.2.free in cc) in
        let word : word_at lists d ≡ Some x.name = new_at d x k.1 binds (or_first x.operator x.pun free) (or_second x.operator x.pun free)
        ∙ ap (λ o. Some (or_value o x.name)) e in
        let own : z ≡ x.name = some_is z x.name (sym k.2.word ∙ word) in
        c.1 (own ∙ sym (ap site_name k.1))

    same_at : (d : Place) → at_place (changed us cand) d ≡ at_place r d
    same_at d = go (at_place r d) refl (at_place (changed us cand) d) refl where
      go : (o : Option Name) → at_place r d ≡ o → (q : Option Name) → at_place (changed us cand) d ≡ q → at_place (changed us cand) d ≡ at_place r d
      go (Some y) e q f = taken d y e ∙ sym e
      go None e None f = f ∙ sym e
      go None e (Some z) f = absurd (not_taken d z e f)

    same_words : (at : Place) (x : Name) → words_of r (facts us).refs at x ≡ words_of (changed us cand) (facts us).refs at x
    same_words at x = go (goal_at (facts us).refs at) where
      go : (o : Option Goal) → new_word r o at x ≡ new_word (changed us cand) o at x
      go None = ap (λ o. or_value o x) (sym (same_at at))
      go (Some (Decl d)) = ap (λ o. or_value o x) (sym (same_at d))
      go (Some Outside) = refl
      go (Some Missing) = refl
      go (Some Hidden) = refl
      go (Some (Blur b n o)) = refl

    given_bytes : AreRespelledBytes (mapped_words us cand) 0 old.entries news
    given_bytes = bytes_same (words_of r (facts us).refs) (mapped_words us cand) same_words 0 old.entries news bytes

    all_free : (d : Place) (y : Name) → Changes us cand d y → IsFree us d
    all_free d y c = h.free d y (at_contains r d y (sym (same_at d) ∙ changes_are_changed us cand d y c))

  -- the first fault of the respelled project is the reason against the new files
  pub is_reason : names_of old.entries ≡ names_of new.entries → (f : Fault) → faults (name_of vs) (facts us) (facts vs) f
      → reasons us old new (why.Broken f)
  is_reason names f k =
      let lists = lexemes.0 in
      let cut = lexemes.1 in
      then_broken us old new lists cut (no_sources old new names (sym renamed.manifest))
      (no_bytes us (cand lists cut) old new (given_bytes lists cut))
      (no_fixed us (cand lists cut) old new (all_free lists cut)) f (vs, still, k)
