-- The verdict on a valid respelling is yes, if each entry of the map gives a binder another name.
use Rattle.std.proofs.Common.{◌≡◌, ◌||◌, ◌⊎◌, inl, inr, ℕ, List, [], ◌∷◌, Bool, true, false, cond, Option, Some, None, map, filter, Contains}
use Rattle.std.proofs.Common.{slice_get, refl, ap, sym, subst, ◌∙◌, unwrap_or, arith}
use Rattle.rotor_base.specs.Files.{FileSet, IsProject}
use Rattle.rotor_base.specs.Place.{same_place}
use Rattle.rotor_base.specs.declared.place.Goal.{Goal}
use Rattle.rotor_base.specs.declared.place.Goal.TheVariants.{Decl, Outside, Missing, Hidden, Blur}
use Rattle.rotor_base.specs.declared.place.Facts.{Facts}
use Rattle.rotor_base.specs.declared.place.Link.{Link}
use Rattle.rotor_base.specs.declared.place.Place.{Place}
use Rattle.rotor_base.specs.declared.place.Ref.{Ref}
use Rattle.rotor_base.specs.declared.source.SourceFile.{SourceFile}
use Rattle.rotor_base.proofs.Rising.{some_is}
use Rattle.ml_lexer.specs.Lexed.{Lexeme}
use Rattle.value_sites.specs.Places.{Site}
use Rattle.value_sites.specs.Sound.{IsSound}
use Rattle.ml_trees.specs.Tree.{UnitTree}
use Rattle.shape_core.specs.Shape.{Name, or_else, some_if, or_value}
use Rattle.binding_model.specs.Facts.{facts, is_before, put, in_order}
use Rattle.binding_model.specs.Renaming.{Renaming, places, at_place, name_of, site_name, goal_at, new_word, words_of, respell, Changes, IsFixedSite}
use Rattle.binding_model.specs.Renaming.{IsFree, IsValid}
use Rattle.binding_model.proofs.LastEntries.{same_is}
use Rattle.binding_model.proofs.Leasts.{place_in}
use Rattle.binding_model.proofs.Telltale.{apart_of, no_goal}
use Rattle.facts_laws.proofs.Unrepeated.{good_repeats_none}
use Rattle.capture_check.specs.declared.fault.Fault.{Fault}
use Rattle.capture_check.specs.declared.fault.Fault.TheVariants.{Clash, Capture, Mislink}
use Rattle.capture_check.specs.Fault.{IsMet, IsClash, IsCapture, IsMislink, IsFirstDiffering, faults, of_ref, of_link}
use Rattle.project_reading.specs.Reads.{Reads}
use Rattle.project_reading.specs.Respelled.{respelled_lists}
use Rattle.project_reading.proofs.RespellingKept.{respelling_keeps_the_reading}
use Rattle.project_reading.proofs.Soundness.{read_is_sound}
use Rattle.respelled_reading.specs.Renamed.{AreRenamed, GivesValueNames}
use Rattle.respelled_reading.proofs.Renamed.{changes_places, renamed_files_are_cut, renamed_files_are_read}
use Rattle.rename_files.specs.Answer.{Accepts}
use Rattle.value_places.specs.Binders.{binding}
use Rattle.rename_respell.specs.Respelled.{AreRespelledBytes, changed, mapped_words}
use Rattle.rename_respell.proofs.Given.{bytes_same}
use Rattle.rename_parts.proofs.Having.{Has, has_as, has_mapped, has_filtered, contained_has}
use Rattle.rename_survey.specs.Survey.{binder_of, binders_of}
use Rattle.rename_verify.specs.Candidate.{AreLexemesOf, candidate, changes, given_name, word_at}
use Rattle.rename_verify.specs.Laws.{AreRespelledBy, ChangesAll, IsYes}
use Rattle.rename_verify.proofs.Alone.{more_in}
use Rattle.rename_verify.proofs.Given.{changed_is, changed_word, changes_are_changed, in_changed, is_other, is_other_name, keeps_fixed}
use Rattle.rename_verify.proofs.Listing.{entry_is}
use Rattle.rename_verify.proofs.Reasons.{no_broken, no_bytes, no_fixed, no_reason, no_sources}
use Rattle.rename_verify.proofs.Respelt.{cut_is, lists_of, word_is}
use Rattle.rename_verify.proofs.Sources.{sources_are_renamed}
use Rattle.rename_parts.proofs.Found.{site_found}

-- ---- lists

all_kept : {A : Type 0} (test : A → Bool) (xs : List A) → ((x : A) → Contains xs x → test x ≡ true) → filter test xs ≡ xs
all_kept test [] h = refl
all_kept test (x ∷ xs) h =
    ap (λ b. cond b (x ∷ filter test xs) (filter test xs)) (h x (0, omega arith, refl))
    ∙ ap (λ l. x ∷ l) (all_kept test xs (λ y c. h y (more_in x xs y c)))

pub at_contains : (r : Renaming) (d : Place) (y : Name) → at_place r d ≡ Some y → Contains r (d, y)
at_contains [] d y e = let wrong : None ≡ Some y = e in absurd cc
at_contains (x ∷ r) d y e = by (same_place x.0 d) refl e (at_contains r d y) where
  by : (b : Bool) → same_place x.0 d ≡ b → or_else (some_if b x.1) (at_place r d) ≡ Some y → (at_place r d ≡ Some y → Contains r (d, y))
      → Contains (x ∷ r) (d, y)
  by true s f rest = let name : x.1 ≡ y = cc in (0, omega arith, ap (λ p. (p, x.1)) (same_is x.0 d s) ∙ ap (λ z. (d, z)) name)
  by false s f rest = more_in x r (d, y) (rest f)

has_put : {A : Type 0} (P : A → Type 0) (at : A → Place) (x : A) (xs : List A) → P x ⊎ Has P xs → Has P (put at x xs)
has_put P at x [] (inl h) = inl h
has_put P at x [] (inr h) = absurd h
has_put P at x (y ∷ ys) h = by (is_before (at y) (at x)) h (has_put P at x ys) where
  by : (b : Bool) → P x ⊎ Has P (y ∷ ys) → (P x ⊎ Has P ys → Has P (put at x ys)) → Has P (cond b (y ∷ put at x ys) (x ∷ (y ∷ ys)))
  by true (inl k) rest = inr (rest (inl k))
  by true (inr (inl k)) rest = inl k
  by true (inr (inr k)) rest = inr (rest (inr k))
  by false (inl k) rest = inl k
  by false (inr k) rest = inr k

has_ordered : {A : Type 0} (P : A → Type 0) (at : A → Place) (xs : List A) → Has P xs → Has P (in_order at xs)
has_ordered P at [] h = h
has_ordered P at (x ∷ xs) (inl h) = has_put P at x (in_order at xs) (inl h)
has_ordered P at (x ∷ xs) (inr h) = has_put P at x (in_order at xs) (inr (has_ordered P at xs h))

-- a binder is listed
is_listed : (us : List UnitTree) (d : Place) (x : Site) → at_place (places us) d ≡ Some x → x.binds ≡ true
    → Contains (binders_of us) (binder_of (d, x))
is_listed us d x at binds =
    let L = places us in
    let b = binder_of (d, x) in
    let here : Has (λ e. (binder_of e ≡ b) × (e.1.binds ≡ true)) L =
    has_as (λ e. (e.0 ≡ d) × (e.1 ≡ x)) (λ e. (binder_of e ≡ b) × (e.1.binds ≡ true)) L
    (λ e k. (ap (λ p. binder_of (p, e.1)) k.0 ∙ ap (λ (s : Site). binder_of (d, s)) k.1, ap (λ (s : Site). s.binds) k.1 ∙ binds))
    (site_found L d x at) in
    let listed : Has (λ z. z ≡ b) (binders_of us) =
    has_ordered (λ z. z ≡ b) (λ z. z.at) (map binder_of (binding L))
    (has_mapped binder_of (λ z. z ≡ b) (binding L) (has_filtered (λ (e : Place × Site). e.1.binds) (λ e. binder_of e ≡ b) L here)) in
    let k = contained_has (λ z. z ≡ b) (binders_of us) listed in
    subst (Contains (binders_of us)) k.2 k.1

or_first : (a b : Bool) → (a || b ≡ true → ⊥) → a ≡ false
or_first true b h = absurd (h refl)
or_first false b h = refl

or_second : (a b : Bool) → (a || b ≡ true → ⊥) → b ≡ false
or_second true b h = absurd (h refl)
or_second false true h = absurd (h refl)
or_second false false h = refl

-- equal lists do not differ
none_differing : {A : Type 0} (make : Place → Goal → A) → ((p : Place) (g h : Goal) → make p g ≡ make p h → g ≡ h) → (old new : List A) → new ≡ old
    → (p : Place) (w v : Goal) → IsFirstDiffering make old new p w v → ⊥
none_differing make keeps old new e p w v h =
    let both : Some (make p w) ≡ Some (make p v) = sym h.differs.old_one ∙ (ap (λ l. slice_get l h.number) (sym e) ∙ h.differs.new_one) in
    h.differs.differ (keeps p w v (some_is (make p w) (make p v) both))

module _ (old new : FileSet) (us : List UnitTree) (r : Renaming) (p : IsProject old) (q : IsProject new) (accepts : Accepts old us)
    (valid : IsValid us r) (only : ChangesAll us r) (by : AreRespelledBy old new us r) where
  sound : IsSound us
  sound = read_is_sound old us p accepts.reads

  same_map : changed us r ≡ r
  same_map = all_kept (is_other us) r (λ e c. is_other_name us e.0 e.1 (only e.0 e.1 c))

  changing : (d : Place) (y : Name) → at_place r d ≡ Some y → Changes us r d y
  changing d y e = (e, only d y (at_contains r d y e))

  gives : GivesValueNames us r
  gives = record {
    word = λ d y e. valid.names d y (changing d y e);
    place = λ d y e. let b = valid.binders d y (at_contains r d y e) in (b.0, b.1);
    free = λ d y e. (valid.free d y (changing d y e)).word;
    uses = λ d y u e c g. (valid.free d y (changing d y e)).uses u c g;
  }

  abbrev news : List (List ℕ)
  news = map (λ (s : SourceFile). s.bytes) new.entries

  bytes : AreRespelledBytes (words_of r (facts us).refs) 0 old.entries news
  bytes = subst (λ (m : Renaming). AreRespelledBytes (words_of m (facts us).refs) 0 old.entries news) same_map by.bytes

  renamed : AreRenamed us r old new
  renamed = record {
    sources = sources_are_renamed old us p accepts.reads (words_of r (facts us).refs) (changes_places us r sound gives)
        (keeps_fixed us r gives sound) new.entries bytes by.names;
    manifest = sym by.manifest;
  }

  abbrev vs : List UnitTree
  vs = respell us r

  still : Reads new vs
  still = renamed_files_are_read respelling_keeps_the_reading us r old new p accepts.reads gives renamed

  lexemes : (lists : List (List Lexeme)) × AreLexemesOf new.entries lists
  lexemes =
      let olds = lists_of 0 old.entries accepts.reads.trees accepts.reads.read in
      (respelled_lists _ 0 olds.0, cut_is new.entries _ (renamed_files_are_cut us r old new olds.0 p accepts.reads gives renamed olds.1))

  module _ (lists : List (List Lexeme)) (cut : AreLexemesOf new.entries lists) where
    abbrev cand : Renaming
    cand = candidate lists (binders_of us)

    -- the word of a binder in the new sources
    new_at : (d : Place) (x : Site) → at_place (places us) d ≡ Some x → x.binds ≡ true → x.operator ≡ false → x.pun ≡ false
        → word_at lists d ≡ Some (or_value (at_place r d) x.name)
    new_at d x at binds operator pun =
        let alone : goal_at (facts us).refs d ≡ None = place_in (λ e. e.1.binds ≡ true → goal_at (facts us).refs e.0 ≡ None) (places us) d x
        (no_goal us (apart_of us sound)) at binds in
        word_is old new us r p accepts.reads gives renamed lists cut d x at operator pun ∙ ap (λ o. Some (new_word r o d x.name)) alone

    -- the candidate gives it to a binder that the renaming changes
    taken : (d : Place) (y : Name) → at_place r d ≡ Some y → at_place (changed us cand) d ≡ Some y
    taken d y e =
        let b = valid.binders d y (at_contains r d y e) in
        let x = b.0 in
        let free : (x.operator || x.pun) ≡ true → ⊥ = λ f. (valid.free d y (changing d y e)).word (subst IsFixedSite (sym b.1) f) in
        let operator = or_first x.operator x.pun free in
        let pun = or_second x.operator x.pun free in
        let word : word_at lists d ≡ Some y = new_at d x b.1 b.2 operator pun ∙ ap (λ o. Some (or_value o x.name)) e in
        let name : given_name lists (binder_of (d, x)) ≡ y =
        ap (λ v. cond (v || x.pun) x.name (unwrap_or (word_at lists d) x.name)) operator
        ∙ (ap (λ v. cond v x.name (unwrap_or (word_at lists d) x.name)) pun ∙ ap (λ o. unwrap_or o x.name) word) in
        let entry : at_place cand d ≡ Some y = entry_is us sound lists (binder_of (d, x)) (is_listed us d x b.1 b.2)
        ∙ ap (λ (z : Name). Some z) name in
        changes_are_changed us cand d y (entry, only d y (at_contains r d y e))

    -- and to no other binder
    not_taken : (d : Place) (z : Name) → at_place r d ≡ None → at_place (changed us cand) d ≡ Some z → ⊥
    not_taken d z e f =
        let c = changed_is us sound lists d z f in
        let k = changed_word us sound lists d z c in
        let g = in_changed us sound lists d z f in
        let x = k.0 in
        let both : Some g.0.site ≡ Some x = sym g.0.at ∙ k.1 in
        let site : g.0.site ≡ x = some_is g.0.site x both in
        let binds : x.binds ≡ true = ap (λ (s : Site). s.binds) (sym site) ∙ g.0.binds in
        let free : (x.operator || x.pun) ≡ true → ⊥ = λ t. (let wrong : true ≡ false = sym t ∙ k.2.free in cc) in
        let word : word_at lists d ≡ Some x.name = new_at d x k.1 binds (or_first x.operator x.pun free) (or_second x.operator x.pun free)
        ∙ ap (λ o. Some (or_value o x.name)) e in
        let own : z ≡ x.name = some_is z x.name (sym k.2.word ∙ word) in
        c.1 (own ∙ sym (ap site_name k.1))

    same_at : (d : Place) → at_place (changed us cand) d ≡ at_place r d
    same_at d = go (at_place r d) refl (at_place (changed us cand) d) refl where
      go : (o : Option Name) → at_place r d ≡ o → (q : Option Name) → at_place (changed us cand) d ≡ q → at_place (changed us cand) d ≡ at_place r d
      go (Some y) e q f = taken d y e ∙ sym e
      go None e None f = f ∙ sym e
      go None e (Some z) f = absurd (not_taken d z e f)

    same_words : (at : Place) (x : Name) → words_of r (facts us).refs at x ≡ words_of (changed us cand) (facts us).refs at x
    same_words at x = go (goal_at (facts us).refs at) where
      go : (o : Option Goal) → new_word r o at x ≡ new_word (changed us cand) o at x
      go None = ap (λ o. or_value o x) (sym (same_at at))
      go (Some (Decl d)) = ap (λ o. or_value o x) (sym (same_at d))
      go (Some Outside) = refl
      go (Some Missing) = refl
      go (Some Hidden) = refl
      go (Some (Blur b n o)) = refl

    given_bytes : AreRespelledBytes (mapped_words us cand) 0 old.entries news
    given_bytes = bytes_same (words_of r (facts us).refs) (mapped_words us cand) same_words 0 old.entries news bytes

    all_free : (d : Place) (y : Name) → Changes us cand d y → IsFree us d
    all_free d y c = valid.free d y (changing d y (sym (same_at d) ∙ changes_are_changed us cand d y c))

  sound_again : IsSound vs
  sound_again = read_is_sound new vs q still

  clash : (f : Fault) → IsClash (name_of vs) (facts vs).groups f → ⊥
  clash (Clash first again) k = good_repeats_none vs sound_again valid.good first again k.repeats
  clash (Capture at was would) k = k
  clash (Mislink item was would) k = k

  capture : (f : Fault) → IsCapture (facts us).refs (facts vs).refs f → ⊥
  capture (Clash first again) k = k
  capture (Capture at was would) k =
      none_differing of_ref (λ d g h e. ap (λ (x : Ref). x.goal) e) (facts us).refs (facts vs).refs
      (ap (λ (x : Facts). x.refs) valid.same) at was would k
  capture (Mislink item was would) k = k

  mislink : (f : Fault) → IsMislink (facts us).links (facts vs).links f → ⊥
  mislink (Clash first again) k = k
  mislink (Capture at was would) k = k
  mislink (Mislink (Decl item) was would) k =
      none_differing of_link (λ d g h e. ap (λ (x : Link). x.source) e) (facts us).links (facts vs).links
      (ap (λ (x : Facts). x.links) valid.same) item was would k
  mislink (Mislink Outside was would) k = k
  mislink (Mislink Missing was would) k = k
  mislink (Mislink Hidden was would) k = k
  mislink (Mislink (Blur b n o) was would) k = k

  no_fault : IsMet (faults (name_of vs) (facts us) (facts vs)) → ⊥
  no_fault (f, inl h) = clash f h
  no_fault (f, inr (n, inl h)) = capture f h
  no_fault (f, inr (n, inr (m, h))) = mislink f h

  pub yes : IsYes old new us
  yes =
      let lists = lexemes.0 in
      let cut = lexemes.1 in
      record {
        none =
            no_reason us old new lists cut (no_sources old new by.names by.manifest) (no_bytes us (cand lists cut) old new (given_bytes lists cut))
            (no_fixed us (cand lists cut) old new (all_free lists cut))
            (no_broken us (cand lists cut) old new vs still no_fault);
        list = changes lists (binders_of us);
        changes = (lists, cut, refl);
      }

pub changing_is_yes : (old new : FileSet) (us : List UnitTree) (r : Renaming) → IsProject old → IsProject new → Accepts old us → IsValid us r
    → ChangesAll us r → AreRespelledBy old new us r → IsYes old new us
changing_is_yes old new us r p q accepts valid only by = yes old new us r p q accepts valid only by
