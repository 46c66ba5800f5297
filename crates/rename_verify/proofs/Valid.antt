-- A yes is a valid respelling.
use Rattle.std.proofs.Common.{◌≡◌, inl, inr, ℕ, suc, List, [], ◌∷◌, Bool, true, false, cond, Option, Some, None, map, filter, length, Contains, refl}
use Rattle.std.proofs.Common.{ap, sym, subst, ◌∙◌}
use Rattle.std.proofs.lemmas.List.{length-map}
use Rattle.std.proofs.lemmas.Slice.Eq.{bytes_eq-Decides}
use Rattle.std.specs.Prelude.{IsTrue}
use Rattle.std.specs.Str.{bytes_eq}
use Rattle.rotor_base.specs.Files.{FileSet, IsProject, names_of}
use Rattle.rotor_base.specs.declared.place.Place.{Place}
use Rattle.rotor_base.specs.declared.source.SourceFile.{SourceFile}
use Rattle.rotor_base.proofs.Rising.{some_is}
use Rattle.ml_lexer.specs.Lexed.{Lexeme}
use Rattle.value_sites.specs.Places.{Site}
use Rattle.value_sites.specs.Sound.{IsSound}
use Rattle.ml_trees.specs.Tree.{FileTree, UnitTree}
use Rattle.shape_core.specs.Respell.{Words}
use Rattle.shape_core.specs.Shape.{Name}
use Rattle.binding_model.specs.Facts.{facts, unmatched_items, least, IsGood}
use Rattle.binding_model.specs.Renaming.{Renaming, places, at_place, name_of, respell, words_of, Changes, IsFree, IsValid}
use Rattle.binding_model.proofs.Naming.{each_in}
use Rattle.capture_check.specs.declared.fault.Fault.TheVariants.{Clash}
use Rattle.capture_check.specs.Fault.{IsMet, before, faults}
use Rattle.group_laws.proofs.Apartness.{unrefused_is_good}
use Rattle.module_meaning.proofs.Main.{runs_are_kept}
use Rattle.project_reading.specs.Reads.{Reads}
use Rattle.project_reading.specs.Sources.{ReadAll}
use Rattle.project_reading.proofs.Soundness.{read_is_sound}
use Rattle.rename_files.specs.Answer.{Accepts}
use Rattle.rename_laws.specs.Laws.{KeepsRuns}
use Rattle.rename_laws.proofs.Free.{none_repeats, none_unmatched}
use Rattle.rename_laws.proofs.Ladder.{not_first, not_rest}
use Rattle.rename_laws.proofs.Leasts.{no_least_is_none}
use Rattle.ml_lexer.specs.Respelled.{respelled}
use Rattle.rename_respell.specs.Respelled.{AreRespelledBytes, changed, mapped_words, new_texts}
use Rattle.rename_survey.specs.Survey.{binders_of}
use Rattle.rename_verify.specs.declared.verdict.Why.TheVariants as why
use Rattle.rename_verify.specs.Candidate.{AreLexemesOf, candidate, changes}
use Rattle.rename_verify.specs.Differ.{source, manifest}
use Rattle.rename_verify.specs.Laws.{AreRespelledBy, IsListedChange, IsMap, YesIsValid, YesKeepsRuns, ChangesAll}
use Rattle.rename_verify.specs.Scans.{first_alone}
use Rattle.rename_verify.specs.Verdict.{IsSources, IsBytes, IsFixed, IsFixedAt, IsBroken, ForCandidate, reasons}
use Rattle.rename_verify.proofs.Alone.{IsToldAlone, told}
use Rattle.rename_verify.proofs.Decided.{files_part_or_same}
use Rattle.rename_verify.proofs.Given as given
use Rattle.rename_verify.proofs.Listing.{changes_in, in_changes}
use Rattle.rename_verify.proofs.Reasons.{Rest, as_many}
use Rattle.rename_verify.proofs.Renamed.{AreRespelling, gives, stays, still}
use Rattle.rename_verify.proofs.Unchanged.{no_clash, same_facts}
use Rattle.binding_model.specs.Renaming.{in_file}

-- ---- what may be renamed, if it is not so that it may not

free_if : (us : List UnitTree) (d : Place) → ((IsFree us d → ⊥) → ⊥) → IsFree us d
free_if us d h = record {
  word = λ a. h (λ f. f.word a);
  uses = λ r c g s. h (λ f. f.uses r c g s);
  inside = λ l c k. h (λ f. f.inside l c k);
  refs_seen = λ r c k. h (λ f. f.refs_seen r c k);
  links_seen = λ l c k. h (λ f. f.links_seen l c k);
}

-- ---- the sources

same_manifest : (a b : Option (List ℕ)) → ((a ≡ b → ⊥) → ⊥) → a ≡ b
same_manifest None None h = refl
same_manifest None (Some y) h = absurd (h (λ e. cc))
same_manifest (Some x) None h = absurd (h (λ e. cc))
same_manifest (Some x) (Some y) h = by (bytes_eq x y) refl where
  by : (b : Bool) → bytes_eq x y ≡ b → Some x ≡ Some y
  by true e = ap (λ (z : List ℕ). Some z) ((bytes_eq-Decides x y).0 e)
  by false e =
      absurd (h (λ k. let yes : bytes_eq x y ≡ true = (bytes_eq-Decides x y).1 (some_is x y k) in let wrong : true ≡ false = sym yes ∙ e in cc))

same_names : (old new : FileSet) → IsProject old → IsProject new → (IsMet (IsSources old new) → ⊥) → names_of old.entries ≡ names_of new.entries
same_names old new p q none = by (first_alone (names_of old.entries) (names_of new.entries))
    (told (names_of old.entries) (names_of new.entries) p.sources.ordered q.sources.ordered) where
      by : (o : Option Name) → IsToldAlone (names_of old.entries) (names_of new.entries) o → names_of old.entries ≡ names_of new.entries
      by None h = h
      by (Some x) h = absurd (none (why.Sources x, source x h))

-- ---- the bytes

respelled_all : (w : Words) (n : ℕ) (olds : List SourceFile) (ts : List FileTree) → ReadAll n olds ts → (outs : List (List ℕ))
    × AreRespelledBytes w n olds outs
respelled_all w n [] [] h = ([], tt)
respelled_all w n [] (t ∷ ts) h = absurd h
respelled_all w n (o ∷ olds) [] h = absurd h
respelled_all w n (o ∷ olds) (t ∷ ts) h =
    let rest = respelled_all w (suc n) olds ts h.1 in
    let xs = h.0.lexemes in (
      respelled o.bytes xs (new_texts (in_file w n) 1 xs) ∷ rest.0,
      (record { lexemes = xs; cut = h.0.plain.cut; bytes = refl }, rest.1),
    )

-- ---- a list that is filtered twice

pub filtered_again : {A : Type 0} (test : A → Bool) (xs : List A) → filter test (filter test xs) ≡ filter test xs
filtered_again test [] = refl
filtered_again test (x ∷ xs) = by (test x) refl (filtered_again test xs) where
  kept : (b : Bool) → b ≡ true → filter test (filter test xs) ≡ filter test xs
      → cond b (x ∷ filter test (filter test xs)) (filter test (filter test xs)) ≡ x ∷ filter test xs
  kept true e h = ap (λ l. x ∷ l) h
  kept false e h = cc

  by : (b : Bool) → test x ≡ b → filter test (filter test xs) ≡ filter test xs
      → filter test (cond b (x ∷ filter test xs) (filter test xs)) ≡ cond b (x ∷ filter test xs) (filter test xs)
  by true e h = kept (test x) e h
  by false e h = h

module _ (old new : FileSet) (us : List UnitTree) (p : IsProject old) (q : IsProject new) (accepts : Accepts old us) (lists : List (List Lexeme))
    (cut : AreLexemesOf new.entries lists) (none : IsMet (reasons us old new) → ⊥) where
  abbrev r : Renaming
  r = candidate lists (binders_of us)

  abbrev R : Renaming
  R = changed us r

  abbrev vs : List UnitTree
  vs = respell us R

  sound : IsSound us
  sound = read_is_sound old us p accepts.reads

  no_sources : IsMet (IsSources old new) → ⊥
  no_sources = not_first (IsSources old new) (ForCandidate us new (Rest us old new)) none

  no_rest : IsMet (Rest us old new r) → ⊥
  no_rest m = not_rest (IsSources old new) (ForCandidate us new (Rest us old new)) none (m.0, (lists, cut, m.1))

  no_bytes : IsMet (IsBytes us r old new) → ⊥
  no_bytes = not_first (IsBytes us r old new) (before (IsFixedAt us r) (IsBroken us new)) no_rest

  behind_bytes : IsMet (before (IsFixedAt us r) (IsBroken us new)) → ⊥
  behind_bytes = not_rest (IsBytes us r old new) (before (IsFixedAt us r) (IsBroken us new)) no_rest

  no_fixed : IsMet (IsFixedAt us r) → ⊥
  no_fixed = not_first (IsFixedAt us r) (IsBroken us new) behind_bytes

  no_broken : IsMet (IsBroken us new) → ⊥
  no_broken = not_rest (IsFixedAt us r) (IsBroken us new) behind_bytes

  names : names_of old.entries ≡ names_of new.entries
  names = same_names old new p q no_sources

  manifests : old.manifest ≡ new.manifest
  manifests = same_manifest old.manifest new.manifest (λ n. no_sources (why.Sources _, manifest names n))

  free : (d : Place) (y : Name) → Changes us r d y → IsFree us d
  free d y c = free_if us d
      (λ n. no_least_is_none (IsFixed us r) (λ at l. no_fixed (why.Fixed at, l)) d (record { name = y; changes = c; fixed = n }))

  abbrev news : List (List ℕ)
  news = map (λ (s : SourceFile). s.bytes) new.entries

  bytes : AreRespelledBytes (mapped_words us r) 0 old.entries news
  bytes =
      let made = respelled_all (mapped_words us r) 0 old.entries accepts.reads.trees accepts.reads.read in
      let many : length made.0 ≡ length news =
      sym (as_many (mapped_words us r) 0 old.entries made.0 made.1)
      ∙ (sym (length-map old.entries (λ s. s.name))
      ∙ (ap (λ (l : List (List ℕ)). length l) names
      ∙ (length-map new.entries (λ s. s.name) ∙ sym (length-map new.entries (λ (s : SourceFile). s.bytes))))) in
      elim (files_part_or_same made.0 news many) [
        | inl e ↦ subst (AreRespelledBytes (mapped_words us r) 0 old.entries) e made.1
        | inr s ↦ absurd (no_bytes (why.Bytes s.0 s.1, (made.0, made.1, s.2)))
      ]

  respelling : AreRespelling old new us lists
  respelling = record { project = p; reads = accepts.reads; cut = cut; names = names; manifest = manifests; bytes = bytes; free = free }

  read_again : Reads new vs
  read_again = still old new us lists respelling

  no_fault : IsMet (faults (name_of vs) (facts us) (facts vs)) → ⊥
  no_fault m = no_broken (why.Broken m.0, (vs, read_again, m.1))

  facts_same : facts vs ≡ facts us
  facts_same = same_facts us vs sound (stays old new us lists respelling) no_fault

  sound_again : IsSound vs
  sound_again = read_is_sound new vs q read_again

  good : IsGood us
  good = unrefused_is_good us sound (none_repeats us accepts.none) (none_unmatched us accepts.none)

  good_again : IsGood vs
  good_again =
      unrefused_is_good vs sound_again (λ first again k. no_clash us vs sound (stays old new us lists respelling) no_fault (Clash first again, k))
      (ap (λ f. least (unmatched_items f.links)) facts_same ∙ none_unmatched us accepts.none)

  changes_of : (d : Place) (y : Name) → Changes us R d y → Changes us r d y
  changes_of d y c = given.changed_is us sound lists d y c.0

  entries_bind : (d : Place) (y : Name) → Contains R (d, y) → (x : Site) × (at_place (places us) d ≡ Some x) × IsTrue x.binds
  entries_bind d y c = each_in (λ e. (x : Site) × (at_place (places us) e.0 ≡ Some x) × IsTrue x.binds) R (d, y) (given.kept_binders us sound lists) c

  pub valid : IsValid us R
  valid = record {
    binders = entries_bind;
    free = λ d y c. free d y (changes_of d y c);
    names = λ d y c. (gives old new us lists respelling).word d y c.0;
    good = good_again;
    same = facts_same;
  }

  pub all_other : ChangesAll us R
  all_other d y c = given.other_name us d y (each_in (λ e. given.is_other us e ≡ true) R (d, y) (given.changed_other us r) c)

  entry_given : (d : Place) (y : Name) → Contains R (d, y) → given.IsGiven us sound lists (d, y)
  entry_given d y c =
      let each = given.each_filtered (given.IsGiven us sound lists) (given.is_other us) r (given.given us sound lists) in
      (each_in (λ e. given.IsGiven us sound lists e × (given.is_other us e ≡ true)) R (d, y) each c).0

  pub single : IsMap R
  single d y z c k = given.one_given us sound lists d y z (entry_given d y c) (entry_given d z k)

  pub is_respelled : AreRespelledBy old new us R
  is_respelled = record {
    names = names;
    manifest = manifests;
    bytes = subst (λ (m : Renaming). AreRespelledBytes (words_of m (facts us).refs) 0 old.entries news)
        (sym (filtered_again (given.is_other us) r)) bytes;
  }

  pub runs : KeepsRuns old new
  runs = record { project = us; renamed = vs; reads = accepts.reads; still = read_again; same = runs_are_kept us R sound good valid }

  pub changes_listed : (d : Place) (y : Name) → Changes us R d y → IsListedChange (changes lists (binders_of us)) d y
  changes_listed d y c = let k = changes_in us sound lists d y (changes_of d y c) in record { change = k.0; among = k.1; place = k.2; name = k.3 }

  pub listed_changes : (d : Place) (y : Name) → IsListedChange (changes lists (binders_of us)) d y → Changes us R d y
  listed_changes d y k =
      let c = in_changes us sound lists k.change k.among in
      let here : Changes us r d y = subst (λ z. Changes us r d z) k.name (subst (λ z. Changes us r z k.change.2) k.place c) in
      (given.changes_are_changed us r d y here, here.1)

pub yes_is_valid : YesIsValid
yes_is_valid old new list p q h =
    let us = h.0 in
    let lists = h.2.1.0 in
    let cut = h.2.1.1 in
    record {
      project = us;
      reads = h.1.reads;
      renaming = changed us (candidate lists (binders_of us));
      valid = valid old new us p q h.1 lists cut h.2.0;
      single = single old new us p q h.1 lists cut h.2.0;
      other = all_other old new us p q h.1 lists cut h.2.0;
      respelled = is_respelled old new us p q h.1 lists cut h.2.0;
      listed = λ d y. (
        λ c. subst (λ l. IsListedChange l d y) (sym h.2.1.2) (changes_listed old new us p q h.1 lists cut h.2.0 d y c),
        λ k. listed_changes old new us p q h.1 lists cut h.2.0 d y (subst (λ l. IsListedChange l d y) h.2.1.2 k),
      );
    }

pub yes_keeps_runs : YesKeepsRuns
yes_keeps_runs old new list p q h = runs old new h.0 p q h.1 h.2.1.0 h.2.1.1 h.2.0
