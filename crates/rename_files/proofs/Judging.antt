-- A renaming, judged.
use Rattle.std.proofs.Common.{◌≡◌, ℕ, suc, inl, inr, List, [], ◌∷◌, Bool, true, false, cond, Option, Some, None, option_map, refl, ap, sym, subst}
use Rattle.std.proofs.Common.{◌∙◌}
use Rattle.std.specs.BTreeSet.{BTreeSet}
use Rattle.rotor_base.specs.declared.place.Place.{Place}
use Rattle.rotor_base.specs.declared.place.Foot.{Foot}
use Rattle.rotor_base.specs.declared.looks.Watch.{Watch}
use Rattle.rotor_base.specs.declared.refusal.Refusal.{Refusal}
use Rattle.rotor_base.specs.declared.refusal.Refusal.TheVariants as refusal
use Rattle.rotor_base.specs.declared.refusal.LoadError.TheVariants.{TooLarge}
use Rattle.rotor_base.specs.declared.source.SourceFile.{SourceFile}
use Rattle.rotor_base.specs.Files.{are_over, first_with, too_large, names_of}
use Rattle.dependency_kernel.specs.Foot.{IsFoot}
use Rattle.ml_syntax.specs.RespelledSource.{AreRespelled, Spellings}
use Rattle.value_sites.specs.Sound.{IsSound}
use Rattle.ml_trees.specs.Tree.{UnitTree}
use Rattle.shape_core.specs.Shape.{Name}
use Rattle.binding_model.specs.Facts.{facts}
use Rattle.binding_model.specs.Renaming.{IsBinder}
use Rattle.binding_model.specs.Local.{IsWatched}
use Rattle.binding_model.specs.Renaming.{name_of, in_file}
use Rattle.capture_check.specs.Fault.{IsMet}
use Rattle.rename_model.specs.Bytes.{position_with}
use Rattle.rename_model.specs.Foot.{hits}
use Rattle.rename_model.specs.Renaming.{watch_of, renamed_words, IsGrown, refusals_of_binder}
use Rattle.rename_model.proofs.One.{one_sources}
use Rattle.shape_core.specs.Places.{HasPlaces}
use Rattle.rename_parts.specs.Findings.{IsFree, IsRefused}
use Rattle.rename_parts.specs.Sources.{AreMade}
use Rattle.rename_parts.proofs.Bridge.{watched, all_made}
use Rattle.rename_parts.proofs.Rungs.{past_six, none_met, Rest}
use Rattle.rename_project.specs.Steps.{IsRefusedFor, IsFreeOf}
use Rattle.rename_files.specs.Steps.{LastRungs}

-- a watch is that of its binder
pub watch_is : (us : List UnitTree) (d : Place) (w : Watch) → w.old ≡ name_of us d → w ≡ watch_of us d w.foot w.new
watch_is us d w e = ap (λ o. record { old = o; new = w.new; foot = w.foot }) e

pub first_refused : (us : List UnitTree) (d : Place) (foot : Foot) (new : Name) (sources : List SourceFile) (why : Refusal)
    → IsRefused us d foot new why → IsRefusedFor (refusals_of_binder sources us d foot new) why
first_refused us d foot new sources why (inl h) = inl (h sources)
first_refused us d foot new sources why (inr h) = inr h

module _ (us : List UnitTree) (d : Place) (w : Watch) (sound : IsSound us) (is : IsFoot (facts us).links d w.foot) (b : IsBinder us d)
    (old : w.old ≡ name_of us d) (free : IsFree us d w.foot w.new) where
  same : w ≡ watch_of us d w.foot w.new
  same = watch_is us d w old

  pub is_watched : IsWatched us w
  is_watched = subst (IsWatched us) (sym same) (watched us d w.foot w.new sound is free b).0

  module _ (set : BTreeSet Place) (has : HasPlaces (hits (facts us).refs w.foot) set) (entries sources : List SourceFile)
      (made : AreMade set w.new 0 entries sources) where
    respelled_here : AreRespelled (in_file (renamed_words us (watch_of us d w.foot w.new))) 0 entries sources
    respelled_here = all_made us d w.foot w.new sound (watched us d w.foot w.new sound is free b).1 set has 0 entries sources made

    pub are_respelled : AreRespelled (in_file (renamed_words us w)) 0 entries sources
    are_respelled = subst (λ v. AreRespelled (in_file (renamed_words us v)) 0 entries sources) (sym same) respelled_here

    pub grown_refused : (file : ℕ) → Some file ≡ position_with are_over sources → IsRefusedFor (refusals_of_binder entries us d w.foot w.new)
        (refusal.Grown file)
    grown_refused file e = inl (past_six us d w.foot w.new entries (refusal.Grown file) free (inl (sources, respelled_here, sym e)))

    grown_free : position_with are_over sources ≡ None → IsMet (IsGrown entries us (watch_of us d w.foot w.new)) → ⊥
    grown_free e (refusal.Grown n, h) =
        let one : h.0 ≡ sources = one_sources (renamed_words us (watch_of us d w.foot w.new)) 0 entries h.0 sources h.1 respelled_here in
        let wrong : None ≡ Some n = sym e ∙ (ap (position_with are_over) (sym one) ∙ h.2) in
        absurd cc
    grown_free e (_, h) = h

    pub fault_refused : (why : Refusal) → position_with are_over sources ≡ None → IsRefusedFor (LastRungs us w) why
        → IsRefusedFor (refusals_of_binder entries us d w.foot w.new) why
    fault_refused why e (inl h) = inl (past_six us d w.foot w.new entries why free (inr (grown_free e, subst (λ v. LastRungs us v why) same h)))
    fault_refused why e (inr h) = inr h

    pub is_free : position_with are_over sources ≡ None → IsFreeOf (LastRungs us w) → IsFreeOf (refusals_of_binder entries us d w.foot w.new)
    is_free e last met = none_met us d w.foot w.new entries free rest met.0 met.1 where
      rest : IsMet (Rest us d w.foot w.new entries) → ⊥
      rest (why, inl h) = grown_free e (why, h)
      rest (why, inr h) = last (why, subst (λ v. LastRungs us v why) (sym same) h.1)

-- ---- sources that keep their names and the limits

pub names_kept : (ws : Spellings) (n : ℕ) (olds news : List SourceFile) → AreRespelled ws n olds news → names_of news ≡ names_of olds
names_kept ws n [] [] h = refl
names_kept ws n [] (x ∷ news) h = absurd h
names_kept ws n (o ∷ olds) [] h = absurd h
names_kept ws n (o ∷ olds) (x ∷ news) h = ap (λ m. m ∷ names_of news) h.0.name ∙ ap (λ l. o.name ∷ l) (names_kept ws (suc n) olds news h.1)

none_case : {X : Type 0} (x : X) (f : Option X) (b : Bool) (o : Option ℕ) → (o ≡ None → f ≡ None) → cond b (Some 0) (option_map suc o) ≡ None
    → cond b (Some x) f ≡ None
none_case x f true o r k = let wrong : Some 0 ≡ None = k in absurd cc
none_case x f false None r k = r refl
none_case x f false (Some n) r k = let wrong : Some (suc n) ≡ None = k in absurd cc

none_first : {X : Type 0} (test : List X → Bool) (xs : List X) → position_with test xs ≡ None → first_with test xs ≡ None
none_first test [] e = refl
none_first test (x ∷ xs) e = none_case x (first_with (λ front. test (x ∷ front)) xs) (test (x ∷ [])) (position_with (λ front. test (x ∷ front)) xs)
    (none_first (λ front. test (x ∷ front)) xs) e

pub small_enough : (xs : List SourceFile) → position_with are_over xs ≡ None → too_large xs ≡ None
unfolding too_large
small_enough xs e = ap (option_map (λ (file : SourceFile). TooLarge file.name)) (none_first are_over xs e)
