-- An accepted renaming, on trees and on files.
use Rattle.std.proofs.Common.{◌≡◌, inl, inr, ℕ, List, true, Option, Some, None, refl, sym, subst, ◌∙◌}
use Rattle.std.specs.Cmp.Lexicographic.{slice_cmp}
use Rattle.std.specs.List.{list_all}
use Rattle.std.specs.List.Sorted.{IsStrictlySortedBy}
use Rattle.std.specs.Ordering.{nat_cmp}
use Rattle.rotor_base.specs.declared.place.Place.{Place}
use Rattle.rotor_base.specs.declared.place.Goal.TheVariants.{Decl, Outside, Missing, Hidden, Blur}
use Rattle.rotor_base.specs.declared.place.Foot.{Foot}
use Rattle.rotor_base.specs.declared.looks.Watch.{Watch}
use Rattle.rotor_base.specs.declared.refusal.Refusal.TheVariants as refusal
use Rattle.rotor_base.specs.Stem.{is_source_name}
use Rattle.rotor_base.specs.Files.{FileSet, IsProject, are_over, load_refusal, names_of}
use Rattle.ml_syntax.specs.RespelledSource.{AreRespelled}
use Rattle.value_sites.specs.Sound.{IsSound}
use Rattle.ml_trees.specs.Tree.{UnitTree}
use Rattle.shape_core.specs.Shape.{Name}
use Rattle.dependency_kernel.specs.Foot.{IsFoot}
use Rattle.binding_model.specs.Back.{CanGoBack, back}
use Rattle.binding_model.specs.Facts.{facts, IsGood}
use Rattle.binding_model.specs.Renaming.{IsBinder}
use Rattle.binding_model.specs.Local.{IsWatched, IsAccepted}
use Rattle.binding_model.specs.Renaming.{renaming}
use Rattle.binding_model.specs.Renaming.{name_of, respell, IsValid, in_file}
use Rattle.binding_model.proofs.Clashing.{groups_tell_clash, accepted_is_valid}
use Rattle.binding_model.proofs.Telltale.{looks_tell_facts}
use Rattle.rename_laws.proofs.TreesBack.{undone_is_the_project}
use Rattle.binding_model.proofs.Undoing.{accepted_goes_back}
use Rattle.capture_check.specs.declared.fault.Fault.{Fault}
use Rattle.capture_check.specs.declared.fault.Fault.TheVariants as fault
use Rattle.capture_check.specs.Fault.{IsMet, faults}
use Rattle.capture_check.specs.Fault as found
use Rattle.capture_check.proofs.Equal.{no_fault_keeps_facts}
use Rattle.group_laws.specs.Laws.{HasNoRepeat}
use Rattle.group_laws.proofs.Apartness.{no_repeat_is_apart, unrefused_is_good}
use Rattle.module_meaning.specs.Run.{run}
use Rattle.module_meaning.proofs.Main.{runs_are_kept}
use Rattle.project_reading.specs.Reads.{Reads}
use Rattle.project_reading.proofs.Soundness.{read_is_sound}
use Rattle.project_reading.proofs.RespellingKept.{respelling_keeps_the_reading}
use Rattle.respelled_reading.specs.Renamed.{GivesValueNames}
use Rattle.respelled_reading.proofs.Renamed.{renamed_files_are_read, watches_give_value_names}
use Rattle.rename_model.specs.Bytes.{position_with}
use Rattle.rename_model.specs.Foot.{IsIn}
use Rattle.rename_model.specs.Project.{refusals_of_project}
use Rattle.rename_model.specs.Renaming.{watch_of, renamed, renamed_words, refusals_of_binder}
use Rattle.rename_parts.specs.Findings.{IsFree}
use Rattle.rename_parts.proofs.Bridge.{watched}
use Rattle.renamed_sources.proofs.Limits.{small_is_taken}
use Rattle.renamed_sources.proofs.Respelling.{renamed_keep_names}
use Rattle.rename_laws.proofs.Free.{IsLasting, none_repeats, none_unmatched, first_free, lasting}

-- ---- a project, and a renaming of it

-- what holds of a renaming that is accepted, before the new sources are read
pub record IsRenamable (files : FileSet) (us : List UnitTree) (d : Place) (foot : Foot) (new : Name) : Type 0 where
  pub files_are : IsProject files
  pub reads : Reads files us
  pub project : IsMet (refusals_of_project us) → ⊥
  pub binder : IsBinder us d
  pub is : IsFoot (facts us).links d foot
  pub none : IsMet (refusals_of_binder files.entries us d foot new) → ⊥

module _ (files : FileSet) (us : List UnitTree) (d : Place) (foot : Foot) (new : Name) (h : IsRenamable files us d foot new) where
  abbrev W : Watch
  W = watch_of us d foot new

  abbrev vs : List UnitTree
  vs = renamed us W

  pub sound : IsSound us
  sound = read_is_sound files us h.files_are h.reads

  pub good : IsGood us
  good = unrefused_is_good us sound (none_repeats us h.project) (none_unmatched us h.project)

  pub free : IsFree us d foot new
  free = first_free files.entries us d foot new h.none

  pub last : IsLasting files.entries us d foot new
  last = lasting files.entries us d foot new h.none

  pub both : IsWatched us W × ((a : Place) → IsIn foot a → IsBinder us a)
  both = watched us d foot new sound h.is free h.binder

  -- no fault
  no_fault : IsMet (faults (name_of vs) (facts us) (facts vs)) → ⊥
  no_fault m = by m.0 m.1 where
    clash : (f : Fault) → found.IsClash (name_of vs) (facts vs).groups f → ⊥
    clash (fault.Clash first again) k = last.clash (refusal.Clash first again, k)
    clash (fault.Capture at was would) k = k
    clash (fault.Mislink item was would) k = k

    capture : (f : Fault) → found.IsCapture (facts us).refs (facts vs).refs f → ⊥
    capture (fault.Clash first again) k = k
    capture (fault.Capture at was would) k = last.capture (refusal.Capture at was would, k)
    capture (fault.Mislink item was would) k = k

    mislink : (f : Fault) → found.IsMislink (facts us).links (facts vs).links f → ⊥
    mislink (fault.Clash first again) k = k
    mislink (fault.Capture at was would) k = k
    mislink (fault.Mislink (Decl item) was would) k = last.mislink (refusal.Mislink (Decl item) was would, k)
    mislink (fault.Mislink Outside was would) k = k
    mislink (fault.Mislink Missing was would) k = k
    mislink (fault.Mislink Hidden was would) k = k
    mislink (fault.Mislink (Blur by n o) was would) k = k

    by : (f : Fault) → faults (name_of vs) (facts us) (facts vs) f → ⊥
    by f k = elim k [ inl x ↦ clash f x | inr x ↦ elim x.1 [ inl y ↦ capture f y | inr y ↦ mislink f y.1 ] ]

  pub same_facts : facts vs ≡ facts us
  same_facts = no_fault_keeps_facts us W sound both.0 no_fault

  pub gives : GivesValueNames us (renaming W)
  gives = watches_give_value_names us W both.0 free.valid (λ a c. ((both.1 a c).0, (both.1 a c).1))

  module _ (out : FileSet) (sources : AreRespelled (in_file (renamed_words us W)) 0 files.entries out.entries)
      (manifest : out.manifest ≡ files.manifest) where
    pub still : Reads out vs
    still = renamed_files_are_read respelling_keeps_the_reading us (renaming W) files out h.files_are h.reads gives
        (record { sources = sources; manifest = manifest })

    pub names : names_of out.entries ≡ names_of files.entries
    names = renamed_keep_names (renamed_words us W) 0 files.entries out.entries sources

    pub small : position_with are_over out.entries ≡ None
    small = by (position_with are_over out.entries) refl where
      by : (o : Option ℕ) → position_with are_over out.entries ≡ o → o ≡ None
      by None e = refl
      by (Some file) e = absurd (last.grown (refusal.Grown file, (out.entries, sources, e)))

    pub taken : load_refusal out.entries out.manifest ≡ None
    taken = subst (λ m. load_refusal out.entries m ≡ None) (sym manifest)
        (small_is_taken files.entries out.entries files.manifest names small h.files_are.taken)

    pub out_is : IsProject out
    out_is = record {
      sources = record {
        named = subst (λ ns. list_all is_source_name ns ≡ true) (sym names) h.files_are.sources.named;
        ordered = subst (IsStrictlySortedBy (slice_cmp nat_cmp)) (sym names) h.files_are.sources.ordered;
      };
      taken = taken;
    }

    pub sound_again : IsSound vs
    sound_again = read_is_sound out vs out_is still

    pub none_again : HasNoRepeat (name_of vs) (facts vs).groups
    none_again first again k = last.clash (refusal.Clash first again, k)

    pub accepted : IsAccepted us W
    accepted = record {
      watched = both.0;
      binders = both.1;
      word = free.valid;
      apart = (groups_tell_clash us W sound good both.0).0 (no_repeat_is_apart vs sound_again none_again);
      same = sym (looks_tell_facts us W sound both.0) ∙ same_facts;
    }

    pub valid : IsValid us (renaming W)
    valid = accepted_is_valid us W sound good accepted

    pub same_runs : (n : ℕ) → run n vs ≡ run n us
    same_runs = runs_are_kept us (renaming W) sound good valid

    pub can_go_back : CanGoBack us vs W
    can_go_back = accepted_goes_back us W sound good accepted

    pub undone : respell vs (renaming (back W)) ≡ us
    undone = undone_is_the_project us W sound good accepted
