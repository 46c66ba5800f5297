-- The verdict on new files whose sources have the old names and whose manifest is the same.
use Rattle.std.proofs.Common.{◌≡◌, ℕ, List, Option, Some, None, Contains, map, length, ap, sym, subst, ◌∙◌}
use Rattle.std.proofs.lemmas.List.{length-map}
use Rattle.rotor_base.specs.Files.{FileSet, IsProject, names_of}
use Rattle.rotor_base.specs.declared.place.Facts.{Facts}
use Rattle.rotor_base.specs.declared.place.Place.{Place}
use Rattle.value_sites.specs.Places.{Site}
use Rattle.rotor_base.specs.declared.source.SourceFile.{SourceFile}
use Rattle.ml_lexer.specs.Lexed.{Lexeme}
use Rattle.value_sites.specs.Sound.{IsSound}
use Rattle.ml_trees.specs.Tree.{UnitTree}
use Rattle.shape_core.specs.Respell.{Words}
use Rattle.binding_model.specs.Facts.{facts}
use Rattle.binding_model.specs.Renaming.{IsFixedSite, Renaming, at_place, name_of, places, respell}
use Rattle.binding_model.specs.Sums.{heavy}
use Rattle.capture_check.specs.declared.fault.Fault.{Fault}
use Rattle.capture_check.specs.Fault.{IsMet, IsFirstFault}
use Rattle.project_reading.specs.Reads.{Reads}
use Rattle.project_reading.proofs.OneReading.{one_project}
use Rattle.project_reading.proofs.Soundness.{read_is_sound}
use Rattle.rename_respell.specs.Respelled.{AreRespelledBytes, changed, mapped_words}
use Rattle.rename_survey.specs.Survey.{binders_of}
use Rattle.rename_verify.specs.declared.bytes.Spot.{Spot}
use Rattle.rename_verify.specs.declared.verdict.Why.TheVariants as why
use Rattle.rename_verify.specs.Candidate.{AreLexemesOf, candidate, changes}
use Rattle.rename_verify.specs.Changed.{Changed}
use Rattle.rename_verify.specs.Differ.{FilesPartAt}
use Rattle.rename_verify.specs.Fixed.{IsLeastHeld}
use Rattle.rename_verify.specs.Steps.{HasFirstFault, HasSpot, IsSameShape, IsSuggestedFor}
use Rattle.rename_survey.specs.declared.answer.Binder.{Binder}
use Rattle.rename_survey.specs.Listed.{binders_in}
use Rattle.rename_survey.proofs.Listing.{all_listed}
use Rattle.rename_verify.specs.Verdict.{AreChanges, IsBytes, IsFixedAt, IsSources, reasons}
use Rattle.rename_verify.proofs.Listing.{all_free, least_fixed, not_fixed}
use Rattle.rename_verify.proofs.Reasons.{as_many, no_broken, no_bytes, no_fixed, no_reason, no_sources, then_broken, then_bytes, then_fixed}
use Rattle.rename_verify.proofs.Renamed.{AreRespelling, stays, still}

pub as_many_sources : {A : Type 0} (f : A → List ℕ) (w : Words) (olds news : List SourceFile) (outs : List A) → names_of olds ≡ names_of news
    → AreRespelledBytes w 0 olds (map f outs) → length outs ≡ length news
as_many_sources f w olds news outs names h =
    sym (length-map outs f)
    ∙ (sym (as_many w 0 olds (map f outs) h)
    ∙ (sym (length-map olds (λ s. s.name)) ∙ (ap (λ (l : List (List ℕ)). length l) names ∙ length-map news (λ s. s.name))))

module _ (old new : FileSet) (us : List UnitTree) (p : IsProject old) (reads : Reads old us) (light : heavy us ≡ None)
    (names : names_of old.entries ≡ names_of new.entries) (manifest : old.manifest ≡ new.manifest)
    (lists : List (List Lexeme)) (cut : AreLexemesOf new.entries lists) where
  abbrev r : Renaming
  r = candidate lists (binders_of us)

  abbrev news : List (List ℕ)
  news = map (λ (s : SourceFile). s.bytes) new.entries

  pub sound : IsSound us
  sound = read_is_sound old us p reads

  no_other : IsMet (IsSources old new) → ⊥
  no_other = no_sources old new names manifest

  pub bytes_part : (sources : List (List ℕ)) → AreRespelledBytes (mapped_words us r) 0 old.entries sources → (file offset : ℕ)
      → FilesPartAt sources news file offset → reasons us old new (why.Bytes file offset)
  bytes_part sources i file offset h = then_bytes us old new lists cut no_other file offset (sources, i, h)

  module _ (sources : List (List ℕ)) (i : AreRespelledBytes (mapped_words us r) 0 old.entries sources) (same : sources ≡ news) where
    bytes : AreRespelledBytes (mapped_words us r) 0 old.entries news
    bytes = subst (AreRespelledBytes (mapped_words us r) 0 old.entries) same i

    no_bytes_part : IsMet (IsBytes us r old new) → ⊥
    no_bytes_part = no_bytes us r old new bytes

    pub one_is_fixed : (at : Place) → IsLeastHeld us (changes lists (binders_of us)) (Some at) → reasons us old new (why.Fixed at)
    one_is_fixed at h = then_fixed us old new lists cut no_other no_bytes_part at (least_fixed us sound lists at h)

    module _ (none : IsLeastHeld us (changes lists (binders_of us)) None) where
      respelling : AreRespelling old new us lists
      respelling = record {
        project = p;
        reads = reads;
        cut = cut;
        names = names;
        manifest = manifest;
        bytes = bytes;
        free = all_free us sound lists none;
      }

      none_is_fixed : IsMet (IsFixedAt us r) → ⊥
      none_is_fixed = no_fixed us r old new (all_free us sound lists none)

      pub is_read : (vs : List UnitTree) × Reads new vs
      is_read = (respell us (changed us r), still old new us lists respelling)

      shape_of : (fs : Facts) → fs ≡ facts us → IsSameShape fs (respell us (changed us r))
      shape_of fs e =
          let s = stays old new us lists respelling in
          record {
            refs = ap (λ (f : Facts). map (λ x. x.at) f.refs) e ∙ sym s.refs;
            items = ap (λ (f : Facts). map (λ x. x.item) f.links) e ∙ sym s.items;
            groups = ap (λ (f : Facts). f.groups) e ∙ sym s.groups;
            light = s.sites ∙ light;
          }

      pub has_shape : (fs : Facts) → fs ≡ facts us → (vs : List UnitTree) → Reads new vs → IsSameShape fs vs
      has_shape fs e vs k = subst (IsSameShape fs) (one_project new (respell us (changed us r)) vs (still old new us lists respelling) k)
          (shape_of fs e)

      pub is_broken : (fs : Facts) → fs ≡ facts us → (fault : Fault) → HasFirstFault new fs (Some fault) → reasons us old new (why.Broken fault)
      is_broken fs e fault h =
          then_broken us old new lists cut no_other no_bytes_part none_is_fixed fault
          (h.0, h.1, subst (λ f. IsFirstFault (name_of h.0) f (facts h.0) (Some fault)) e h.2)

      pub no_reason_is : (fs : Facts) → fs ≡ facts us → HasFirstFault new fs None → IsMet (reasons us old new) → ⊥
      no_reason_is fs e h =
          no_reason us old new lists cut no_other no_bytes_part none_is_fixed
          (no_broken us r old new h.0 h.1 (subst (λ f. IsFirstFault (name_of h.0) f (facts h.0) None) e h.2))

-- the same by what the words of the new files suggest
module _ (old new : FileSet) (us : List UnitTree) (p : IsProject old) (reads : Reads old us) (light : heavy us ≡ None)
    (names : names_of old.entries ≡ names_of new.entries) (manifest : old.manifest ≡ new.manifest)
    (m : Renaming) (list : List Changed) (ls : List (Place × Site)) (at : ls ≡ places us) (g : IsSuggestedFor (binders_in ls) new m list) where
  h : IsSuggestedFor (binders_of us) new m list
  h = subst (λ (bs : List Binder). IsSuggestedFor bs new m list) (ap binders_in at ∙ all_listed us (read_is_sound old us p reads)) g

  pub changes_free : (k : Changed) → Contains list k → IsFixedSite (at_place (places us) k.0) → ⊥
  changes_free k among = not_fixed us (read_is_sound old us p reads) h.0 k (subst (λ (l : List Changed). Contains l k) h.3 among)

  made : (sources : List (List ℕ)) → AreRespelledBytes (mapped_words us m) 0 old.entries sources
      → AreRespelledBytes (mapped_words us (candidate h.0 (binders_of us))) 0 old.entries sources
  made sources = subst (λ (r : Renaming). AreRespelledBytes (mapped_words us r) 0 old.entries sources) h.2

  held : (o : Option Place) → IsLeastHeld us list o → IsLeastHeld us (changes h.0 (binders_of us)) o
  held o = subst (λ (l : List Changed). IsLeastHeld us l o) h.3

  pub other_bytes : (spot : Spot) → HasSpot us m old new (Some spot) → reasons us old new (why.Bytes spot.file spot.offset)
  other_bytes spot k = bytes_part old new us p reads light names manifest h.0 h.1 k.0 (made k.0 k.1) spot.file spot.offset k.2

  module _ (k : HasSpot us m old new None) where
    pub fixed_binder : (at : Place) → IsLeastHeld us list (Some at) → reasons us old new (why.Fixed at)
    fixed_binder at f = one_is_fixed old new us p reads light names manifest h.0 h.1 k.0 (made k.0 k.1) k.2 at (held (Some at) f)

    module _ (f : IsLeastHeld us list None) where
      pub is_read_again : (vs : List UnitTree) × Reads new vs
      is_read_again = is_read old new us p reads light names manifest h.0 h.1 k.0 (made k.0 k.1) k.2 (held None f)

      pub same_shape : (fs : Facts) → fs ≡ facts us → (vs : List UnitTree) → Reads new vs → IsSameShape fs vs
      same_shape = has_shape old new us p reads light names manifest h.0 h.1 k.0 (made k.0 k.1) k.2 (held None f)

      pub broken_fault : (fs : Facts) → fs ≡ facts us → (fault : Fault) → HasFirstFault new fs (Some fault) → reasons us old new (why.Broken fault)
      broken_fault = is_broken old new us p reads light names manifest h.0 h.1 k.0 (made k.0 k.1) k.2 (held None f)

      pub all_kept : (fs : Facts) → fs ≡ facts us → HasFirstFault new fs None → (IsMet (reasons us old new) → ⊥) × AreChanges us new list
      all_kept fs e b = (
        no_reason_is old new us p reads light names manifest h.0 h.1 k.0 (made k.0 k.1) k.2 (held None f) fs e b,
        (h.0, h.1, h.3),
      )
