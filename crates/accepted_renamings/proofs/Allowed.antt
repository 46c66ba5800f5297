-- What may take another name meets none of the refusals of a renaming.
use Rattle.std.proofs.Common.{◌≡◌, ◌⊎◌, inl, inr, ℕ, List, true, Option, Some, None}
use Rattle.std.proofs.Common.{refl, ap, sym, subst, ◌∙◌}
use Rattle.std.specs.Cmp.Lexicographic.{slice_cmp}
use Rattle.std.specs.List.{list_all}
use Rattle.std.specs.List.Sorted.{IsStrictlySortedBy}
use Rattle.std.specs.Ordering.{nat_cmp}
use Rattle.rotor_base.specs.declared.place.Place.{Place}
use Rattle.rotor_base.specs.declared.place.Goal.TheVariants.{Decl, Outside}
use Rattle.rotor_base.specs.declared.place.Link.{Link}
use Rattle.rotor_base.specs.declared.place.Facts.{Facts}
use Rattle.rotor_base.specs.declared.place.Foot.{Foot}
use Rattle.rotor_base.specs.declared.looks.Watch.{Watch}
use Rattle.rotor_base.specs.declared.refusal.Refusal.{Refusal}
use Rattle.rotor_base.specs.declared.refusal.Refusal.TheVariants as refusal
use Rattle.rotor_base.specs.declared.source.SourceFile.{SourceFile}
use Rattle.rotor_base.specs.Place.{same_place}
use Rattle.rotor_base.specs.Stem.{is_source_name}
use Rattle.rotor_base.specs.Files.{FileSet, IsProject, are_over, names_of}
use Rattle.ml_syntax.specs.RespelledSource.{AreRespelled}
use Rattle.value_sites.specs.Sound.{IsSound}
use Rattle.ml_trees.specs.Tree.{UnitTree}
use Rattle.shape_core.specs.Shape.{Name, some_if}
use Rattle.dependency_kernel.specs.Foot.{IsFoot, IsFixedBy, IsLeastFixed}
use Rattle.dependency_kernel.specs.Foot as links
use Rattle.dependency_kernel.proofs.Laws.{has_one_name}
use Rattle.binding_model.specs.Facts.{facts}
use Rattle.binding_model.specs.Renaming.{IsBinder}
use Rattle.binding_model.specs.Local.{IsWatched}
use Rattle.binding_model.specs.Renaming.{renaming}
use Rattle.binding_model.specs.Renaming.{places, at_place, name_of, in_file, Changes, IsFixedSite, IsFree as MayChange}
use Rattle.binding_model.specs.Steps.{a_ref}
use Rattle.binding_model.proofs.Sounds.{links_join_one_name, same_self}
use Rattle.binding_model.proofs.Standing.{given}
use Rattle.capture_check.specs.Fault.{IsMet, of_ref, of_link, before}
use Rattle.project_reading.specs.Reads.{Reads}
use Rattle.project_reading.proofs.Cut.{all_cut}
use Rattle.project_reading.proofs.RespellingKept.{respelling_keeps_the_reading}
use Rattle.project_reading.proofs.Soundness.{read_is_sound}
use Rattle.respelled_reading.specs.Renamed.{GivesValueNames}
use Rattle.respelled_reading.proofs.Renamed.{renamed_files_are_read, watches_give_value_names}
use Rattle.renamed_sources.proofs.Limits.{small_is_taken}
use Rattle.renamed_sources.proofs.Respelling.{renamed_keep_names, sources_can_be_respelled}
use Rattle.rename_model.specs.Bytes.{position_with}
use Rattle.rename_model.specs.Foot.{IsIn, IsHit, is_in}
use Rattle.rename_model.specs.Ladder.{no_more}
use Rattle.rename_model.specs.Renaming.{IsBlurredAt, at_reference, at_item, at_source, IsGrown, IsClash, IsCapture, IsMislink, watch_of, renamed}
use Rattle.rename_model.specs.Renaming.{renamed_words, refusals_of_binder}
use Rattle.rename_parts.specs.Findings.{IsFree}
use Rattle.rename_parts.proofs.Bridge.{watched}
use Rattle.rename_parts.proofs.Having.{any_has, has_contained}
use Rattle.rename_parts.proofs.Rungs.{Rest}
use Rattle.rename_parts.proofs.Rungs as rungs
use Rattle.rename_files.specs.Answer.{Accepts}
use Rattle.rename_laws.proofs.Hits.{leads, hit_cases}
use Rattle.rename_laws.proofs.Ladder.{none_met}
use Rattle.rename_laws.proofs.Undone.{fixed_at, link_goal, none_differ, ref_goal}
use Rattle.facts_laws.proofs.Unrepeated.{good_repeats_none}
use Rattle.accepted_renamings.specs.Laws.{CanTakeName}

-- ---- parts

ends_of : (l : Link) (p : Place) → IsFixedBy l p → ((l.item ≡ Decl p) × (l.source ≡ Outside)) ⊎ ((l.item ≡ Outside) × (l.source ≡ Decl p))
ends_of l p (inl e) = inl (ap (λ (x : Link). x.item) e, ap (λ (x : Link). x.source) e)
ends_of l p (inr e) = inr (ap (λ (x : Link). x.item) e, ap (λ (x : Link). x.source) e)

module _ (files : FileSet) (us : List UnitTree) (d : Place) (foot : Foot) (new : Name) (p : IsProject files) (accepts : Accepts files us)
    (bind : IsBinder us d) (is : IsFoot (facts us).links d foot) (can : CanTakeName files us d foot new) where
  abbrev W : Watch
  W = watch_of us d foot new

  abbrev vs : List UnitTree
  vs = renamed us W

  sound : IsSound us
  sound = read_is_sound files us p accepts.reads

  inside : IsIn foot d
  inside = is.all d links.here

  -- ---- each member takes the new name, and may

  pub one_name : (a : Place) → IsIn foot a → name_of us a ≡ name_of us d
  one_name a c = has_one_name (facts us).links d foot (name_of us) is (λ x y k. (links_join_one_name us sound).links x y k) a d c inside

  in_is : (a : Place) → IsIn foot a → is_in foot a ≡ true
  in_is a c = any_has (same_place a) foot.decls (has_contained (λ q. same_place a q ≡ true) foot.decls a c (same_self a))

  changes : (a : Place) → IsIn foot a → Changes us (renaming W) a new
  changes a c = (given new foot.decls a ∙ ap (λ b. some_if b new) (in_is a c), λ e. can.other (e ∙ one_name a c))

  may_change : (a : Place) → IsIn foot a → MayChange us a
  may_change a c = can.valid.free a new (changes a c)

  not_fixed : (q : Place) → IsHit us foot q → IsFixedSite (at_place (places us) q) → ⊥
  not_fixed q c k = elim (hit_cases us foot q c) [
    | inl a ↦ (may_change q a).word k
    | inr r ↦ (let l = leads foot r.0.goal r.3 in
        (may_change l.0 l.2).uses r.0 r.1 l.1 (subst (λ z. IsFixedSite (at_place (places us) z)) (sym r.2) k))
  ]

  no_outside : foot.outside ≡ None
  no_outside = by foot.outside is.outside where
    by : (o : Option Place) → IsLeastFixed (facts us).links foot.decls o → o ≡ None
    by None h = refl
    by (Some a) h = absurd ((may_change a h.member).inside h.fixed.0 h.fixed.1 (ends_of h.fixed.0 a h.fixed.2))

  not_blurred : (q : Place) → IsBlurredAt (facts us) foot q → ⊥
  not_blurred q (at_reference g e c i b) = (may_change e i).refs_seen (a_ref q g) c b
  not_blurred q (at_item l c i e b) = (may_change q i).links_seen l c (inr (e, b))
  not_blurred q (at_source l c i b) = (may_change q i).links_seen l c (inl b)

  free : IsFree us d foot new
  free = record {
    words = λ q c k. not_fixed q c (fixed_at k.0 (at_place (places us) q) k.1 (inl k.2));
    valid = can.valid.names d new (changes d inside);
    other = can.other;
    inside = no_outside;
    plain = λ q c k. not_fixed q c (fixed_at k.0 (at_place (places us) q) k.1 (inr k.2));
    clear = not_blurred;
  }

  -- ---- the new sources

  both : IsWatched us W × ((a : Place) → IsIn foot a → IsBinder us a)
  both = watched us d foot new sound is free bind

  gives : GivesValueNames us (renaming W)
  gives = watches_give_value_names us W both.0 free.valid (λ a c. ((both.1 a c).0, (both.1 a c).1))

  pub made : (news : List SourceFile) × AreRespelled (in_file (renamed_words us W)) 0 files.entries news
  made = let cut = all_cut 0 files.entries accepts.reads.trees accepts.reads.read in
      sources_can_be_respelled (renamed_words us W) 0 files.entries cut.0 cut.1

  abbrev pub out : FileSet
  out = record { entries = made.0; manifest = files.manifest }

  still : Reads out vs
  still = renamed_files_are_read respelling_keeps_the_reading us (renaming W) files out p accepts.reads gives
      (record { sources = made.1; manifest = refl })

  names : names_of out.entries ≡ names_of files.entries
  names = renamed_keep_names (renamed_words us W) 0 files.entries out.entries made.1

  small : position_with are_over out.entries ≡ None
  small = by (position_with are_over out.entries) refl where
    by : (o : Option ℕ) → position_with are_over out.entries ≡ o → o ≡ None
    by None e = refl
    by (Some file) e = absurd (can.small (refusal.Grown file, (out.entries, made.1, e)))

  out_is : IsProject out
  out_is = record {
    sources = record {
      named = subst (λ ns. list_all is_source_name ns ≡ true) (sym names) p.sources.named;
      ordered = subst (IsStrictlySortedBy (slice_cmp nat_cmp)) (sym names) p.sources.ordered;
    };
    taken = small_is_taken files.entries out.entries files.manifest names small p.taken;
  }

  sound_again : IsSound vs
  sound_again = read_is_sound out vs out_is still

  -- ---- nothing is refused

  nothing_more : IsMet {R = Refusal} no_more → ⊥
  nothing_more m = m.1

  no_clash : IsMet (IsClash us vs) → ⊥
  no_clash (refusal.Clash first again, k) = good_repeats_none vs sound_again can.valid.good first again k.repeats
  no_clash (_, k) = k

  no_capture : IsMet (IsCapture us vs) → ⊥
  no_capture (refusal.Capture at was would, k) = none_differ of_ref ref_goal (facts us).refs (facts vs).refs
      (ap (λ (f : Facts). f.refs) (sym can.valid.same)) at was would k
  no_capture (_, k) = k

  no_mislink : IsMet (IsMislink us vs) → ⊥
  no_mislink (refusal.Mislink (Decl item) was would, k) = none_differ of_link link_goal (facts us).links (facts vs).links
      (ap (λ (f : Facts). f.links) (sym can.valid.same)) item was would k
  no_mislink (_, k) = k

  rest_free : IsMet (Rest us d foot new files.entries) → ⊥
  rest_free =
      none_met (IsGrown files.entries us W) (before (IsClash us vs) (before (IsCapture us vs) (before (IsMislink us vs) no_more))) can.small
      (none_met (IsClash us vs) (before (IsCapture us vs) (before (IsMislink us vs) no_more)) no_clash
      (none_met (IsCapture us vs) (before (IsMislink us vs) no_more) no_capture (none_met (IsMislink us vs) no_more no_mislink nothing_more)))

  pub binder_free : IsMet (refusals_of_binder files.entries us d foot new) → ⊥
  binder_free m = rungs.none_met us d foot new files.entries free rest_free m.0 m.1
