-- An accepted renaming is undone by the renaming back.
use Rattle.std.proofs.Common.{◌<◌, ◌≤◌, ◌≡◌, ◌⊎◌, inl, inr, ◌||◌, List, Bool, true, false, true≢false, length, Option}
use Rattle.std.proofs.Common.{Some, None, refl, ap, sym, subst, ◌∙◌, slice_get}
use Rattle.std.specs.Prelude.{IsTrue}
use Rattle.rotor_base.specs.Name.{is_value_name}
use Rattle.rotor_base.specs.declared.place.Place.{Place}
use Rattle.rotor_base.specs.declared.place.Goal.{Goal}
use Rattle.rotor_base.specs.declared.place.Goal.TheVariants.{Decl}
use Rattle.rotor_base.specs.declared.place.Ref.{Ref}
use Rattle.rotor_base.specs.declared.place.Link.{Link}
use Rattle.rotor_base.specs.declared.place.Facts.{Facts}
use Rattle.rotor_base.specs.declared.place.Foot.{Foot}
use Rattle.rotor_base.specs.declared.looks.Watch.{Watch}
use Rattle.rotor_base.specs.declared.refusal.Refusal.{Refusal}
use Rattle.rotor_base.specs.declared.refusal.Refusal.TheVariants as refusal
use Rattle.rotor_base.specs.declared.report.Renamed.{Renamed}
use Rattle.rotor_base.specs.declared.source.SourceFile.{SourceFile}
use Rattle.rotor_base.specs.declared.target.Target.TheVariants.{At}
use Rattle.rotor_base.specs.Files.{names_of, FileSet, are_over}
use Rattle.value_sites.specs.Places.{Site}
use Rattle.ml_syntax.specs.RespelledSource.{AreRespelled}
use Rattle.ml_trees.specs.Tree.{UnitTree}
use Rattle.shape_core.specs.Shape.{Name}
use Rattle.dependency_kernel.specs.Foot.{IsFoot}
use Rattle.dependency_kernel.specs.Foot as links
use Rattle.binding_model.specs.Back.{CanGoBack, back}
use Rattle.binding_model.specs.Facts.{facts, unmatched, unmatched_items, least}
use Rattle.binding_model.specs.Renaming.{renaming}
use Rattle.binding_model.specs.Renaming.{places, at_place, site_name, name_of, IsFixedSite, in_file}
use Rattle.capture_check.specs.Fault.{IsMet, IsLeastRepeat, IsFirstDiffering, of_ref, of_link, before}
use Rattle.project_reading.specs.Reads.{Reads}
use Rattle.project_reading.proofs.Cut.{all_cut}
use Rattle.respelled_reading.proofs.Back.{renamed_back_are_the_files}
use Rattle.renamed_sources.proofs.Limits.{nothing_is_over}
use Rattle.renamed_sources.proofs.Respelling.{sources_can_be_respelled}
use Rattle.renamed_sources.proofs.ValueNames.{names_are_value_names}
use Rattle.rename_model.specs.Bytes.{position_with}
use Rattle.rename_model.specs.Foot.{IsIn, IsHit, refs_to, hits}
use Rattle.rename_model.specs.Ladder.{no_more}
use Rattle.rename_model.specs.Project.{IsDuplicate, IsHeavy, IsUnmatched, refusals_of_project}
use Rattle.rename_model.specs.Renaming.{IsBlurredAt, IsGrown, IsClash, IsCapture, IsMislink, watch_of, renamed, renamed_words, refusals_of_binder}
use Rattle.rename_model.specs.Report.{hit_files}
use Rattle.rename_model.specs.Target.{number_of}
use Rattle.rename_parts.specs.Findings.{IsFree}
use Rattle.rename_parts.proofs.Rungs.{Rest}
use Rattle.rename_parts.proofs.Rungs as rungs
use Rattle.rename_files.specs.Answer.{Accepted}
use Rattle.rename_laws.specs.Laws.{RenamingsAreUndone, UndosHavePlaces}
use Rattle.rename_laws.proofs.Accepted.{renamable}
use Rattle.rename_laws.proofs.Free.{none_repeats, none_heavy, none_unmatched}
use Rattle.rename_laws.proofs.Hits.{leads, hit_cases, member_hit}
use Rattle.rename_laws.proofs.Kept as kept
use Rattle.rename_laws.proofs.Kept.{IsRenamable}
use Rattle.rename_laws.proofs.Ladder.{none_met}
use Rattle.rename_laws.proofs.Placed.{IsPlaced, placed, same_number}

-- ---- parts

either_true : (a b : Bool) → (a ≡ true) ⊎ (b ≡ true) → (a || b) ≡ true
either_true true b h = refl
either_true false b (inl e) = absurd (true≢false (sym e))
either_true false b (inr e) = e

pub fixed_at : (x : Site) (o : Option Site) → o ≡ Some x → (x.operator ≡ true) ⊎ (x.pun ≡ true) → IsFixedSite o
fixed_at x o e h = subst IsFixedSite (sym e) (either_true x.operator x.pun h)

not_true : (b : Bool) → ((b ≡ true) → ⊥) → b ≡ false
not_true true h = absurd (h refl)
not_true false h = refl

module _ {A : Type 0} (make : Place → Goal → A) (one : (p : Place) (g k : Goal) → make p g ≡ make p k → g ≡ k) (olds news : List A)
    (same : olds ≡ news) where
  pub none_differ : (p : Place) (g k : Goal) → IsFirstDiffering make olds news p g k → ⊥
  none_differ p g k h =
      let both : Some (make p g) ≡ Some (make p k) = sym h.differs.old_one ∙ (ap (λ l. slice_get l h.number) same ∙ h.differs.new_one) in
      let items : make p g ≡ make p k = cc in
      h.differs.differ (one p g k items)

pub ref_goal : (p : Place) (g k : Goal) → of_ref p g ≡ of_ref p k → g ≡ k
ref_goal p g k e = ap (λ (r : Ref). r.goal) e

pub link_goal : (p : Place) (g k : Goal) → of_link p g ≡ of_link p k → g ≡ k
link_goal p g k e = ap (λ (l : Link). l.source) e

module _ (files : FileSet) (us : List UnitTree) (d : Place) (foot : Foot) (new : Name) (h : IsRenamable files us d foot new) (out : FileSet)
    (sources : AreRespelled (in_file (renamed_words us (watch_of us d foot new))) 0 files.entries out.entries)
    (manifest : out.manifest ≡ files.manifest) where
  abbrev W : Watch
  W = watch_of us d foot new

  abbrev vs : List UnitTree
  vs = renamed us W

  abbrev old : Name
  old = name_of us d

  -- the watch of the renaming back
  abbrev B : Watch
  B = watch_of vs d foot old

  can : CanGoBack us vs W
  can = kept.can_go_back files us d foot new h out sources manifest

  same : facts vs ≡ facts us
  same = kept.same_facts files us d foot new h

  reads : Reads out vs
  reads = kept.still files us d foot new h out sources manifest

  inside : IsIn foot d
  inside = h.is.all d links.here

  name : name_of vs d ≡ new
  name = can.names d inside

  back_is : B ≡ back W
  back_is = ap (λ (x : Name). record { old = x; new = old; foot = foot }) name

  renamed_back : renamed vs B ≡ us
  renamed_back = ap (renamed vs) back_is ∙ kept.undone files us d foot new h out sources manifest

  -- ---- the sources of the renaming back

  undone_is : (news : List SourceFile) → AreRespelled (in_file (renamed_words vs B)) 0 out.entries news → news ≡ files.entries
  undone_is news s =
      let undone : FileSet = record { entries = news; manifest = out.manifest } in
      let words : AreRespelled (in_file (renamed_words vs (back W))) 0 out.entries news =
      subst (λ (w : Watch). AreRespelled (in_file (renamed_words vs w)) 0 out.entries news) back_is s in
      ap (λ (f : FileSet). f.entries)
      (renamed_back_are_the_files us (renaming W) (renaming (back W)) files out undone h.files_are h.reads (kept.gives files us d foot new h)
      (record { sources = sources; manifest = manifest })
      (record { sources = words; manifest = refl })
      (kept.undone files us d foot new h out sources manifest))

  sources_back : AreRespelled (in_file (renamed_words vs B)) 0 out.entries files.entries
  sources_back =
      let cut = all_cut 0 out.entries reads.trees reads.read in
      let made = sources_can_be_respelled (renamed_words vs B) 0 out.entries cut.0 cut.1 in
      subst (AreRespelled (in_file (renamed_words vs B)) 0 out.entries) (undone_is made.0 made.1) made.1

  -- ---- nothing is refused

  none_twice : IsMet (IsDuplicate vs) → ⊥
  none_twice (refusal.Duplicate first again, k) = kept.none_again files us d foot new h out sources manifest first again k
  none_twice (_, k) = k

  not_heavy : IsMet (IsHeavy vs) → ⊥
  not_heavy (refusal.Heavy at, k) = let wrong : None ≡ Some at = sym (can.heavy ∙ none_heavy us h.project) ∙ k in cc
  not_heavy (_, k) = k

  all_matched : IsMet (IsUnmatched vs) → ⊥
  all_matched (refusal.Unmatched at, k) =
      let none : unmatched vs ≡ None = ap (λ (f : Facts). least (unmatched_items f.links)) same ∙ none_unmatched us h.project in
      let wrong : None ≡ Some at = sym none ∙ k in cc
  all_matched (_, k) = k

  nothing_more : IsMet {R = Refusal} no_more → ⊥
  nothing_more m = m.1

  project_free : IsMet (refusals_of_project vs) → ⊥
  project_free = none_met (IsDuplicate vs) (before (IsHeavy vs) (before (IsUnmatched vs) no_more)) none_twice
      (none_met (IsHeavy vs) (before (IsUnmatched vs) no_more) not_heavy (none_met (IsUnmatched vs) no_more all_matched nothing_more))

  abbrev R : List Ref
  R = (facts vs).refs

  not_fixed : (p : Place) → IsHit vs foot p → IsFixedSite (at_place (places vs) p) → ⊥
  not_fixed p c k = elim (hit_cases vs foot p c) [
    | inl a ↦ (can.watched.free p a).word k
    | inr r ↦ (let l = leads foot r.0.goal r.3 in
        (can.watched.free l.0 l.2).uses r.0 r.1 l.1 (subst (λ q. IsFixedSite (at_place (places vs) q)) (sym r.2) k))
  ]

  free : IsFree us d foot new
  free = kept.free files us d foot new h

  operator : h.binder.0.operator ≡ false
  operator = not_true h.binder.0.operator (λ e. free.words d (member_hit us foot d inside) (h.binder.0, h.binder.1, e))

  pun : h.binder.0.pun ≡ false
  pun = not_true h.binder.0.pun (λ e. free.plain d (member_hit us foot d inside) (h.binder.0, h.binder.1, e))

  pub old_name : IsTrue (is_value_name old)
  old_name = subst (λ n. IsTrue (is_value_name n)) (sym (ap site_name h.binder.1))
      (names_are_value_names files us d h.binder.0 h.files_are h.reads h.binder.1 operator pun)

  pub own_place : IsPlaced files d
  own_place = placed files us d h.binder.0 h.files_are h.reads h.binder.1 operator pun

  pub own_number : number_of out.entries own_place.source.name ≡ Some d.file
  own_number = same_number files.entries out.entries own_place.source.name (kept.names files us d foot new h out sources manifest) ∙ own_place.number

  free_back : IsFree vs d foot old
  free_back = record {
    words = λ p c k. not_fixed p c (fixed_at k.0 (at_place (places vs) p) k.1 (inl k.2));
    valid = old_name;
    other = λ e. free.other (sym (e ∙ name));
    inside = free.inside;
    plain = λ p c k. not_fixed p c (fixed_at k.0 (at_place (places vs) p) k.1 (inr k.2));
    clear = subst (λ (f : Facts). (p : Place) → IsBlurredAt f foot p → ⊥) (sym same) free.clear;
  }

  not_grown : IsMet (IsGrown out.entries vs B) → ⊥
  not_grown (refusal.Grown file, k) =
      let none : position_with are_over k.0 ≡ None = ap (position_with are_over) (undone_is k.0 k.1)
      ∙ nothing_is_over files.entries files.manifest h.files_are.taken in
      let wrong : None ≡ Some file = sym none ∙ k.2 in cc
  not_grown (_, k) = k

  no_clash : IsMet (IsClash vs (renamed vs B)) → ⊥
  no_clash (refusal.Clash first again, k) =
      none_repeats us h.project first again (subst (λ (z : List UnitTree). IsLeastRepeat (name_of z) (facts z).groups first again) renamed_back k)
  no_clash (_, k) = k

  facts_back : facts vs ≡ facts (renamed vs B)
  facts_back = same ∙ ap facts (sym renamed_back)

  no_capture : IsMet (IsCapture vs (renamed vs B)) → ⊥
  no_capture (refusal.Capture at was would, k) = none_differ of_ref ref_goal (facts vs).refs (facts (renamed vs B)).refs
      (ap (λ (f : Facts). f.refs) facts_back) at was would k
  no_capture (_, k) = k

  no_mislink : IsMet (IsMislink vs (renamed vs B)) → ⊥
  no_mislink (refusal.Mislink (Decl item) was would, k) = none_differ of_link link_goal (facts vs).links (facts (renamed vs B)).links
      (ap (λ (f : Facts). f.links) facts_back) item was would k
  no_mislink (_, k) = k

  rest_free : IsMet (Rest vs d foot old out.entries) → ⊥
  rest_free = none_met (IsGrown out.entries vs B)
      (before (IsClash vs (renamed vs B)) (before (IsCapture vs (renamed vs B)) (before (IsMislink vs (renamed vs B)) no_more))) not_grown
      (none_met (IsClash vs (renamed vs B)) (before (IsCapture vs (renamed vs B)) (before (IsMislink vs (renamed vs B)) no_more)) no_clash
      (none_met (IsCapture vs (renamed vs B)) (before (IsMislink vs (renamed vs B)) no_more) no_capture
      (none_met (IsMislink vs (renamed vs B)) no_more no_mislink nothing_more)))

  binder_free : IsMet (refusals_of_binder out.entries vs d foot old) → ⊥
  binder_free m = rungs.none_met vs d foot old out.entries free_back rest_free m.0 m.1

  -- ---- so it is accepted

  foot_back : IsFoot (facts vs).links d foot
  foot_back = subst (λ (f : Facts). IsFoot f.links d foot) (sym same) h.is

  abbrev pub undoing : Renamed
  undoing = record {
    files = files;
    changed = hit_files (hits (facts vs).refs foot) 0 out.entries;
    old = name_of vs d;
    new = old;
    foot = foot;
    refs = length (refs_to foot (facts vs).refs);
    undo_at = d;
  }

  pub accepted_back : (source : Name) → number_of out.entries source ≡ Some d.file → Accepted out (At source d.token) old undoing
  accepted_back source e = record {
    project = vs;
    binder = d;
    foot = foot;
    accepts = record { reads = reads; none = project_free };
    aims = ((e, refl), can.binders d inside);
    is_foot = foot_back;
    none = binder_free;
    renaming = record {
      sources = sources_back;
      manifest = sym manifest;
      changed = refl;
      old_name = refl;
      new_name = refl;
      footprint = refl;
      references = refl;
      target = refl;
    };
  }

pub renamings_are_undone : RenamingsAreUndone
renamings_are_undone files target new done p a source e =
    let us = a.project in
    let d = a.binder in
    let h = renamable files target new done p a in
    let there : number_of done.files.entries source ≡ Some d.file = e ∙ ap (λ (q : Place). Some q.file) a.renaming.target in
    let accepted = accepted_back files us d a.foot new h done.files a.renaming.sources a.renaming.manifest source there in
    let back = undoing files us d a.foot new h done.files a.renaming.sources a.renaming.manifest in
    let at : Accepted done.files (At source done.undo_at.token) (name_of us d) back =
    subst (λ (q : Place). Accepted done.files (At source q.token) (name_of us d) back) (sym a.renaming.target) accepted in
    (back, subst (λ (old : Name). Accepted done.files (At source done.undo_at.token) old back) (sym a.renaming.old_name) at, refl)

pub undos_have_places : UndosHavePlaces
undos_have_places files target new done p a =
    let us = a.project in
    let d = a.binder in
    let h = renamable files target new done p a in
    let at = own_place files us d a.foot new h done.files a.renaming.sources a.renaming.manifest in
    let number = own_number files us d a.foot new h done.files a.renaming.sources a.renaming.manifest in
    let old = old_name files us d a.foot new h done.files a.renaming.sources a.renaming.manifest in
    let is = a.renaming.target in
    record {
      source = at.source.name;
      is_source = at.is_source;
      source_at = subst (λ (q : Place). slice_get (names_of files.entries) q.file ≡ Some at.source.name) (sym is) at.named;
      number = subst (λ (q : Place). number_of done.files.entries at.source.name ≡ Some q.file) (sym is) number;
      above = subst (λ (q : Place). 0 < q.token) (sym is) at.above;
      below = subst (λ (q : Place). q.token ≤ 1048576) (sym is) at.below;
      named = subst (λ (n : Name). IsTrue (is_value_name n)) (sym a.renaming.old_name) old;
    }
