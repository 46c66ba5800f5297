-- A renaming to one name and then to a second is the renaming to the second.
use Rattle.std.proofs.Common.{◌≡◌, zero, suc, List, [], ◌∷◌, Bool, true, false, Option, Some, None, map, length, Contains, refl, ap, sym}
use Rattle.std.proofs.Common.{subst, ◌∙◌, arith}
use Rattle.std.specs.Prelude.{IsTrue}
use Rattle.std.specs.List.{list_any}
use Rattle.rotor_base.specs.Files.{FileSet, IsProject, are_over}
use Rattle.rotor_base.specs.Name.{is_value_name}
use Rattle.rotor_base.specs.Place.{same_place}
use Rattle.rotor_base.specs.declared.looks.Watch.{Watch}
use Rattle.rotor_base.specs.declared.place.Facts.{Facts}
use Rattle.rotor_base.specs.declared.place.Foot.{Foot}
use Rattle.rotor_base.specs.declared.place.Goal.{Goal}
use Rattle.rotor_base.specs.declared.place.Goal.TheVariants.{Decl, Outside, Missing, Hidden, Blur}
use Rattle.rotor_base.specs.declared.place.Place.{Place}
use Rattle.rotor_base.specs.declared.refusal.Refusal.TheVariants as refusal
use Rattle.rotor_base.specs.declared.report.Renamed.{Renamed}
use Rattle.rotor_base.specs.declared.source.SourceFile.{SourceFile}
use Rattle.ml_syntax.specs.RespelledSource.{AreRespelled}
use Rattle.value_sites.specs.Sound.{IsSound}
use Rattle.ml_trees.specs.Tree.{UnitTree}
use Rattle.shape_core.specs.Respell.{Words}
use Rattle.shape_core.specs.Shape.{Name, or_value, some_if}
use Rattle.dependency_kernel.specs.Foot.{IsFoot}
use Rattle.dependency_kernel.proofs.Only.{is_the_only}
use Rattle.binding_model.specs.Facts.{facts, facts_of}
use Rattle.binding_model.specs.Renaming.{IsBinder}
use Rattle.binding_model.specs.Renaming.{renaming}
use Rattle.binding_model.specs.Renaming.{Renaming, at_place, goal_at, in_file, name_of, new_word, words_of, respell, Changes, IsFree, IsValid}
use Rattle.binding_model.specs.Steps.{spell_steps}
use Rattle.binding_model.specs.Walk.{steps}
use Rattle.binding_model.proofs.Leasts.{keeps}
use Rattle.binding_model.proofs.Projects.{steps_stay}
use Rattle.binding_model.proofs.Standing.{given, member_in}
use Rattle.capture_check.specs.Fault.{IsMet}
use Rattle.project_reading.specs.Reads.{Reads}
use Rattle.project_reading.specs.Respelled.{respelled_lists}
use Rattle.project_reading.proofs.Cut.{all_cut}
use Rattle.project_reading.proofs.OneReading.{one_project}
use Rattle.respelled_reading.proofs.Renamed.{renamed_files_are_cut}
use Rattle.rename_model.specs.Bytes.{position_with}
use Rattle.rename_model.specs.Foot.{IsIn, refs_to, hits}
use Rattle.rename_model.specs.Renaming.{IsGrown, watch_of, renamed, renamed_words}
use Rattle.rename_model.specs.Report.{IsRenaming, hit_files}
use Rattle.rename_model.specs.Target.{Aims}
use Rattle.rename_model.proofs.One.{one_sources, targets_have_one_goal}
use Rattle.rename_files.specs.Answer.{Accepts}
use Rattle.renamed_sources.proofs.Respelling.{sources_can_be_respelled}
use Rattle.rename_laws.proofs.Accepted.{renamable}
use Rattle.rename_laws.proofs.Kept as kept
use Rattle.rename_laws.proofs.Kept.{IsRenamable}
use Rattle.rename_laws.proofs.Undone.{accepted_back, own_number, own_place}
use Rattle.facts_laws.proofs.Feet.{of_member}
use Rattle.valid_renamings.proofs.Kept.{binder_new, fixed, free_new, good_by_steps}
use Rattle.valid_renamings.proofs.Words.{steps_twice}
use Rattle.accepted_renamings.specs.Laws.{CanTakeName, OnceIsTwice, TwiceIsOnce}
use Rattle.accepted_renamings.proofs.Exactly.{accepted_so}
use Rattle.accepted_renamings.proofs.Sources.{sources_twice}

-- the later name alone is kept
later_name : (b : Bool) (first second x : Name) → or_value (some_if b second) x ≡ or_value (some_if b second) (or_value (some_if b first) x)
later_name true first second x = refl
later_name false first second x = refl

mapped_contains : (z : Name) (ps : List Place) (e : Place) (y : Name) → Contains {X = Place × Name} (map (λ p. (p, z)) ps) (e, y)
    → Contains ps e
mapped_contains z [] e y k = absurd (omega (arith, k.1))
mapped_contains z (p ∷ ps) e y (zero, l, q) = (zero, omega arith, ap (λ (i : Place × Name). i.0) q)
mapped_contains z (p ∷ ps) e y (suc k, l, q) = let h = mapped_contains z ps e y (k, omega (arith, l), q) in (suc h.0, omega (arith, h.1), h.2)

-- new sources that are within the limits are not Grown
no_growth : (olds : List SourceFile) (us : List UnitTree) (w : Watch) (news : List SourceFile)
    → AreRespelled (in_file (renamed_words us w)) 0 olds news → position_with are_over news ≡ None → IsMet (IsGrown olds us w) → ⊥
no_growth olds us w news i none (refusal.Grown file, k) =
    let same = one_sources (renamed_words us w) 0 olds k.0 news k.1 i in
    let wrong : None ≡ Some file = sym none ∙ (ap (position_with are_over) (sym same) ∙ k.2) in
    cc
no_growth olds us w news i none (_, k) = k

module _ (files : FileSet) (us : List UnitTree) (d : Place) (foot : Foot) (first second : Name) (h : IsRenamable files us d foot first)
    (out : FileSet) (sources : AreRespelled (in_file (renamed_words us (watch_of us d foot first))) 0 files.entries out.entries)
    (manifest : out.manifest ≡ files.manifest) where
  abbrev vs : List UnitTree
  vs = renamed us (watch_of us d foot first)

  abbrev r : Renaming
  r = renaming (watch_of us d foot first)

  abbrev s : Renaming
  s = renaming (watch_of us d foot second)

  abbrev w : Words
  w = words_of r (facts us).refs

  abbrev u : Words
  u = words_of s (facts vs).refs

  abbrev c : Words
  c = words_of s (facts us).refs

  valid : IsValid us r
  valid = kept.valid files us d foot first h out sources manifest

  same_facts : facts vs ≡ facts us
  same_facts = kept.same_facts files us d foot first h

  sound : IsSound us
  sound = kept.sound files us d foot first h

  out_is : IsProject out
  out_is = kept.out_is files us d foot first h out sources manifest

  still : Reads out vs
  still = kept.still files us d foot first h out sources manifest

  sound_too : IsSound vs
  sound_too = kept.sound_again files us d foot first h out sources manifest

  -- ---- the words

  value_passes : (p : Place) (x : Name) → or_value (at_place s p) x ≡ or_value (at_place s p) (or_value (at_place r p) x)
  value_passes p x =
      let b = list_any (same_place p) foot.decls in
      ap (λ o. or_value o x) (given second foot.decls p)
      ∙ later_name b first second x
      ∙ ap (λ o. or_value (some_if b second) (or_value o x)) (sym (given first foot.decls p))
      ∙ ap (λ o. or_value o (or_value (at_place r p) x)) (sym (given second foot.decls p))

  word_passes : (o : Option Goal) (at : Place) (x : Name) → new_word s o at x ≡ new_word s o at (new_word r o at x)
  word_passes None at x = value_passes at x
  word_passes (Some (Decl e)) at x = value_passes e x
  word_passes (Some Outside) at x = refl
  word_passes (Some Missing) at x = refl
  word_passes (Some Hidden) at x = refl
  word_passes (Some (Blur by n o)) at x = refl

  words_pass : (at : Place) (x : Name) → c at x ≡ u at (w at x)
  words_pass at x =
      word_passes (goal_at (facts us).refs at) at x
      ∙ ap (λ (f : Facts). new_word s (goal_at f.refs at) at (w at x)) (sym same_facts)

  -- ---- the steps

  member_of : (e : Place) (y : Name) → at_place s e ≡ Some y → IsIn foot e × (y ≡ second)
  member_of e y k = by (list_any (same_place e) foot.decls) refl (sym (given second foot.decls e) ∙ k) where
    by : (b : Bool) → list_any (same_place e) foot.decls ≡ b → some_if b second ≡ Some y → IsIn foot e × (y ≡ second)
    by true i f = let name : second ≡ y = cc in (member_in e foot.decls i, sym name)
    by false i f = let wrong : None ≡ Some y = f in absurd cc

  free_old : (e : Place) (y : Name) → Changes us s e y → IsFree us e
  free_old e y k = (kept.both files us d foot first h).0.free e (member_of e y k.0).0

  free_then : (e : Place) (y : Name) → Changes vs s e y → IsFree vs e
  free_then e y k = free_new us r sound valid e ((kept.both files us d foot first h).0.free e (member_of e y k.0).0)

  pub same_steps : steps (respell us s) ≡ steps (respell vs s)
  same_steps =
      steps_stay us c (keeps us s sound free_old)
      ∙ steps_twice c u w words_pass (steps us)
      ∙ ap (spell_steps u) (sym (steps_stay us w (fixed us r sound valid)))
      ∙ sym (steps_stay vs u (keeps vs s sound_too free_then))

  -- ---- valid before and after

  binder_of : (e : Place) → IsIn foot e → IsBinder us e
  binder_of = (kept.both files us d foot first h).1

  entry_of : (e : Place) (y : Name) → Contains s (e, y) → IsIn foot e
  entry_of e y k = mapped_contains second foot.decls e y k

  pub valid_before : IsTrue (is_value_name second) → IsValid vs s → IsValid us s
  valid_before name too = record {
    binders = λ e y k. binder_of e (entry_of e y k);
    free = free_old;
    names = λ e y k. subst (λ n. IsTrue (is_value_name n)) (sym (member_of e y k.0).1) name;
    good = good_by_steps (respell vs s) (respell us s) (sym same_steps) too.good;
    same = ap facts_of same_steps ∙ (too.same ∙ same_facts);
  }

  pub valid_after : IsTrue (is_value_name second) → IsValid us s → IsValid vs s
  valid_after name too = record {
    binders = λ e y k. binder_new us r sound valid e (binder_of e (entry_of e y k));
    free = free_then;
    names = λ e y k. subst (λ n. IsTrue (is_value_name n)) (sym (member_of e y k.0).1) name;
    good = good_by_steps (respell us s) (respell vs s) same_steps too.good;
    same = ap facts_of (sym same_steps) ∙ (too.same ∙ sym same_facts);
  }

  -- ---- the sources

  pub straight : (news : List SourceFile) → AreRespelled (in_file u) 0 out.entries news → AreRespelled (in_file c) 0 files.entries news
  straight news i =
      let cut = all_cut 0 files.entries h.reads.trees h.reads.read in
      sources_twice (in_file c) (in_file u) (in_file w) (λ file at x. words_pass (record { file = file; token = at }) x) 0 files.entries out.entries
      news cut.0 cut.1
      (renamed_files_are_cut us r files out cut.0 h.files_are h.reads (kept.gives files us d foot first h)
      (record { sources = sources; manifest = manifest }) cut.1)
      sources i

  -- the footprint of a member in the renamed project
  foot_then : (e : Place) → IsIn foot e → IsFoot (facts vs).links e foot
  foot_then e k = subst (λ (f : Facts). IsFoot f.links e foot) (sym same_facts) (of_member (facts us).links d e foot h.is k)

  pub accepts_then : Accepts out vs
  accepts_then =
      let own = own_place files us d foot first h out sources manifest in
      let number = own_number files us d foot first h out sources manifest in
      let its = accepted_back files us d foot first h out sources manifest own.source.name number in
      subst (Accepts out) (one_project out its.project vs its.accepts.reads still) its.accepts

  -- the sources of the second renaming, if those of the one from the old name are these
  pub detour : (news : List SourceFile) → AreRespelled (in_file c) 0 files.entries news → AreRespelled (in_file u) 0 out.entries news
  detour news i =
      let cut = all_cut 0 files.entries h.reads.trees h.reads.read in
      let cut_then = renamed_files_are_cut us r files out cut.0 h.files_are h.reads (kept.gives files us d foot first h)
      (record { sources = sources; manifest = manifest }) cut.1 in
      let made = sources_can_be_respelled u 0 out.entries (respelled_lists (in_file w) 0 cut.0) cut_then in
      subst (AreRespelled (in_file u) 0 out.entries) (one_sources c 0 files.entries made.0 news (straight made.0 made.1) i) made.1

  -- what a renaming of a member gives, with the files
  abbrev pub done_in : List UnitTree → Place → List SourceFile → FileSet → Renamed
  done_in ws e entries gives = record {
    files = gives;
    changed = hit_files (hits (facts ws).refs foot) 0 entries;
    old = name_of ws e;
    new = second;
    foot = foot;
    refs = length (refs_to foot (facts ws).refs);
    undo_at = e;
  }

-- ---- the laws

pub twice_is_once : TwiceIsOnce
twice_is_once files target other first second one two p a b k n =
    let us = a.project in
    let d = a.binder in
    let foot = a.foot in
    let h = renamable files target first one p a in
    let out = one.files in
    let S = a.renaming.sources in
    let M = a.renaming.manifest in
    let vs = renamed us (watch_of us d foot first) in
    let q = out_is files us d foot first second h out S M in
    let project : b.project ≡ vs = one_project out b.project vs b.accepts.reads (still files us d foot first second h out S M) in
    let inside : IsIn foot b.binder =
    subst (λ (f : Foot). Contains f.decls b.binder) a.renaming.footprint (subst (λ e. Contains one.foot.decls e) b.renaming.target k) in
    let feet : b.foot ≡ foot =
    is_the_only (facts vs).links b.binder b.foot foot (subst (λ ws. IsFoot (facts ws).links b.binder b.foot) project b.is_foot)
    (foot_then files us d foot first second h out S M b.binder inside) in
    let hb = renamable out other second two q b in
    let name = (kept.free out b.project b.binder b.foot second hb).valid in
    let too : IsValid vs (renaming (watch_of us d foot second)) =
    subst (λ (f : Foot). IsValid vs (renaming (watch_of vs b.binder f second))) feet
    (subst (λ ws. IsValid ws (renaming (watch_of ws b.binder b.foot second))) project
    (kept.valid out b.project b.binder b.foot second hb two.files b.renaming.sources b.renaming.manifest)) in
    let news : AreRespelled (in_file (u files us d foot first second h out S M)) 0 out.entries two.files.entries =
    subst (λ (f : Foot). AreRespelled (in_file (renamed_words vs (watch_of vs b.binder f second))) 0 out.entries two.files.entries) feet
    (subst (λ ws. AreRespelled (in_file (renamed_words ws (watch_of ws b.binder b.foot second))) 0 out.entries two.files.entries) project
    b.renaming.sources) in
    let direct : AreRespelled (in_file (renamed_words us (watch_of us d foot second))) 0 files.entries two.files.entries =
    straight files us d foot first second h out S M two.files.entries news in
    let small = kept.small out b.project b.binder b.foot second hb two.files b.renaming.sources b.renaming.manifest in
    let can : CanTakeName files us d foot second = record {
      other = λ e. n (e ∙ sym a.renaming.old_name);
      valid = valid_before files us d foot first second h out S M name too;
      small = no_growth files.entries us (watch_of us d foot second) two.files.entries direct small;
    } in
    let done = done_in files us d foot first second h out S M us d files.entries two.files in
    let is_done : IsRenaming files us d foot second done = record {
      sources = direct;
      manifest = b.renaming.manifest ∙ M;
      changed = refl;
      old_name = refl;
      new_name = refl;
      footprint = refl;
      references = refl;
      target = refl;
    } in
    (done, accepted_so files us target d foot second done p a.accepts a.aims a.is_foot can is_done, refl)

pub once_is_twice : OnceIsTwice
once_is_twice files ws target other first second one once member p a b n reads aims k =
    let us = a.project in
    let d = a.binder in
    let foot = a.foot in
    let h = renamable files target first one p a in
    let out = one.files in
    let S = a.renaming.sources in
    let M = a.renaming.manifest in
    let vs = renamed us (watch_of us d foot first) in
    let q = out_is files us d foot first second h out S M in
    let inside : IsIn foot member = subst (λ (f : Foot). Contains f.decls member) a.renaming.footprint k in
    let there : Aims out vs other member =
    subst (λ xs. Aims out xs other member) (one_project out ws vs reads (still files us d foot first second h out S M)) aims in
    let project : b.project ≡ us = one_project files b.project us b.accepts.reads a.accepts.reads in
    let binder : b.binder ≡ d =
    targets_have_one_goal files us target b.binder d (subst (λ xs. Aims files xs target b.binder) project b.aims) a.aims in
    let feet : b.foot ≡ foot =
    is_the_only (facts us).links d b.foot foot
    (subst (λ e. IsFoot (facts us).links e b.foot) binder (subst (λ xs. IsFoot (facts xs).links b.binder b.foot) project b.is_foot)) a.is_foot in
    let hb = renamable files target second once p b in
    let name = (kept.free files b.project b.binder b.foot second hb).valid in
    let valid_b : IsValid us (renaming (watch_of us d foot second)) =
    subst (λ (f : Foot). IsValid us (renaming (watch_of us d f second))) feet
    (subst (λ xs. IsValid xs (renaming (watch_of xs b.binder b.foot second))) project
    (kept.valid files b.project b.binder b.foot second hb once.files b.renaming.sources b.renaming.manifest)) in
    let direct : AreRespelled (in_file (renamed_words us (watch_of us d foot second))) 0 files.entries once.files.entries =
    subst (λ (f : Foot). AreRespelled (in_file (renamed_words us (watch_of us d f second))) 0 files.entries once.files.entries) feet
    (subst (λ xs. AreRespelled (in_file (renamed_words xs (watch_of xs b.binder b.foot second))) 0 files.entries once.files.entries) project
    b.renaming.sources) in
    let news : AreRespelled (in_file (renamed_words vs (watch_of vs member foot second))) 0 out.entries once.files.entries =
    detour files us d foot first second h out S M once.files.entries direct in
    let small = kept.small files b.project b.binder b.foot second hb once.files b.renaming.sources b.renaming.manifest in
    let named = (kept.can_go_back files us d foot first h out S M).names member inside in
    let can : CanTakeName out vs member foot second = record {
      other = λ e. n (sym (e ∙ named));
      valid = valid_after files us d foot first second h out S M name valid_b;
      small = no_growth out.entries vs (watch_of vs member foot second) once.files.entries news small;
    } in
    let done = done_in files us d foot first second h out S M vs member out.entries once.files in
    let is_done : IsRenaming out vs member foot second done = record {
      sources = news;
      manifest = b.renaming.manifest ∙ sym M;
      changed = refl;
      old_name = refl;
      new_name = refl;
      footprint = refl;
      references = refl;
      target = refl;
    } in (
      done,
      accepted_so out vs other member foot second done q (accepts_then files us d foot first second h out S M) there
          (foot_then files us d foot first second h out S M member inside) can is_done,
      refl,
    )
