use Rattle.std.proofs.Common.{◌≡◌, ℕ, inr, refl, ap, sym, subst, ◌∙◌, List, length, Err}
use Rattle.rotor_base.specs.declared.place.Facts.{Facts}
use Rattle.rotor_base.specs.declared.place.Foot.{Foot}
use Rattle.rotor_base.specs.declared.place.Place.{Place}
use Rattle.rotor_base.specs.declared.place.Ref.{Ref}
use Rattle.rotor_base.specs.declared.looks.Watch.{Watch}
use Rattle.rotor_base.specs.declared.refusal.Refusal.TheVariants as refusal
use Rattle.rotor_base.specs.declared.source.SourceFile.{SourceFile}
use Rattle.rotor_base.specs.Files.{FileSet}
use Rattle.ml_syntax.specs.RespelledSource.{AreRespelled}
use Rattle.ml_trees.specs.View.{view_project}
use Rattle.dependency_kernel.specs.Foot.{IsFoot}
use Rattle.binding_model.specs.Facts.{facts}
use Rattle.binding_model.specs.Renaming.{in_file}
use Rattle.rename_model.specs.Foot.{refs_to, hits}
use Rattle.rename_model.specs.Report.{hit_files}
use Rattle.rename_model.specs.Renaming.{watch_of, renamed_words, refusals_of_binder}
use Rattle.shape_core.specs.Places.{HasPlaces}
use Rattle.rename_files.specs.Answer.{Renames}
use Rattle.rename_project.specs.Steps.{IsRefusedFor, IsFreeOf}
use Rattle.rename_project.proofs.Aimed.{mark_name}
use Rattle.rename_files.proofs.Judging.{names_kept, small_enough}
use Rattle.rename_project.proofs.Refusals.{stopped}
use Rattle.rename_files.proofs.Renaming.{no_target_renamed, judged_renamed}
use Rattle.rename_files.proofs.calls.rename_placed.Goals as goal

pub returns-in_err-aim-clause-refused : goal.returns-in_err-aim-clause-refused
returns-in_err-aim-clause-refused c =
    let files = c.args.files.now in
    let e = c.in_err-aim.field-0.0 in
    stopped c.from_residual.result e (IsRefusedFor (λ why. Renames files c.args.target.now c.args.name.now (Err why)))
    c.from_residual.ensures
    (no_target_renamed files (view_project c.args.read.now.project) c.args.target.now c.args.name.now e c.requires.reads
    c.requires.passed c.in_err-aim.ensures.refused)

pub returns-in_err-foot-clause-refused : goal.returns-in_err-foot-clause-refused
returns-in_err-foot-clause-refused c =
    stopped c.from_residual-in_err-foot.result refusal.Memory
    (IsRefusedFor (λ why. Renames c.args.files.now c.args.target.now c.args.name.now (Err why))) c.from_residual-in_err-foot.ensures (inr refl)

pub returns-in_err-members-clause-refused : goal.returns-in_err-members-clause-refused
returns-in_err-members-clause-refused c =
    stopped c.from_residual-in_err-members.result refusal.Memory
    (IsRefusedFor (λ why. Renames c.args.files.now c.args.target.now c.args.name.now (Err why))) c.from_residual-in_err-members.ensures (inr refl)

pub returns-in_err-new-clause-refused : goal.returns-in_err-new-clause-refused
returns-in_err-new-clause-refused c =
    stopped c.from_residual-in_err-new.result refusal.Memory
    (IsRefusedFor (λ why. Renames c.args.files.now c.args.target.now c.args.name.now (Err why))) c.from_residual-in_err-new.ensures (inr refl)

pub judge-requires-clause-foot : goal.judge-requires-clause-foot
judge-requires-clause-foot c = subst (λ (f : Facts). IsFoot f.links c.in_ok-aim.aim.place c.in_ok-foot.foot) c.requires.facts
    c.in_ok-foot.ensures.foot

pub returns-in_err-judged-clause-refused : goal.returns-in_err-judged-clause-refused
returns-in_err-judged-clause-refused c =
    let files = c.args.files.now in
    let us = view_project c.args.read.now.project in
    let d = c.in_ok-aim.aim.place in
    let foot = c.in_ok-foot.foot in
    let e = c.in_err-judged.field-0.0 in
    let is : IsFoot (facts us).links d foot = subst (λ (f : Facts). IsFoot f.links d foot) c.requires.facts c.in_ok-foot.ensures.foot in
    stopped c.from_residual-in_err-judged.result e (IsRefusedFor (λ why. Renames files c.args.target.now c.args.name.now (Err why)))
    c.from_residual-in_err-judged.ensures
    (judged_renamed files us c.args.target.now c.args.name.now d foot e c.requires.reads c.requires.passed
    c.in_ok-aim.ensures.aims is
    (subst (λ (n : List ℕ). IsRefusedFor (refusals_of_binder files.entries us d foot n) e) c.in_ok-new.ensures c.in_err-judged.ensures.refused))

pub returns-in_err-changed-clause-refused : goal.returns-in_err-changed-clause-refused
returns-in_err-changed-clause-refused c =
    stopped c.from_residual-in_err-changed.result refusal.Memory
    (IsRefusedFor (λ why. Renames c.args.files.now c.args.target.now c.args.name.now (Err why))) c.from_residual-in_err-changed.ensures (inr refl)

pub remake-requires-clause-named : goal.remake-requires-clause-named
remake-requires-clause-named c = names_kept _ 0 c.args.files.now.entries c.in_ok-judged.judged.sources.items c.in_ok-judged.ensures.sources

pub remake-requires-clause-small : goal.remake-requires-clause-small
remake-requires-clause-small c = small_enough c.in_ok-judged.judged.sources.items c.in_ok-judged.ensures.small

pub returns-in_err-files-clause-refused : goal.returns-in_err-files-clause-refused
returns-in_err-files-clause-refused c =
    stopped c.from_residual-in_err-files.result refusal.Memory
    (IsRefusedFor (λ why. Renames c.args.files.now c.args.target.now c.args.name.now (Err why))) c.from_residual-in_err-files.ensures (inr refl)

same_watch : (a b : List ℕ) (m n : List ℕ) (foot : Foot) → a ≡ b → m ≡ n → let x : Watch = record { old = a; new = m; foot = foot } in let y : Watch =
    record { old = b; new = n; foot = foot } in x ≡ y
same_watch a b m n foot e f = cc

pub returns-clause-done : goal.returns-clause-done
returns-clause-done c =
    let files = c.args.files.now in
    let us = view_project c.args.read.now.project in
    let d = c.in_ok-aim.aim.place in
    let foot = c.in_ok-foot.foot in
    let new = c.args.name.now in
    let fs = c.requires.facts in
    let is : IsFoot (facts us).links d foot = subst (λ (f : Facts). IsFoot f.links d foot) fs c.in_ok-foot.ensures.foot in
    let old = mark_name us d c.in_ok-aim.aim.mark c.in_ok-aim.ensures.mark in
    let watch = same_watch c.in_ok-aim.aim.mark.name _ c.in_ok-new.new new foot old c.in_ok-new.ensures in
    let members : HasPlaces foot.decls c.in_ok-members.members =
    subst (λ (ps : List Place). HasPlaces ps c.in_ok-members.members) c.as_slice.ensures c.in_ok-members.ensures in
    let refs : c.as_slice-2.result.now ≡ (facts us).refs = c.as_slice-2.ensures ∙ ap (λ (f : Facts). f.refs) fs in
    let sources : AreRespelled (in_file (renamed_words us (watch_of us d foot new))) 0 files.entries c.in_ok-judged.judged.sources.items =
    subst (λ (w : Watch). AreRespelled (in_file (renamed_words us w)) 0 files.entries c.in_ok-judged.judged.sources.items) watch
    c.in_ok-judged.ensures.sources in
    record {
      project = us;
      binder = d;
      foot = foot;
      accepts = record { reads = c.requires.reads; none = c.requires.passed };
      aims = c.in_ok-aim.ensures.aims;
      is_foot = is;
      none = subst (λ (n : List ℕ). IsFreeOf (refusals_of_binder files.entries us d foot n)) c.in_ok-new.ensures c.in_ok-judged.ensures.passed;
      renaming = record {
        sources = subst (AreRespelled (in_file (renamed_words us (watch_of us d foot new))) 0 files.entries)
            (sym (ap (λ (f : FileSet). f.entries) c.in_ok-files.ensures)) sources;
        manifest = ap (λ (f : FileSet). f.manifest) c.in_ok-files.ensures;
        changed =
            c.from_vec.ensures
            ∙ (c.in_ok-changed.ensures
            ∙ (ap (λ (ps : List Place). hit_files ps 0 c.entries.result.now) (c.deref.ensures.value ∙ c.in_ok-judged.ensures.places)
            ∙ ap (λ (l : List SourceFile). hit_files (hits (facts us).refs foot) 0 l) c.entries.ensures.entries));
        old_name = old;
        new_name = c.in_ok-new.ensures;
        footprint = refl;
        references = c.count_refs-refs.ensures foot members ∙ ap (λ (rs : List Ref). length (refs_to foot rs)) refs;
        target = refl;
      };
    }
