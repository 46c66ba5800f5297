use Rattle.std.proofs.Common.{◌≡◌, List, [], ◌∷◌, ◌++◌, ap, subst, sym, ◌∙◌}
use Rattle.std.specs.Prelude.{IfNone}
use Rattle.rotor_base.specs.Stem.{is_source_name}
use Rattle.rotor_base.specs.declared.source.SourceFile.{SourceFile}
use Rattle.explain.specs.Sources.{IsNoProject}
use Rattle.explain.proofs.Answered.{if_ok_both}
use Rattle.explain.proofs.Saying.{is_refused}
use Rattle.explain.proofs.Single.{sources_of_one}
use Rattle.explain.proofs.sources.load_source_alone.Goals as goal

pub make_files-requires : goal.make_files-requires
make_files-requires c =
    sources_of_one c.new-entries.result.items c.push.new.self.items c.in_ok-copy_source.field-0 c.in_ok-push.ensures.items
    c.new-entries.ensures.items
    (ap is_source_name (ap (λ (f : SourceFile). f.name) c.in_ok-copy_source.ensures ∙ sym (c.as_bytes.ensures.value ∙ c.as_str.ensures))
    ∙ sym c.is_source.ensures ∙ c.if-not-is_source.false)

pub returns-in-Err-clause-none : goal.returns-in-Err-clause-none
returns-in-Err-clause-none c =
    let alone : c.push.new.self.items ≡ c.args.source.now ∷ [] =
    c.in_ok-push.ensures.items ∙ ap (λ (xs : List SourceFile). xs ++ c.in_ok-copy_source.field-0 ∷ []) c.new-entries.ensures.items
    ∙ ap (λ (f : SourceFile). f ∷ []) c.in_ok-copy_source.ensures in
    if_ok_both c.no_project.result _ _ (λ m found e.
    subst (λ f. IfNone f (IsNoProject c.args.source.now)) (sym e)
    (is_refused c.args.source.now c.push.new.self.items c.in-Err.error alone c.in-Err.ensures.refused m)) c.no_project.ensures.memory
    c.no_project.ensures.none
