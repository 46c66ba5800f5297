use Rattle.std.proofs.Common.{◌≡◌, List, ℕ, All, ◌<◌, length, subst, sym, ap, ◌∙◌}
use Rattle.rotor_base.specs.declared.source.SourceFile.{SourceFile}
use Rattle.project_load.specs.Rewritten.{files_at}
use Rattle.apply_journal.specs.Plan.{plan_text, IsPlan}
use Rattle.apply_journal.proofs.Picked.{plan_of_files}
use Rattle.apply_journal.proofs.plan.make_plan.Goals as goal

pub copy_files-requires : goal.copy_files-requires
copy_files-requires c = subst (λ (fs : List SourceFile). All (λ n. n < length fs) c.args.changed.now) (sym c.entries.ensures.entries) c.requires.known

pub invariant_of-result : goal.invariant_of-result
invariant_of-result c =
    let copied = c.in_ok-files.files.items in
    let found : copied ≡ files_at c.args.files.now.entries c.args.changed.now = c.in_ok-files.ensures
    ∙ ap (λ (fs : List SourceFile). files_at fs c.args.changed.now) c.entries.ensures.entries in
    let text : c.in_ok-text.text.items ≡ plan_text copied = c.in_ok-text.ensures ∙ ap plan_text c.deref.ensures.value in
    let plan : IsPlan (plan_text copied) copied =
    subst (λ (fs : List SourceFile). IsPlan (plan_text fs) fs) (sym found)
    (plan_of_files c.args.files.now c.args.changed.now c.entries.ensures.project c.requires.ordered c.requires.known) in
    subst (λ (bs : List ℕ). IsPlan bs copied) (sym text) plan
