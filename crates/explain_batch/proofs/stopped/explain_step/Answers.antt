use Rattle.std.proofs.Common.{List, ◌≤◌, All, length, subst, sym}
use Rattle.rotor_base.specs.Limits.{max_file_bytes}
use Rattle.refusal_words.specs.declared.cut.CutSource.{CutSource}
use Rattle.explain.proofs.Cutting.{few_tokens}
use Rattle.explain_batch.proofs.Stepping.{said_renaming, said_unread}
use Rattle.explain_batch.proofs.stopped.explain_step.Goals as goal

pub placed_message-requires : goal.placed_message-requires
placed_message-requires c =
    subst (λ (cs : List CutSource). All (λ cut. length cut.tokens.items ≤ max_file_bytes) cs) (sym c.deref.ensures.value)
    (few_tokens c.entries.result.now c.in_ok-cuts.cuts.items c.in_ok-cuts.ensures c.entries.ensures.small)

pub returns-in-Some : goal.returns-in-Some
returns-in-Some c =
    said_unread c.args.files.now c.args.step.now c.args.number c.args.why.now c.entries.result.now c.in_ok-cuts.cuts.items c.deref.result.now
    c.in_ok-message.field-0 c.in-Some.message c.explain_unread_folder.result c.entries.ensures.entries c.in_ok-cuts.ensures c.deref.ensures.value
    c.in_ok-message.ensures c.in-Some.is c.explain_unread_folder.ensures

pub returns : goal.returns
returns c =
    said_renaming c.args.files.now c.args.step.now c.args.number c.args.why.now c.entries.result.now c.in_ok-cuts.cuts.items c.deref.result.now
    c.in_ok-message.field-0 c.as_bytes.result.now c.in_ok-said-in-None.said c.in_steps.result c.entries.ensures.entries c.in_ok-cuts.ensures
    c.deref.ensures.value c.in_ok-message.ensures c.in-None.is c.as_bytes.ensures c.in_ok-said-in-None.ensures c.in_steps.ensures
