use Rattle.std.proofs.Common.{[], Some, sym, ap, ◌∙◌}
use Rattle.lsp_frames.specs.Lines.{lines_of}
use Rattle.lsp_frames.proofs.Lengths.{known, finish, bad_line, other_line, no_second, one_found}
use Rattle.lsp_frames.proofs.header.content_length.Goals as goal

pub returns-in_err-name : goal.returns-in_err-name
returns-in_err-name c =
    c.from_residual.ensures
    ∙ sym (sym c.loop-line.invariant ∙ ap (finish (known c.loop-line.found)) c.in-Some.ensures.line ∙ bad_line _ _ _ (sym c.in_err-name.ensures))

pub returns-then-is_some : goal.returns-then-is_some
returns-then-is_some c =
    sym (sym c.loop-line.invariant
    ∙ ap (finish (known c.loop-line.found)) c.in-Some.ensures.line
    ∙ no_second c.loop-line.found _ _ _ c.if-is_some.ensures c.in_ok-name.ensures c.if-is_length_name.ensures)

pub loop-line-preserved-else-is_some : goal.loop-line-preserved-else-is_some
loop-line-preserved-else-is_some c =
    sym (ap (finish (known c.loop-line.found)) c.in-Some.ensures.line
    ∙ one_found c.loop-line.found _ _ c.in_ok-name.name c.in_ok-name.value c.if-is_some.ensures c.in_ok-name.ensures c.if-is_length_name.ensures)
    ∙ c.loop-line.invariant

pub loop-line-preserved : goal.loop-line-preserved
loop-line-preserved c =
    sym (ap (finish (known c.loop-line.found)) c.in-Some.ensures.line
    ∙ other_line _ _ _ _ (sym c.in_ok-name.ensures) (sym c.if-is_length_name.ensures))
    ∙ c.loop-line.invariant

pub returns-in_err-found : goal.returns-in_err-found
returns-in_err-found c =
    c.from_residual-in_err-found.ensures
    ∙ sym (sym c.loop-line.invariant
    ∙ ap (λ f. finish (known f) (lines_of c.loop-line.rest.now)) c.in_err-found.was
    ∙ ap (finish []) c.in_default.ensures.none)

pub returns : goal.returns
returns c =
    c.number_of.ensures
    ∙ sym (sym c.loop-line.invariant
    ∙ ap (λ f. finish (known f) (lines_of c.loop-line.rest.now)) c.in_ok-found.was
    ∙ ap (finish (known (Some c.in_ok-found.field-0))) c.in_default.ensures.none)
