use Rattle.std.proofs.Common.{rules, sym, ◌∙◌}
use Rattle.std.proofs.lemmas.List.{take_rest}
use Rattle.lsp_frames.proofs.Lengths.{next_line, no_line}
use Rattle.lsp_frames.proofs.header.cut_line.Goals as goal

pub returns-in_err-end : goal.returns-in_err-end
returns-in_err-end c =
    let none = no_line c.args.bytes.now (sym c.in_err-end.ensures.at) in
    search rules

pub returns-clause-line : goal.returns-clause-line
returns-clause-line c = next_line c.args.bytes.now c.in_ok-end.end c.in_ok-end.ensures.at ∙ simp take_rest
