use Rattle.std.proofs.Common.{◌++◌, ap, ◌∙◌}
use Rattle.source_diff.proofs.Texts.{hunk_done}
use Rattle.source_diff.proofs.hunks.push_hunk.Goals as goal

pub returns : goal.returns
returns c =
    hunk_done c.args.text.now.items _ _ _ c.args.from c.old_count.result c.new_count.result c.args.pairs.now c.in_ok-head.ensures
    c.old_count.ensures.count
    c.new_count.ensures.count (c.in_ok-extend_from_slice.ensures.items ∙ ap (λ xs. c.args.text.now.items ++ xs) c.as_bytes.ensures.value)
    c.in_ok-push_lines.ensures
