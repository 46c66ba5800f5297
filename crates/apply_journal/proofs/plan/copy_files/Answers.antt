use Rattle.std.proofs.Common.{◌≡◌, ◌∙◌, arith}
use Rattle.apply_journal.specs.Plan.{file_of}
use Rattle.apply_journal.proofs.Picked.{files_at_more}
use Rattle.apply_journal.proofs.plan.copy_files.Goals as goal

pub loop-number-preserved : goal.loop-number-preserved
loop-number-preserved c =
    let found = c.index-files-number.result in
    let same : c.in_ok-make_file.field-0 ≡ found = c.in_ok-make_file.ensures ∙ (λ i. file_of (c.as_str.ensures i) (c.as_slice.ensures i)) in
    files_at_more c.args.files.now c.args.numbers.now c.loop-number.number-index c.in_ok-make_file.field-0 found c.loop-number.copies.items
    c.push.new.self.items
    (omega arith) c.requires c.index-files-number.is same c.loop-number.invariant c.in_ok-push.ensures.items
