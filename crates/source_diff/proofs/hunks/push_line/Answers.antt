use Rattle.std.proofs.Common.{◌≡◌, ◌<◌, [], ◌∷◌, ◌++◌, false, length, ap, ◌∙◌, arith}
use Rattle.std.proofs.lemmas.Grind.{common_steps}
use Rattle.source_diff.specs.Hunks.{ends_with_feed}
use Rattle.source_diff.proofs.Texts.{noted_steps}
use Rattle.source_diff.proofs.hunks.push_line.Goals as goal

pub returns-in_ok-extend_from_slice-2 : goal.returns-in_ok-extend_from_slice-2
returns-in_ok-extend_from_slice-2 c =
    let some : 0 < length c.args.line.now = grind (arith, common_steps) in
    let open_end : ends_with_feed c.args.line.now ≡ false = grind (arith, common_steps) in
    noted_steps c.args.text.now.items c.push.new.self.items c.extend_from_slice.new.self.items _ c.args.mark c.args.line.now some open_end
    (c.in_ok-push.ensures.items ∙ ap (λ b. c.args.text.now.items ++ b ∷ []) c.mark_byte.ensures) c.in_ok-extend_from_slice.ensures.items
    c.in_ok-extend_from_slice-2.ensures.items
