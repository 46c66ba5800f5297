use Rattle.std.proofs.Common.{◌≡◌, ◌<◌, ℕ, ap, sym, ◌∙◌, length, get_or, arith}
use Rattle.std.specs.Global.{Vec}
use Rattle.rotor_base.specs.declared.source.SourceFile.{SourceFile}
use Rattle.rename_verify.proofs.Parting.{mapped_more}
use Rattle.rename_verify.proofs.bytes.first_spot.Goals as goal

pub loop-at-preserved : goal.loop-at-preserved
loop-at-preserved c =
    let n = c.loop-at.at in
    let olds = c.args.olds.now in
    let news = c.args.news.now in
    let within : n < length olds = omega (arith, c.requires.same) in
    let here : c.as_slice.result.now ≡ (get_or olds n c.index-olds-at.result).items = c.as_slice.ensures.value
    ∙ ap (λ (v : Vec ℕ). v.items) c.index-olds-at.is in
    let part = c.in_default.ensures in
    mapped_more (λ (b : Vec ℕ). b.items)
    (λ (s : SourceFile). s.bytes) olds news n c.index-olds-at.result c.index-news-at.result within c.loop-at-test.true
    (sym here ∙ (part.part ∙ c.as_slice-in-loop-at.ensures)) c.loop-at.invariant
