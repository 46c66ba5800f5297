use Rattle.std.proofs.Common.{◌∙◌, ap, sym, ◌+◌, ◌*◌, ◌++◌, ◌∷◌, [], List, ℕ, drop, map}
use Rattle.std.proofs.lemmas.List.{drop_more}
use Rattle.sample_project.specs.Sources.{digits, sources_below}
use Rattle.sample_project.proofs.Adding.{added}
use Rattle.sample_project.proofs.sources.push_with_digit.Goals as goal

pub loop-digit-preserved : goal.loop-digit-preserved
loop-digit-preserved c =
    let n = c.args.units in
    let i = c.loop-digit.digit-index in
    let of = λ (digit : ℕ). 10 * c.args.number + digit in
    added n c.loop-digit.sources.items c.push_source-in-loop-digit.new.sources.items (of _ ∷ [])
    (map of (drop (i + 1) digits)) c.in_ok-push_source-2.ensures
    ∙ ap (λ (ds : List ℕ). c.loop-digit.sources.items ++ sources_below n (map of ds)) (sym (drop_more digits i _ c.loop-digit-test.true))
    ∙ c.loop-digit.invariant
