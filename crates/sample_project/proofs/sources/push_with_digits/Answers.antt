use Rattle.std.proofs.Common.{◌∙◌, ap, sym, ◌+◌, ◌*◌, ◌++◌, ◌∷◌, [], List, ℕ, drop, flat_map}
use Rattle.std.proofs.lemmas.List.{drop_more}
use Rattle.sample_project.specs.Sources.{digits, sources_below, with_digit}
use Rattle.sample_project.proofs.Adding.{added}
use Rattle.sample_project.proofs.sources.push_with_digits.Goals as goal

pub loop-digit-init : goal.loop-digit-init
loop-digit-init c =
    added c.args.units c.args.sources.now.items c.push_source.new.sources.items (c.args.number ∷ [])
    (flat_map (λ digit. with_digit (10 * c.args.number + digit)) digits) c.in_ok-push_source.ensures

pub loop-digit-preserved : goal.loop-digit-preserved
loop-digit-preserved c =
    let n = c.args.units in
    let i = c.loop-digit.digit-index in
    let of = λ (digit : ℕ). with_digit (10 * c.args.number + digit) in
    added n c.loop-digit.sources.items c.push_with_digit.new.sources.items (of _) (flat_map of (drop (i + 1) digits)) c.in_ok-push_with_digit.ensures
    ∙ ap (λ (ds : List ℕ). c.loop-digit.sources.items ++ sources_below n (flat_map of ds)) (sym (drop_more digits i _ c.loop-digit-test.true))
    ∙ c.loop-digit.invariant
