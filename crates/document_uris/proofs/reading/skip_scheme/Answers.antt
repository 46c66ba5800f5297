use Rattle.std.proofs.Common.{◌≡◌, ◌<◌, ℕ, Bool, true, false, List, None, Some, cond, codes, drop, length, take, sym, ap, ◌∙◌, arith}
use Rattle.std.specs.Option.{option_copied}
use Rattle.std.proofs.lemmas.List.{length-take}
use Rattle.document_uris.specs.Uris.{behind_scheme, is_same_word}
use Rattle.document_uris.proofs.Words.{other_word, same_word}
use Rattle.document_uris.proofs.reading.skip_scheme.Goals as goal

pub returns-in_err-scheme : goal.returns-in_err-scheme
unfolding behind_scheme
returns-in_err-scheme c =
    let short : length (take 5 c.args.uri.now) < 5 =
    omega (arith, length-take 5 c.args.uri.now, c.in_err-scheme.ensures.cases) in
    let other : is_same_word (take 5 c.args.uri.now) (codes "file:") ≡ false = other_word (take 5 c.args.uri.now) (codes "file:") short in
    ap option_copied c.from_residual.ensures ∙ ap (λ (same : Bool). cond same (Some (drop 5 c.args.uri.now)) None) (sym other)

pub returns-then-eq_ignore_ascii_case : goal.returns-then-eq_ignore_ascii_case
unfolding behind_scheme
returns-then-eq_ignore_ascii_case c =
    let word = same_word c.in_ok-scheme.scheme.now (codes "file:") c.eq_ignore_ascii_case.result c.eq_ignore_ascii_case.ensures.test in
    let cut = c.in_ok-scheme.ensures.cases in
    let same : is_same_word (take 5 c.args.uri.now) (codes "file:") ≡ true =
    ap (λ (scheme : List ℕ). is_same_word scheme (codes "file:")) (sym cut.1) ∙ sym word ∙ c.if-eq_ignore_ascii_case.true in
    ap (λ (rest : List ℕ). Some rest) cut.2
    ∙ ap (λ (same : Bool). cond same (Some (drop 5 c.args.uri.now)) None) (sym same)

pub returns-else-eq_ignore_ascii_case : goal.returns-else-eq_ignore_ascii_case
unfolding behind_scheme
returns-else-eq_ignore_ascii_case c =
    let word = same_word c.in_ok-scheme.scheme.now (codes "file:") c.eq_ignore_ascii_case.result c.eq_ignore_ascii_case.ensures.test in
    let cut = c.in_ok-scheme.ensures.cases in
    let same : is_same_word (take 5 c.args.uri.now) (codes "file:") ≡ false =
    ap (λ (scheme : List ℕ). is_same_word scheme (codes "file:")) (sym cut.1) ∙ sym word ∙ c.if-eq_ignore_ascii_case.false in
    ap (λ (same : Bool). cond same (Some (drop 5 c.args.uri.now)) None) (sym same)
