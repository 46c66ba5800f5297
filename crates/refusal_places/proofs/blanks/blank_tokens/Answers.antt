use Rattle.std.proofs.Common.{◌-◌, List, ◌++◌, drop, length, length-drop, map, take, ap, ◌∙◌, arith}
use Rattle.std.proofs.lemmas.List.{take_all}
use Rattle.rotor_base.specs.declared.token.Token.{Token}
use Rattle.ml_lexer.specs.Lexed.{view_tokens}
use Rattle.refusal_places.specs.Blanks.{blank}
use Rattle.refusal_places.proofs.Blanking.{blanked_tokens}
use Rattle.refusal_places.proofs.blanks.blank_tokens.Goals as goal

pub returns-clause-tokens : goal.returns-clause-tokens
returns-clause-tokens c =
    let ts = c.args.tokens.now in
    let n = c.args.count in
    let list = c.loop-token.list.items in
    let left = length-drop n ts in
    ap view_tokens
    (c.in_ok-extend_from_slice.ensures.items
    ∙ ap (λ (l : List Token). list ++ l) (take_all (length ts - n) (drop n ts) (omega (arith, left))))
    ∙ blanked_tokens c.args.name.now n ts list
    (c.loop-token.invariant.blanks
    ∙ ap (λ (l : List Token). map (blank c.args.name.now) (view_tokens l))
    (take_all c.loop-token.token-index (take n ts) c.loop-token-test.false))
