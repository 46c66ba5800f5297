use Rattle.std.proofs.Common.{Bool, ◌≡◌, ◌≤◌, ◌<◌, ◌+◌, ℕ, suc, List, drop, length, get_or, Option, Some, None, option_map, true, ap, sym, ◌∙◌, arith}
use Rattle.std.proofs.lemmas.List.{drop_more, drop_all}
use Rattle.rotor_base.specs.declared.token.Token.{Token}
use Rattle.ml_lexer.specs.Lexed.{view_token, view_tokens}
use Rattle.rename_model.specs.Target.{first_at, holds, lexeme_over}
use Rattle.rename_parts.proofs.Searches.{counted, search_hit, search_end, first_mapped}
use Rattle.rename_parts.proofs.targets.lexeme_over.Goals as goal

abbrev test : ℕ → Token → Bool
test offset t = holds offset (view_token t)

over_is : (offset : ℕ) (ts : List Token) (o : Option ℕ) → o ≡ first_at (test offset) ts → option_map suc o ≡ lexeme_over offset (view_tokens ts)
over_is offset ts o e = ap (option_map suc) (e ∙ sym (first_mapped view_token (holds offset) ts))

hit : (offset n i : ℕ) (ts : List Token) (d : Token) → i < length ts → n ≡ i + 1 → (get_or ts i d).start ≤ offset → offset < (get_or ts i d).end
    → counted i (first_at (test offset) (drop i ts)) ≡ first_at (test offset) ts → Some n ≡ lexeme_over offset (view_tokens ts)
hit offset n i ts d w e low high h =
    let passes : test offset (get_or ts i d) ≡ true = grind arith in
    let k : Some i ≡ first_at (test offset) ts = search_hit (test offset) ts i i (get_or ts i d) (first_at (test offset) ts)
    (drop_more ts i d w) passes h in
    let s : n ≡ suc i = omega (arith, e) in
    ap (λ m. Some m) s ∙ over_is offset ts (Some i) k

pub returns-then-offset-token : goal.returns-then-offset-token
returns-then-offset-token c =
    hit c.args.offset c.loop-token.number c.loop-token.token-index c.args.tokens.now _ c.loop-token-test.true c.loop-token.invariant.count
    c.if-token-offset.true c.if-offset-token.true c.loop-token.invariant.left

pub returns : goal.returns
returns c =
    over_is c.args.offset c.args.tokens.now None
    (search_end (test c.args.offset) c.args.tokens.now c.loop-token.token-index c.loop-token.token-index
    (first_at (test c.args.offset) c.args.tokens.now)
    (drop_all c.loop-token.token-index c.args.tokens.now c.loop-token-test.false) c.loop-token.invariant.left)
