use Rattle.std.proofs.Common.{◌+◌, ◌++◌, List, ℕ, ap, refl, option_copied, arith}
use Rattle.ml_lexer.proofs.Order.{lexemes_are_in_order, tokens_are_few}
use Rattle.ml_lexer.specs.Lexed.{view_tokens}
use Rattle.ml_lexer.specs.Respelled.{respelled}
use Rattle.value_sites.specs.Respelled.{Spelling}
use Rattle.binding_model.specs.Renaming.{in_file}
use Rattle.rename_respell.specs.Respelled.{new_texts}
use Rattle.rename_respell.specs.Tables.{words_in}
use Rattle.rename_respell.proofs.Written.{goes_on, written}
use Rattle.rename_respell.proofs.source.respell_source.Goals as goal

pub loop-token-init : goal.loop-token-init
loop-token-init c =
    let v : Spelling = in_file (words_in c.args.words.now.names c.args.words.now.goals) c.args.file in
    let xs = view_tokens c.args.tokens.now in
    record {
      count = refl;
      order = lexemes_are_in_order c.args.source.now xs c.requires.cut;
      made = ap (λ (b : List ℕ). b ++ respelled c.args.source.now xs (new_texts v 1 xs)) c.new-bytes.ensures.items;
    }

pub overflow_add-number : goal.overflow_add-number
overflow_add-number c =
    let few = tokens_are_few c.args.source.now c.args.tokens.now c.requires.cut in
    omega (arith, few, c.requires.small, c.loop-token-test.true, c.loop-token.invariant.count)

pub loop-token-preserved : goal.loop-token-preserved
loop-token-preserved c =
    let names = c.args.words.now.names in
    let goals = c.args.words.now.goals in
    let file = c.args.file in
    let src = c.args.source.now in
    let ts = c.args.tokens.now in
    record {
      count = ap (λ (n : ℕ). n + 1) c.loop-token.invariant.count;
      order = goes_on names goals file src ts c.loop-token.token-index c.loop-token.from _ c.loop-token-test.true c.loop-token.invariant.order;
      made =
          written names goals file src ts c.loop-token.token-index c.loop-token.from _ c.loop-token-test.true c.loop-token.invariant.order
          c.loop-token.number (option_copied c.find_word.result) c.loop-token.bytes.items c.extend_from_slice.new.self.items
          c.add_text.new.bytes.items
          c.loop-token.invariant.count c.find_word.ensures c.in_ok-extend_from_slice.ensures.items c.in_ok-add_text.ensures
          c.loop-token.invariant.made;
    }
