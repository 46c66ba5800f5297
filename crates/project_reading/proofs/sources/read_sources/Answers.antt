use Rattle.std.proofs.Common.{map, length, refl, subst, sym, ◌+◌, take, arith}
use Rattle.std.proofs.lemmas.Option.{slice_get_read}
use Rattle.ml_lexer.specs.Lexed.{view_tokens}
use Rattle.ml_trees.specs.View.{view_file}
use Rattle.project_reading.specs.Sources.{AreCut, ReadAll}
use Rattle.project_reading.proofs.Reading.{sources_refused, trees_more, lists_more}
use Rattle.project_reading.proofs.sources.read_sources.Goals as goal

pub returns-in-Err-clause-refused : goal.returns-in-Err-clause-refused
returns-in-Err-clause-refused c =
    let before = c.loop-number in
    let s = c.index-sources-number in
    sources_refused before.number c.args.sources.now s.result (map view_file before.trees.items) c.in-Err.why (omega arith) s.is
    before.invariant.read c.in-Err.ensures.refused

pub returns-in-Err-find_tree-clause-refused : goal.returns-in-Err-find_tree-clause-refused
returns-in-Err-find_tree-clause-refused c =
    let before = c.loop-number in
    let s = c.index-sources-number in
    sources_refused before.number c.args.sources.now s.result (map view_file before.trees.items) c.in-Err-find_tree.why (omega arith) s.is
    before.invariant.read c.in-Err-find_tree.ensures.refused

pub loop-number-preserved : goal.loop-number-preserved
loop-number-preserved c =
    let before = c.loop-number in
    let ss = c.args.sources.now in
    let s = c.index-sources-number in
    record {
      read =
          subst (λ ts. ReadAll 0 (take (c.loop-number.number + 1) ss) (map view_file ts)) (sym c.in_ok-push.ensures.items)
          (trees_more before.number ss s.result before.trees.items c.in-Ok-find_tree.tree (omega arith) s.is
          before.invariant.read
          (c.in-Ok-find_tree.ensures.tree ss before.invariant.known (slice_get_read ss (length ss) before.number s.result refl (omega arith) s.is)));
      known = c.find_tree.ensures.known ss before.invariant.known;
      cut =
          subst (λ ls. AreCut (take (c.loop-number.number + 1) ss) (map (λ list. view_tokens list.items) ls)) (sym c.in_ok-push-2.ensures.items)
          (lists_more before.number ss s.result before.cut.items c.in-Ok.tokens (omega arith) s.is before.invariant.cut c.in-Ok.ensures.cut);
    }
