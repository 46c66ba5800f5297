use Rattle.std.proofs.Common.{◌∙◌, [], sym}
use Rattle.std.proofs.lemmas.List.{append-nil}
use Rattle.cli_words.proofs.Cuts.{split_some, split_none, parts_more}
use Rattle.cli_words.proofs.target.parts.Goals as goal

pub loop-part-smaller : goal.loop-part-smaller
loop-part-smaller c = (split_some 46 c.loop-part.rest.now c.in-Some.part.now c.in-Some.behind.now c.in-Some.ensures).1

pub loop-part-preserved : goal.loop-part-preserved
loop-part-preserved c = parts_more _ _ _ _ _ _ _ c.in_ok-push.ensures.ok c.in_ok-new.ensures c.loop-part.invariant
    (split_some 46 c.loop-part.rest.now c.in-Some.part.now c.in-Some.behind.now c.in-Some.ensures).0

pub returns : goal.returns
returns c =
    let none = split_none 46 c.loop-part.rest.now c.in_default.ensures in
    sym (append-nil c.push-2.new.self) ∙ parts_more c.loop-part.names c.push-2.new.self _ _ c.in_ok-new-2.field-0 c.loop-part.rest.now []
    c.in_ok-push-2.ensures.ok c.in_ok-new-2.ensures c.loop-part.invariant none
