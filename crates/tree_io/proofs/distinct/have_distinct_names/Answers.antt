use Rattle.std.proofs.Common.{◌≡◌, ◌+◌, drop, arith}
use Rattle.std.proofs.lemmas.Grind.{common_steps}
use Rattle.std.specs.List.{list_any}
use Rattle.std.specs.Str.{bytes_eq}
use Rattle.rotor_base.specs.declared.source.SourceFile.{SourceFile}
use Rattle.tree_io.proofs.FileNames.{again, once, both_false}
use Rattle.tree_io.proofs.distinct.have_distinct_names.Goals as goal

pub returns-then-has_name : goal.returns-then-has_name
returns-then-has_name c =
    let answer : c.has_name.result ≡ list_any (λ (file : SourceFile). bytes_eq c.index-files-at.result.name file.name)
    (drop (c.loop-at.at + 1) c.args.files.now) = grind (arith, common_steps, c.has_name.ensures) in
    both_false _ (again c.args.files.now c.loop-at.at c.index-files-at.result c.has_name.result c.loop-at-test.true c.index-files-at.is answer
    c.if-has_name.true c.loop-at.invariant)

pub loop-at-preserved : goal.loop-at-preserved
loop-at-preserved c =
    let answer : c.has_name.result ≡ list_any (λ (file : SourceFile). bytes_eq c.index-files-at.result.name file.name)
    (drop (c.loop-at.at + 1) c.args.files.now) = grind (arith, common_steps, c.has_name.ensures) in
    once c.args.files.now c.loop-at.at c.index-files-at.result c.has_name.result c.loop-at-test.true c.index-files-at.is answer c.if-has_name.false
    c.loop-at.invariant
