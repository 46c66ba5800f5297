use Rattle.std.proofs.Common.{arith}
use Rattle.line_stretches.proofs.Walking.{fits, one_passed}
use Rattle.line_stretches.proofs.line.line_stretch.Goals as goal

pub overflow_add-before : goal.overflow_add-before
overflow_add-before c =
    let most = fits c.args.bytes.now c.loop-line.rest.now c.in-Some.line.now c.in-Some.behind.now c.loop-line.before c.loop-line.start
    c.loop-line.invariant.0 c.in-Some.ensures.line in
    omega (arith, most.1, c.requires)

pub overflow_cast-end : goal.overflow_cast-end
overflow_cast-end c =
    let most = fits c.args.bytes.now c.loop-line.rest.now c.in-Some.line.now c.in-Some.behind.now c.loop-line.before c.loop-line.start
    c.loop-line.invariant.0 c.in-Some.ensures.line in
    omega (arith, most.0, c.requires)

pub overflow_add-end : goal.overflow_add-end
overflow_add-end c =
    let most = fits c.args.bytes.now c.loop-line.rest.now c.in-Some.line.now c.in-Some.behind.now c.loop-line.before c.loop-line.start
    c.loop-line.invariant.0 c.in-Some.ensures.line in
    omega (arith, most.0, c.requires)

pub overflow_add-start : goal.overflow_add-start
overflow_add-start c =
    let most = fits c.args.bytes.now c.loop-line.rest.now c.in-Some.line.now c.in-Some.behind.now c.loop-line.before c.loop-line.start
    c.loop-line.invariant.0 c.in-Some.ensures.line in
    omega (arith, most.0, c.requires)

pub loop-line-preserved : goal.loop-line-preserved
loop-line-preserved c = (
  one_passed _ c.loop-line.rest.now c.in-Some.line.now c.in-Some.behind.now c.loop-line.before c.loop-line.start c.loop-line.invariant.0
      c.in-Some.ensures.line,
  λ some. omega (arith, c.loop-line.invariant.1 some, c.if-before-number.false),
)
