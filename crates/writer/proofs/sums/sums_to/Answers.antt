use mathlib.Core.Path.{sym}
use Rattle.writer.proofs.Totals.{summing-none, summing-more, summing-over, summing-end}
use Rattle.writer.proofs.sums.sums_to.Goals as goal

pub loop-number-init : goal.loop-number-init
loop-number-init g c = summing-none g.T.Stated.value _ _

pub returns-then-left-more : goal.returns-then-left-more
returns-then-left-more g c =
    sym (summing-over g.T.Stated.value c.loop-number.invariant c.loop-number-test.true c.number-item.is c.stated-more.ensures c.if-left-more.true)

pub loop-number-preserved : goal.loop-number-preserved
loop-number-preserved g c =
    summing-more g.T.Stated.value c.loop-number.invariant c.loop-number-test.true c.number-item.is c.stated-more.ensures c.if-left-more.false

pub returns : goal.returns
returns g c = summing-end g.T.Stated.value c.loop-number.invariant c.loop-number-test.false
