use Rattle.desk_verdict.proofs.NextMarked.{passing-none, passing-more, passing-marked, passing-end}
use Rattle.desk_verdict.proofs.marked.next_marked.Goals as goal

pub loop-j-init : goal.loop-j-init
loop-j-init c = passing-none _ _

pub returns-then-marks-j-eq1-clause-value : goal.returns-then-marks-j-eq1-clause-value
returns-then-marks-j-eq1-clause-value c =
    passing-marked c.loop-j.invariant c.loop-j-test.true c.if-marks-j-eq1.true

pub loop-j-preserved : goal.loop-j-preserved
loop-j-preserved c =
    passing-more c.loop-j.invariant c.loop-j-test.true c.if-marks-j-eq1.false

pub returns-clause-value : goal.returns-clause-value
returns-clause-value c = passing-end c.loop-j.invariant c.loop-j-test.false
