use native.Mathlib.Omega.{arith}
use mathlib.Core.Path.{sym}
use Rattle.vcf.proofs.Marks.{counted_none, counted-more, counted-last, counted-end}
use Rattle.vcf.proofs.records.pieces.more_than.Goals as goal

pub loop-i-init : goal.loop-i-init
loop-i-init c = counted_none _ _ _

pub returns-then-end-s : goal.returns-then-end-s
returns-then-end-s c =
    sym (counted-last c.loop-i.invariant c.loop-i-test.true c.end_of-end.ensures c.if-end-s.true)

pub overflow_add-from : goal.overflow_add-from
overflow_add-from c = omega (arith, c.if-end-s.false)

pub loop-i-preserved : goal.loop-i-preserved
loop-i-preserved c =
    counted-more c.loop-i.invariant c.loop-i-test.true c.end_of-end.ensures c.if-end-s.false

pub returns : goal.returns
returns c = sym (counted-end c.loop-i.invariant c.loop-i-test.false)
