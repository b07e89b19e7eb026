use native.Mathlib.Omega.{arith}
use Rattle.vcf.proofs.Marks.{counting-none, counting-few, counting-last, counting_more}
use Rattle.vcf.proofs.put.count.Goals as goal

pub loop-mark-init : goal.loop-mark-init
loop-mark-init c = counting-none _ _

pub returns-then-end-s : goal.returns-then-end-s
returns-then-end-s c = counting-last c.loop-mark.invariant c.end_of-end.ensures c.if-end-s.true

pub overflow_add-from : goal.overflow_add-from
overflow_add-from c = omega (arith, c.if-end-s.false)

pub overflow_add-n : goal.overflow_add-n
overflow_add-n c = omega (arith, counting-few c.loop-mark.invariant c.end_of-end.ensures)

pub loop-mark-smaller : goal.loop-mark-smaller
loop-mark-smaller c = omega (arith, c.if-end-s.false)

pub loop-mark-preserved : goal.loop-mark-preserved
loop-mark-preserved c = counting_more c.loop-mark.invariant c.end_of-end.ensures c.if-end-s.false
