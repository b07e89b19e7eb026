use Rattle.eds_notation.proofs.Repeats.{comparing-none, comparing-same, comparing-more, comparing-end}
use Rattle.eds_notation.proofs.repetition.stands.Goals as goal

pub loop-length-init : goal.loop-length-init
loop-length-init c = comparing-none _ _ _

pub returns-then-alike_from_end : goal.returns-then-alike_from_end
returns-then-alike_from_end c =
    comparing-same c.loop-length.invariant c.loop-length-test.true c.from.ensures c.min-size.ensures _
    c.alike_from_end.ensures c.if-alike_from_end.true

pub loop-length-preserved : goal.loop-length-preserved
loop-length-preserved c =
    comparing-more c.loop-length.invariant c.loop-length-test.true c.from.ensures c.min-size.ensures _
    c.alike_from_end.ensures c.if-alike_from_end.false

pub returns : goal.returns
returns c = comparing-end c.loop-length.invariant c.loop-length-test.false
