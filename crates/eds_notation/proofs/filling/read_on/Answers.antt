use Rattle.eds_notation.proofs.Fillings.{reach-none, reach-more, reach-stop, reach-all}
use Rattle.eds_notation.proofs.filling.read_on.Goals as goal

pub loop-at-init : goal.loop-at-init
loop-at-init c = reach-none _ _ _ _

pub loop-at-preserved : goal.loop-at-preserved
loop-at-preserved c =
    reach-more c.loop-at.invariant c.loop-at-test.true _ c.act-act.ensures _ _ c.put.ensures.value c.put.ensures.counts_after _
    c.in-Ok.is
    c.put.auto.letters c.put.auto.lengths c.put.auto.counts

pub returns-in-Err : goal.returns-in-Err
returns-in-Err c =
    reach-stop c.loop-at.invariant c.loop-at-test.true _ c.act-act.ensures _ _ c.put.ensures.value c.put.ensures.counts_after _
    c.in-Err.is

pub returns : goal.returns
returns c = reach-all c.loop-at.invariant c.loop-at-test.false
