use native.Mathlib.Omega.{arith}
use Rattle.layout.proofs.Going.{open_is, passed_on}
use Rattle.watch.proofs.Sights.{open-there, unended-none, unended-readable, unended-ends, unended-more, unended-all}
use Rattle.watch.proofs.sight.first_end.Goals as goal

pub returns-in_default : goal.returns-in_default
returns-in_default c =
    absurd (open-there _ _ c.requires.1 c.open.ensures c.in_default.is)

pub loop-walk-init : goal.loop-walk-init
loop-walk-init c =
    unended-none _ _ _ _ c.requires.0 c.requires.1 (open_is _ c.open.ensures c.in-Ok.is)

pub over-passed-requires : goal.over-passed-requires
over-passed-requires c =
    (record { tables = c.requires.0; state = c.loop-walk.invariant.state }, unended-readable c.loop-walk.invariant c.loop-walk-test.true)

pub returns-then-passed : goal.returns-then-passed
returns-then-passed c =
    unended-ends c.loop-walk.invariant c.loop-walk-test.true _ _ _ c.over-passed.ensures c.if-passed.true

pub loop-walk-smaller : goal.loop-walk-smaller
loop-walk-smaller c =
    let on = passed_on _ _ _ (omega (arith, c.loop-walk-test.true, c.loop-walk.invariant.few)) c.past-walk.ensures in
    omega (arith, on, c.loop-walk-test.true)

pub loop-walk-preserved : goal.loop-walk-preserved
loop-walk-preserved c =
    unended-more c.loop-walk.invariant c.loop-walk-test.true _ _ _ c.over-passed.ensures c.requires.0.some c.if-passed.false _ c.past-walk.ensures

pub returns : goal.returns
returns c = unended-all c.loop-walk.invariant c.loop-walk-test.false
