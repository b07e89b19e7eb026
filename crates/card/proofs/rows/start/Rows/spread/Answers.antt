use borrow.Author.Rules.{rules}
use native.Mathlib.Omega.{arith}
use Rattle.card.proofs.RowSteps.{spreading-none, spreading-more, spreading-end}
use Rattle.card.proofs.rows.start.Rows.spread.Goals as goal

pub loop-q-init : goal.loop-q-init
loop-q-init c = spreading-none _ _ _ _ (search rules)

pub loop-q-preserved : goal.loop-q-preserved
loop-q-preserved c =
    spreading-more _ _ _ _ _ _ c.loop-q.invariant c.ranges.reached.fits (omega arith)

pub returns : goal.returns
returns c = spreading-end _ _ _ _ _ _ c.loop-q.invariant _ c.loop-q-test.false
