use borrow.Author.Rules.{rules}
use native.Mathlib.Omega.{arith}
use Rattle.card.proofs.RowSteps.{settling-none, settling-more, settling-end}
use Rattle.card.proofs.rows.start.Rows.settle.Goals as goal

pub loop-q-init : goal.loop-q-init
loop-q-init c = settling-none _ _ _ _ _ _ (record { states = search rules; ends = search rules })

pub loop-q-preserved : goal.loop-q-preserved
loop-q-preserved c =
    settling-more _ _ _ _ _ _ _ _ _ c.loop-q.invariant c.loop-q-test.true (omega arith) _ c.sooner.ensures

pub returns : goal.returns
returns c = let s = c.loop-q.invariant in (s.full, settling-end _ _ _ _ _ _ _ _ _ s c.loop-q-test.false)
