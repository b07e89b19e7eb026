-- `card::rows::ends::sooner` meets its contract, by what `earlier` ensures; no first end is beyond "none".
use native.Mathlib.Omega.{arith}
use Rattle.card.proofs.rows.ends.sooner.Goals as goal

pub returns-then-ends : goal.returns-then-ends
returns-then-ends c = rw c.if-ends.true c.earlier.ensures

pub returns-else-ends : goal.returns-else-ends
returns-else-ends c = rw c.if-ends.false (omega arith)
