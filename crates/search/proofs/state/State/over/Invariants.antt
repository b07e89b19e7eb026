-- `search::State::over` meets its contract. The loop's invariant, `Sweeping`: the cursor stands after the variants that were read, and the
-- words are theirs. The measure is the number of variants left.
use Rattle.search.proofs.Words.{Sweeping}
use Rattle.search.proofs.state.State.over.Given as goal

abbrev pub invariant-loop-cursor : goal.invariant-loop-cursor
invariant-loop-cursor g l =
    Sweeping (g.M.Method.pattern l.method) l.bits l.stretch l.at l.cursor l.out l.missed

abbrev pub decreases-loop-cursor : goal.decreases-loop-cursor
decreases-loop-cursor g l =
    l.cursor.left
