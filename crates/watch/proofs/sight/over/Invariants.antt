-- `watch::sight::over` meets its contract. The loop's invariant, `Sweeping`: the cursor stands after the variants that were read, and the
-- words are theirs. The measure is the number of variants left.
use Rattle.search.proofs.Words.{Sweeping}
use Rattle.watch.proofs.sight.over.Given as goal

abbrev pub invariant-loop-cursor : goal.invariant-loop-cursor
invariant-loop-cursor l =
    Sweeping l.pattern l.state.bits l.stretch l.at l.cursor l.out l.missed

abbrev pub decreases-loop-cursor : goal.decreases-loop-cursor
decreases-loop-cursor l =
    l.cursor.left
