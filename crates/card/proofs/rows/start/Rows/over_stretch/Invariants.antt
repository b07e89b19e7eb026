-- `card::rows::Rows::over_stretch` meets its contract. The loop's invariant, `Rowing`: the walk stands after some of the segments, and the
-- rows are theirs. The measure is the number of segments left.
use Prim.Native.Nat.{◌-◌}
use Rattle.card.specs.Held.{rows_in, Full}
use Rattle.card.proofs.RowWalks.{Rowing}
use Rattle.card.proofs.rows.start.Rows.over_stretch.Given as goal

abbrev pub invariant-loop-walk : goal.invariant-loop-walk
invariant-loop-walk l =
    Full l.self.exits l.self.firsts × Rowing l.pattern l.stretch (rows_in l.self.exits l.self.firsts) l.live l.walk

abbrev pub decreases-loop-walk : goal.decreases-loop-walk
decreases-loop-walk l = l.walk.count - l.walk.passed
