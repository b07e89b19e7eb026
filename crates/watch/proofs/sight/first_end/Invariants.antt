-- `watch::sight::first_end` meets its contract. The loop's invariant, `Unended`: nothing ends in the segments that the walk has passed, and the
-- state is theirs. The measure is the number of segments left.
use Prim.Native.Nat.{◌-◌}
use Rattle.watch.specs.Sight.{text_of}
use Rattle.watch.proofs.Sights.{Unended}
use Rattle.watch.proofs.sight.first_end.Given as goal

abbrev pub invariant-loop-walk : goal.invariant-loop-walk
invariant-loop-walk l = Unended l.pattern l.stretch (text_of l.stretch) l.state.bits l.walk

abbrev pub decreases-loop-walk : goal.decreases-loop-walk
decreases-loop-walk l = l.walk.count - l.walk.passed
