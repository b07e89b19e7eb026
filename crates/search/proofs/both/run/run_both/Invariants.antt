-- `search::both::run::run_both` meets its contract. The loop's invariant, `Uniting`: the walk stands after the segments that were read, and
-- states, marks and number of ones are theirs. The measure is the number of segments left.
use Prim.Native.Nat.{◌-◌}
use mathlib.Core.Path.{◌≡◌}
use lib.ListN.{length}
use Rattle.search.proofs.Eithers.{Uniting}
use Rattle.search.proofs.both.run.run_both.Given as goal

abbrev pub invariant-loop-walked : goal.invariant-loop-walked
invariant-loop-walked l =
    Uniting l.pattern l.initial.reached.given l.initial.reached.opposite l.stretch l.initial.walked.count l.initial.walked.at l.marks l.walked l.ends l.reached.given
    l.reached.opposite
    × (length l.marks ≡ length l.initial.marks)

abbrev pub decreases-loop-walked : goal.decreases-loop-walked
decreases-loop-walked l = l.initial.walked.count - l.walked.passed
