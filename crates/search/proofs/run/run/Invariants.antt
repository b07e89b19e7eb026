-- `search::run::run` meets its contract. The loop's invariant, `Searching`: the walk stands after the segments that were read, and state,
-- marks and number of ones are theirs; a run that stops has met no end. The measure is the number of segments left.
use Prim.Native.Nat.{◌-◌}
use mathlib.Core.Path.{◌≡◌}
use lib.ListN.{length}
use Rattle.search.proofs.Searches.{Searching}
use Rattle.search.proofs.run.run.Given as goal

abbrev pub invariant-loop-walked : goal.invariant-loop-walked
invariant-loop-walked g l =
    Searching l.stop (g.M.Method.pattern l.method) l.initial.reached.bits l.stretch l.initial.walked.count l.initial.walked.at l.marks l.walked l.ends l.reached.bits
    × (length l.marks ≡ length l.initial.marks)

abbrev pub decreases-loop-walked : goal.decreases-loop-walked
decreases-loop-walked g l =
    l.initial.walked.count - l.walked.passed
