-- `desk_list::checking::check` meets its contract. The loop's invariant, `Checking`: the lines so far are right, and have that many
-- sequences. The measure is the number of bytes left.
use Prim.Native.Nat.{◌-◌}
use lib.ListN.{length}
use Rattle.desk_list.proofs.Checks.{Checking}
use Rattle.desk_list.proofs.checking.check.Given as goal

abbrev pub invariant-loop-line : goal.invariant-loop-line
invariant-loop-line l = Checking l.list l.at l.count

abbrev pub decreases-loop-line : goal.decreases-loop-line
decreases-loop-line l = length l.list - l.at
