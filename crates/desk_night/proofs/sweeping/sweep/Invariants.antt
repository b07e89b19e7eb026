-- `desk_night::sweeping::sweep` meets its contract. The loop's invariant, `Sweeping`: what is left gives the same as the whole, and fewer than 32 are
-- taken. The measure is the number of bytes left.
use Prim.Native.Nat.{◌-◌, ◌<◌}
use lib.ListN.{length}
use Rattle.desk_list.specs.Lines.{most}
use Rattle.desk_night.proofs.Sweeps.{Sweeping}
use Rattle.desk_night.proofs.sweeping.sweep.Given as goal

abbrev pub invariant-loop-line : goal.invariant-loop-line
invariant-loop-line l = Sweeping l.first l.list l.stretch l.initial.sweep l.sweep l.k l.at × (l.k < most)

abbrev pub decreases-loop-line : goal.decreases-loop-line
decreases-loop-line l = length l.list - l.at
