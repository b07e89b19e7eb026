-- `manifest::checking::listed` meets its contract. The loop's invariant, `Listing`: that many stretches stand before, and no wrong line. The
-- measure is the number of bytes left.
use Prim.Native.Nat.{◌-◌}
use lib.ListN.{length}
use Rattle.manifest.proofs.Finding.{Listing}
use Rattle.manifest.proofs.checking.listed.Given as goal

abbrev pub invariant-loop-line : goal.invariant-loop-line
invariant-loop-line l = Listing l.manifest l.at l.count

abbrev pub decreases-loop-line : goal.decreases-loop-line
decreases-loop-line l = length l.manifest - l.at
