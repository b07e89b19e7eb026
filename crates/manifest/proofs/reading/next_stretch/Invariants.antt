-- `manifest::reading::next_stretch` meets its contract. The loop's invariant, `Seeking`: the lines before are comments. The measure is the
-- number of bytes left.
use Prim.Native.Nat.{◌-◌}
use lib.ListN.{length}
use Rattle.manifest.proofs.Finding.{Seeking}
use Rattle.manifest.proofs.reading.next_stretch.Given as goal

abbrev pub invariant-loop-line : goal.invariant-loop-line
invariant-loop-line l = Seeking l.manifest l.at l.from

abbrev pub decreases-loop-line : goal.decreases-loop-line
decreases-loop-line l = length l.manifest - l.from
