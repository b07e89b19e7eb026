-- `vcf::put::count` meets its contract. The loop's invariant, `Counting`: n - 1 pieces stand before `from`. The measure is the number of
-- bytes left.
use Prim.Native.Nat.{◌-◌}
use lib.ListN.{length}
use Rattle.vcf.proofs.Marks.{Counting}
use Rattle.vcf.proofs.put.count.Given as goal

abbrev pub invariant-loop-mark : goal.invariant-loop-mark
invariant-loop-mark l = Counting l.mark l.s l.n l.from

abbrev pub decreases-loop-mark : goal.decreases-loop-mark
decreases-loop-mark l = length l.s - l.from
