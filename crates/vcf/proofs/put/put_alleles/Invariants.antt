-- `vcf::put::put_alleles` meets its contract. The loop's invariant, `Alleles`: the alleles before `from` are put. The measure is the
-- number of bytes left.
use Prim.Native.Nat.{◌-◌}
use lib.ListN.{length}
use Rattle.vcf.proofs.Emitting.{Alleles}
use Rattle.vcf.proofs.put.put_alleles.Given as goal

abbrev pub invariant-loop-at : goal.invariant-loop-at
invariant-loop-at l = Alleles l.initial.out l.at l.alt l.out l.next l.from

abbrev pub decreases-loop-at : goal.decreases-loop-at
decreases-loop-at l = length l.alt - l.from
