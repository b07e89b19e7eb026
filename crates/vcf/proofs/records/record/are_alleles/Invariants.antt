-- `vcf::records::record::are_alleles` meets its contract. The loop's invariant, `Asked`: the pieces before `from` are alleles. The measure is
-- the number of bytes left.
use Prim.Native.Nat.{◌-◌}
use lib.ListN.{length}
use Rattle.vcf.proofs.Alleles.{Asked}
use Rattle.vcf.proofs.records.record.are_alleles.Given as goal

abbrev pub invariant-loop-from : goal.invariant-loop-from
invariant-loop-from l = Asked l.alt l.from

abbrev pub decreases-loop-from : goal.decreases-loop-from
decreases-loop-from l = length l.alt - l.from
