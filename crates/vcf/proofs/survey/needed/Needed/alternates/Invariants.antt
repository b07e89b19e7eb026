-- `vcf::survey::needed::Needed::alternates` meets its contract. The loop's invariant, `Behind`: k alleles are tallied. The measure is the
-- number of bytes left.
use Prim.Native.Nat.{◌-◌}
use lib.ListN.{length}
use Rattle.std.proofs.Common.{Ok}
use Rattle.vcf.proofs.Tallying.{Behind}
use Rattle.vcf.proofs.survey.needed.Needed.alternates.Given as goal

abbrev pub invariant-loop-needed : goal.invariant-loop-needed
invariant-loop-needed l = Behind (Ok l.initial.needed) l.alleles.reference.now l.alleles.alt.now (Ok l.needed) l.from l.k

abbrev pub decreases-loop-needed : goal.decreases-loop-needed
decreases-loop-needed l = length l.alleles.alt.now - l.from
