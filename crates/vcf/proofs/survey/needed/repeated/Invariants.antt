-- `vcf::survey::needed::repeated` meets its contract. The loop's invariant, `Compared`: the allele is none of the first i.
use Rattle.vcf.proofs.Tallying.{Compared}
use Rattle.vcf.proofs.survey.needed.repeated.Given as goal

abbrev pub invariant-loop-i : goal.invariant-loop-i
invariant-loop-i l = Compared l.allele l.alleles.alt.now l.k l.from l._i
