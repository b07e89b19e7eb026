-- `vcf::records::record::is_allele` meets its contract.
use mathlib.Core.Path.{sym}
use Rattle.vcf.proofs.Alleles.{allele-empty, allele-is}
use Rattle.vcf.proofs.records.record.is_allele.Goals as goal

pub returns-then-bytes-eq0 : goal.returns-then-bytes-eq0
returns-then-bytes-eq0 c = sym (allele-empty _ c.if-bytes-eq0.true)

pub returns : goal.returns
returns c = allele-is _ _ c.if-bytes-eq0.false c.first_wrong.ensures
