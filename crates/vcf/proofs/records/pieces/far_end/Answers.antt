-- `vcf::records::pieces::far_end` meets its contract.
use Rattle.vcf.proofs.Marks.{skips-ends, ends-behind}
use Rattle.vcf.proofs.records.pieces.far_end.Goals as goal

pub returns-then-s-from : goal.returns-then-s-from
returns-then-s-from c = ends-behind _ _ _ c.if-s-from.true

pub returns : goal.returns
returns c = skips-ends c.passed-near.ensures c.end_of.ensures
