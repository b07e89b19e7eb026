use Rattle.vcf.proofs.Marks.{clearing-none, clearing-more, clearing-end}
use Rattle.vcf.proofs.records.pieces.is_clear.Goals as goal

pub loop-byte-init : goal.loop-byte-init
loop-byte-init c = clearing-none _ _

pub loop-byte-preserved : goal.loop-byte-preserved
loop-byte-preserved c = clearing-more c.loop-byte.invariant c.loop-byte-test.true

pub returns : goal.returns
returns c = clearing-end c.loop-byte.invariant c.loop-byte-test.false
