-- `vcf::records::record::is_comment` meets its contract.
use mathlib.Core.Path.{sym}
use Rattle.vcf.proofs.Alleles.{comment-empty, comment-is}
use Rattle.vcf.proofs.records.record.is_comment.Goals as goal

pub returns-then-line-eq0 : goal.returns-then-line-eq0
returns-then-line-eq0 c = sym (comment-empty _ c.if-line-eq0.true)

pub returns : goal.returns
returns c = comment-is _
