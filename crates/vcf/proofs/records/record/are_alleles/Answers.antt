use native.Mathlib.Omega.{arith}
use mathlib.Core.Path.{sym, ◌∙◌}
use borrow.Author.Tests.{not-true, not-false}
use Rattle.vcf.proofs.Alleles.{asked-none, asked-wrong, asked-all, asked-more}
use Rattle.vcf.proofs.records.record.are_alleles.Goals as goal

pub loop-from-init : goal.loop-from-init
loop-from-init c = asked-none _

pub returns-then-not-is_allele : goal.returns-then-not-is_allele
returns-then-not-is_allele c =
    sym (asked-wrong c.loop-from.invariant c.end_of-end.ensures (sym c.is_allele.ensures ∙ not-true _ c.if-not-is_allele.true-raw))

pub returns-then-end-alt : goal.returns-then-end-alt
returns-then-end-alt c =
    sym (asked-all c.loop-from.invariant c.end_of-end.ensures (sym c.is_allele.ensures ∙ not-false _ c.if-not-is_allele.false-raw)
    c.if-end-alt.true)

pub overflow_add-from : goal.overflow_add-from
overflow_add-from c = omega (arith, c.if-end-alt.false)

pub loop-from-smaller : goal.loop-from-smaller
loop-from-smaller c = omega (arith, c.if-end-alt.false)

pub loop-from-preserved : goal.loop-from-preserved
loop-from-preserved c =
    asked-more c.loop-from.invariant c.end_of-end.ensures (sym c.is_allele.ensures ∙ not-false _ c.if-not-is_allele.false-raw) c.if-end-alt.false
