use native.Mathlib.Omega.{arith}
use mathlib.Core.Path.{◌≡◌, sym, ◌∙◌}
use Rattle.std.proofs.Common.{Err, rules}
use Rattle.vcf.proofs.Tallying.{behind-none, behind-err, behind_more, behind-end}
use Rattle.vcf.proofs.survey.needed.Needed.alternates.Goals as goal

pub loop-needed-init : goal.loop-needed-init
loop-needed-init c = behind-none _ _ _ c.requires

pub variant-requires : goal.variant-requires
variant-requires c = c.loop-needed.invariant.sane

pub returns-in_err-needed : goal.returns-in_err-needed
returns-in_err-needed c =
    let same : c.from_residual.result ≡ Err c.in_err-needed.field-0.0 = search rules in
    same ∙ behind-err c.loop-needed.invariant c.end_of-end.ensures c.repeated-again.ensures c.variant.ensures c.in_err-needed.was

pub returns-then-end-alt : goal.returns-then-end-alt
returns-then-end-alt c =
    behind-end c.loop-needed.invariant c.end_of-end.ensures c.repeated-again.ensures (sym c.in_ok-needed.was ∙ c.variant.ensures)
    c.if-end-alt.true

pub overflow_add-from : goal.overflow_add-from
overflow_add-from c = omega (arith, c.if-end-alt.false)

pub overflow_add-k : goal.overflow_add-k
overflow_add-k c = omega (arith, c.if-end-alt.false)

pub loop-needed-smaller : goal.loop-needed-smaller
loop-needed-smaller c = omega (arith, c.if-end-alt.false)

pub loop-needed-preserved : goal.loop-needed-preserved
loop-needed-preserved c =
    behind_more c.loop-needed.invariant c.end_of-end.ensures c.repeated-again.ensures (sym c.in_ok-needed.was ∙ c.variant.ensures)
    c.if-end-alt.false
