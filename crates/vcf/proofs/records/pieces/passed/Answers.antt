use mathlib.Core.Path.{sym, ◌∙◌}
use borrow.Author.Rules.{rules}
use borrow.Author.Tests.{not-false}
use Rattle.vcf.proofs.Marks.{skipping-none, skipping-more}
use Rattle.vcf.proofs.records.pieces.passed.Goals as goal

pub loop-left-init : goal.loop-left-init
loop-left-init c = skipping-none _ _ _ (search rules)

pub returns-then-not-is_clear : goal.returns-then-not-is_clear
returns-then-not-is_clear c = c.loop-left.invariant.skips

pub loop-left-preserved : goal.loop-left-preserved
loop-left-preserved c =
    skipping-more 64 c.loop-left.invariant c.loop-left-test.true (sym c.is_clear.ensures ∙ not-false _ c.if-not-is_clear.false-raw)

pub returns : goal.returns
returns c = c.loop-left.invariant.skips
