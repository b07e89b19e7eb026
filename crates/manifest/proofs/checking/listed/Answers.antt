use mathlib.Core.Path.{sym, ◌∙◌}
use Rattle.manifest.proofs.Finding.{listing_none, listing-more, listing-wrong, listing-end}
use Rattle.manifest.proofs.checking.listed.Goals as goal

pub loop-line-init : goal.loop-line-init
loop-line-init c = listing_none _

pub returns-then-is_err : goal.returns-then-is_err
returns-then-is_err c =
    listing-wrong c.loop-line.invariant c.next_stretch.ensures.value c.in-Some.is c.next_stretch.ensures.onward
    (sym c.is_err.ensures.value ∙ c.if-is_err.true)

pub loop-line-preserved : goal.loop-line-preserved
loop-line-preserved c =
    listing-more c.loop-line.invariant c.next_stretch.ensures.value c.in-Some.is c.next_stretch.ensures.onward
    (sym c.is_err.ensures.value ∙ c.if-is_err.false)

pub returns : goal.returns
returns c = listing-end c.loop-line.invariant c.next_stretch.ensures.value c.in_default.is c.counted.ensures
