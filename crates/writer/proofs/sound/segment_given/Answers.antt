use Rattle.std.proofs.Common.{◌≡◌, Err, rules}
use mathlib.Core.Path.{sym, ap, ◌∙◌}
use Rattle.text.specs.Refusal.{outcome}
use Rattle.writer.proofs.Cuts.{passing-behind}
use Rattle.writer.proofs.GivenSegment.{segment-empty}
use Rattle.writer.proofs.GivenSegment.{accepted-none, accepted-refused, accepted-more, accepted-end}
use Rattle.writer.proofs.sound.segment_given.Goals as goal

pub returns-then-count-eq0 : goal.returns-then-count-eq0
returns-then-count-eq0 c = sym (segment-empty _ _ _ _ c.wide-count.ensures.0 _ c.if-count-eq0.true)

pub loop-k-init : goal.loop-k-init
loop-k-init c =
    accepted-none _ _ _ _ c.wide-count.ensures.0 c.if-count-eq0.false c.requires.within

pub variant_given-requires : goal.variant_given-requires
variant_given-requires c = passing-behind c.loop-k.invariant.passing c.loop-k-test.true

pub returns-in_err-at : goal.returns-in_err-at
returns-in_err-at c =
    let same : c.from_residual.result ≡ Err c.in_err-at.field-0.0 = search rules in
    let e = sym c.variant_given.ensures ∙ ap outcome c.in_err-at.was in
    rw same (sym (accepted-refused c.loop-k.invariant _ _ c.loop-k-test.true e))

pub loop-k-preserved : goal.loop-k-preserved
loop-k-preserved c =
    let e = sym c.variant_given.ensures ∙ ap outcome c.in_ok-at.was in
    accepted-more c.loop-k.invariant _ c.loop-k-test.true e

pub returns : goal.returns
returns c = sym (accepted-end c.loop-k.invariant c.loop-k-test.false)
