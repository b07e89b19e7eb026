use Rattle.std.proofs.Common.{◌≡◌, Err, rules}
use native.Mathlib.Omega.{arith}
use mathlib.Core.Path.{sym, ap, ◌∙◌}
use Rattle.text.specs.Refusal.{outcome}
use Rattle.writer.proofs.Texts.{matched-within}
use Rattle.writer.proofs.GivenText.{accepted-none, accepted-refused, accepted-more, accepted-end}
use Rattle.writer.proofs.sound.segments_given.Goals as goal

pub loop-segment-init : goal.loop-segment-init
loop-segment-init c = accepted-none c.requires

pub segment_given-requires : goal.segment_given-requires
segment_given-requires c = record { segment_in_bounds = c.loop-segment-test.true; within = matched-within c.loop-segment.invariant.matched c.loop-segment-test.true }

pub returns-in_err-at : goal.returns-in_err-at
returns-in_err-at c =
    let same : c.from_residual.result ≡ Err c.in_err-at.field-0.0 = search rules in
    let e = sym c.segment_given.ensures ∙ ap outcome c.in_err-at.was in
    rw same (sym (accepted-refused c.loop-segment.invariant _ _ c.loop-segment-test.true e))

pub overflow_add-variant : goal.overflow_add-variant
overflow_add-variant c =
    omega (arith, matched-within c.loop-segment.invariant.matched c.loop-segment-test.true, c.wide-variant.ensures)

pub loop-segment-preserved : goal.loop-segment-preserved
loop-segment-preserved c =
    let e = sym c.segment_given.ensures ∙ ap outcome c.in_ok-at.was in
    accepted-more c.loop-segment.invariant _ _ c.loop-segment-test.true c.wide-variant.ensures.0 e

pub returns : goal.returns
returns c = sym (accepted-end c.loop-segment.invariant c.loop-segment-test.false)
