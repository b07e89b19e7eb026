use mathlib.Core.Path.{sym, ap, ◌∙◌}
use Rattle.stretch.specs.Answers.{told_checked}
use Rattle.stretch.proofs.ReadsAtPlace.{check-accepted}
use Rattle.eds_notation.proofs.Shows.{bracing-none, bracing-more, bracing-end, bracing-length, refused-braces}
use Rattle.eds_notation.proofs.braced.put_braces.Goals as goal

pub loop-segment-init : goal.loop-segment-init
loop-segment-init c =
    bracing-none _ _ _ (check-accepted _ _ _ (sym (ap told_checked c.in-Sound.is) ∙ c.check.ensures))

pub loop-segment-preserved : goal.loop-segment-preserved
loop-segment-preserved c =
    bracing-more c.loop-segment.invariant c.loop-segment-test.true c.put_segment-next.ensures

pub returns-in-Refused : goal.returns-in-Refused
returns-in-Refused c = refused-braces _ _ _ (sym (ap told_checked c.in-Refused.is) ∙ c.check.ensures)

pub shape_of-out : goal.shape_of-out
shape_of-out c = bracing-length c.loop-segment.invariant

pub returns-after-loop-segment : goal.returns-after-loop-segment
returns-after-loop-segment c = bracing-end c.loop-segment.invariant c.loop-segment-test.false
