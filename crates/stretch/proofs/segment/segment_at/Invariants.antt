-- `stretch::segment::segment_at` meets its contract. The loop's invariant, `Walking`: the cursor stands after the variants that were read.
-- The measure is the number of variants left.
use Rattle.text.specs.Text.{Segment}
use Rattle.layout.proofs.Walking.{Walking}
use Rattle.stretch.proofs.segment.segment_at.Given as goal

abbrev pub invariant-loop-cursor : goal.invariant-loop-cursor
invariant-loop-cursor l =
    (seen : Segment) × Walking l.stretch l.at seen l.cursor

abbrev pub decreases-loop-cursor : goal.decreases-loop-cursor
decreases-loop-cursor l =
    l.cursor.left
