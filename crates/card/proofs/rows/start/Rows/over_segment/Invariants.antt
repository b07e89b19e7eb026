-- `card::rows::Rows::over_segment` meets its contract. The loop's invariant, `Bearing`: the variants passed so far have made of each row
-- what they make of its state. The measure is the number of variants left.
use Rattle.card.proofs.RowSegments.{Bearing}
use Rattle.card.proofs.rows.start.Rows.over_segment.Given as goal

abbrev pub invariant-loop-cursor : goal.invariant-loop-cursor
invariant-loop-cursor l =
    Bearing l.pattern l.stretch l.at l.live l.self.exits l.new l.finished l.cursor

abbrev pub decreases-loop-cursor : goal.decreases-loop-cursor
decreases-loop-cursor l =
    l.cursor.left
