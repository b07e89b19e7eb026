-- `card::rows::Rows::spread` meets its contract. The loop's invariant, `Spreading`: the rows before q have what the letters make of their
-- states.
use Rattle.card.proofs.RowSteps.{Spreading}
use Rattle.card.proofs.rows.start.Rows.spread.Given as goal

abbrev pub invariant-loop-q : goal.invariant-loop-q
invariant-loop-q l = Spreading l.len l.reached l.self.exits l.initial.next l.next l.q
