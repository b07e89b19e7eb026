-- `card::rows::Rows::settle` meets its contract. The loop's invariant, `Settling`: the rows before q are settled.
use Rattle.card.specs.Held.{rows_in}
use Rattle.card.proofs.RowSteps.{Settling}
use Rattle.card.proofs.rows.start.Rows.settle.Given as goal

abbrev pub invariant-loop-q : goal.invariant-loop-q
invariant-loop-q l =
    Settling l.m l.finished l.k l.next (rows_in l.initial.self.exits l.initial.self.firsts) l.self.exits l.self.firsts l.live l.q
