-- `card::Card::are_rows_below` meets its contract. The loop's invariant, `Tested`: `sound` is the test of the rows below q.
use Rattle.card.specs.Held.{rows_in}
use Rattle.card.proofs.Formed.{Tested}
use Rattle.card.proofs.cards.Card.are_rows_below.Given as goal

abbrev pub invariant-loop-q : goal.invariant-loop-q
invariant-loop-q l = Tested l.self.m l.self.segments (rows_in l.self.exits l.self.firsts) 0 l.self.m l.q l.sound
