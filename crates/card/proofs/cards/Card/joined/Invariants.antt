-- `card::Card::joined` meets its contract. The loop's invariant, `Changing`: the rows below q have gone on through the right card's rows.
use Rattle.text.specs.Card.{through}
use Rattle.card.specs.Held.{rows_in}
use Rattle.card.proofs.Joins.{Changing}
use Rattle.card.proofs.cards.Card.joined.Given as goal

abbrev pub invariant-loop-q : goal.invariant-loop-q
invariant-loop-q l =
    Changing (through 64 l.self.segments (rows_in l.right.exits l.right.firsts)) (rows_in l.self.exits l.self.firsts) l.exits l.firsts l.q
