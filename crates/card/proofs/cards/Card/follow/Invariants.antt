-- `card::Card::follow` meets its contract. The loop's invariant, `Following`: the bits below q are followed. The measure is what is
-- left of the state.
use Rattle.card.proofs.Follows.{Following}
use Rattle.card.proofs.cards.Card.follow.Given as goal

abbrev pub invariant-loop-rest : goal.invariant-loop-rest
invariant-loop-rest l = Following l.self.exits l.self.firsts l.state l.exit l.first l.rest l.q

abbrev pub decreases-loop-rest : goal.decreases-loop-rest
decreases-loop-rest l = l.rest
