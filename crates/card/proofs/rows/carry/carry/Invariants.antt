-- `card::rows::carry::carry` meets its contract. The loop's invariant, `Carrying`: what the letters read so far make of every state within
-- the union.
use Rattle.card.proofs.Carries.{Carrying}
use Rattle.card.proofs.rows.carry.carry.Given as goal

abbrev pub invariant-loop-i : goal.invariant-loop-i
invariant-loop-i l = Carrying l.pattern l.live l.variant l.i l.d l.finished
