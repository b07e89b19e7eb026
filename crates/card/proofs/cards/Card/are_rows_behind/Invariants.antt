-- `card::Card::are_rows_behind` meets its contract. The loop's invariant, `Tested`: whatever the number of segments, `sound` is the test of
-- the rows from m up to q.
use Prim.Native.Nat.{ℕ}
use Rattle.card.specs.Held.{rows_in}
use Rattle.card.proofs.Formed.{Tested}
use Rattle.card.proofs.cards.Card.are_rows_behind.Given as goal

abbrev pub invariant-loop-q : goal.invariant-loop-q
invariant-loop-q l = (n : ℕ) → Tested l.self.m n (rows_in l.self.exits l.self.firsts) l.self.m 64 l.q l.sound
