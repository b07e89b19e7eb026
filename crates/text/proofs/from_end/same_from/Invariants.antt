-- `text::from_end::same_from` meets its contract. The loop's invariant, `SameFrom`: the bytes from i on are the same. The measure is
-- the number of bytes before i.
use Rattle.text.specs.FromEnd.{SameFrom}
use Rattle.text.proofs.from_end.same_from.Given as goal

abbrev pub invariant-loop-i : goal.invariant-loop-i
invariant-loop-i l = SameFrom l.a l.b l.i

abbrev pub decreases-loop-i : goal.decreases-loop-i
decreases-loop-i l = l.i
