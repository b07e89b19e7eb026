-- `text::from_end::alike_from_end` meets its contract. The loop's invariant, `SameFrom`: the letters from i on mean the same. The measure
-- is the number of letters before i.
use Rattle.text.specs.Letter.{meant}
use Rattle.text.specs.FromEnd.{SameFrom}
use Rattle.text.proofs.from_end.alike_from_end.Given as goal

abbrev pub invariant-loop-i : goal.invariant-loop-i
invariant-loop-i l = SameFrom (meant l.a) (meant l.b) l.i
