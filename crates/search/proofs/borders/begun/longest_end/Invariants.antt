-- `search::borders::begun::longest_end` meets its contract. The loop's invariant, `Ending`: no length above k ends the variant. No bases
-- always do, so k is not 0 where the next one down is asked; it is the measure.
use Rattle.text.specs.Letter.{meant}
use Rattle.search.proofs.BorderEnds.{Ending}
use Rattle.search.proofs.borders.begun.longest_end.Given as goal

abbrev pub invariant-loop-k : goal.invariant-loop-k
invariant-loop-k l = Ending l.pattern (meant l.variant) l.k

abbrev pub decreases-loop-k : goal.decreases-loop-k
decreases-loop-k l = l.k
