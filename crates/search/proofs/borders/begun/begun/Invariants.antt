-- `search::borders::begun::begun` meets its contract. The loop's invariant, `Chain`: the bits are the lengths from k up at which the
-- pattern's first bases end the variant. Each turn goes to the border of k, which is shorter, so the measure is k.
use Rattle.text.specs.Letter.{meant}
use Rattle.search.proofs.BorderChains.{Chain}
use Rattle.search.proofs.borders.begun.begun.Given as goal

abbrev pub invariant-loop-k : goal.invariant-loop-k
invariant-loop-k l = Chain l.pattern (meant l.variant) l.bits l.k

abbrev pub decreases-loop-k : goal.decreases-loop-k
decreases-loop-k l = l.k
