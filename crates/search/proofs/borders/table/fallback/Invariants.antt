-- `search::borders::table::fallback` meets its contract. The loop's invariant, `Falls`: whatever ends after q ends after k. Each
-- turn goes to the border of q, which is shorter, so the measure is q.
use Rattle.search.proofs.BorderFalls.{Falls}
use Rattle.search.proofs.borders.table.fallback.Given as goal

abbrev pub invariant-loop-q : goal.invariant-loop-q
invariant-loop-q l = Falls l.pattern l.letter l.k l.q

abbrev pub decreases-loop-q : goal.decreases-loop-q
decreases-loop-q l = l.q
