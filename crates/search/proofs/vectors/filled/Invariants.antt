-- `search::vectors::filled` meets its contract. The loop's invariant, `Filling`: the first k bases are entered.
-- After it the five entries of lower case are copied.
use mathlib.Core.Path.{◌≡◌}
use lib.ListN.{length}
use Rattle.search.specs.Masks.{bases}
use Rattle.search.proofs.BitScans.{Filling}
use Rattle.search.proofs.vectors.filled.Given as goal

abbrev pub invariant-loop-k : goal.invariant-loop-k
invariant-loop-k l = (l.m ≡ length (bases l.pattern)) × Filling l.blank (bases l.pattern) l.table l.k
