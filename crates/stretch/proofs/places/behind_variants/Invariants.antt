-- `stretch::places::behind_variants` meets its contract. The loop's invariant, `Stepping`: i of the k steps are done. A step never
-- goes back, so each place lies before the last one, which lies in the bytes.
use Rattle.layout.specs.Pieces.{next_of}
use Rattle.layout.proofs.Skips.{Stepping}
use Rattle.stretch.proofs.places.behind_variants.Given as goal

abbrev pub invariant-loop : goal.invariant-loop
invariant-loop l = Stepping (next_of l.stretch) l.k l.first l.counter l.at
