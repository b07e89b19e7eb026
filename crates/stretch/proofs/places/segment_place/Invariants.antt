-- `stretch::places::segment_place` meets its contract, by the same invariant as `behind_variants`: i of the k segments are stepped over.
use Rattle.layout.specs.Skips.{behind_segment}
use Rattle.layout.proofs.Skips.{Stepping}
use Rattle.stretch.proofs.places.segment_place.Given as goal

abbrev pub invariant-loop : goal.invariant-loop
invariant-loop l = Stepping (behind_segment l.stretch) l.k 2 l.counter l.at
