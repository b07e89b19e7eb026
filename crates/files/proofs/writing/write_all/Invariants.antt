-- The loop of `write_all`: the measure is the number of bytes left.
use Rattle.std.proofs.Common.{length}
use Rattle.files.proofs.writing.write_all.Given as goal

abbrev pub invariant-loop-rest : goal.invariant-loop-rest
invariant-loop-rest g l = Unit {0}

abbrev pub decreases-loop-rest : goal.decreases-loop-rest
decreases-loop-rest g l = length l.rest
