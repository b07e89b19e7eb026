-- `desk_verdict::marked::next_marked` meets its contract. The loop's invariant, `Passing`: no segment before j is marked.
use Rattle.desk_verdict.proofs.NextMarked.{Passing}
use Rattle.desk_verdict.proofs.marked.next_marked.Given as goal

abbrev pub invariant-loop-j : goal.invariant-loop-j
invariant-loop-j l = Passing l.marks l.from l.j
