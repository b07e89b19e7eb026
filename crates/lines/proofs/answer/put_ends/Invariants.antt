-- `lines::answer::put_ends` meets its contract. The loop's invariant, `Ending`: the lines of the marked segments before k are put. The
-- measure is the number of marks left.
use Rattle.lines.proofs.Marked.{Ending}
use Rattle.lines.proofs.answer.put_ends.Given as goal

abbrev pub invariant-loop-k : goal.invariant-loop-k
invariant-loop-k l = Ending l.marks l.initial.out l.at l.out l.next l.k
