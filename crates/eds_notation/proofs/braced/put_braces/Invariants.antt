-- `eds_notation::braced::put_braces` meets its contract.
-- The loop's invariant, `Bracing`: the segments before this one are put.
use Rattle.eds_notation.proofs.Shows.{Bracing}
use Rattle.eds_notation.proofs.braced.put_braces.Given as goal

abbrev pub invariant-loop-segment : goal.invariant-loop-segment
invariant-loop-segment l = Bracing l.stretch l.segments l.initial.out l.out l.next l.segment
