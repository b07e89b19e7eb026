-- `eds_notation::braced::put_segment` meets its contract. The loop's invariant, `Showing`: the variants before this one are put.
use Rattle.eds_notation.proofs.Shows.{Showing}
use Rattle.eds_notation.proofs.braced.put_segment.Given as goal

abbrev pub invariant-loop-variant : goal.invariant-loop-variant
invariant-loop-variant l =
    Showing l.stretch l.segment l.initial.out l.at l.out l.next l.mark l.variant
