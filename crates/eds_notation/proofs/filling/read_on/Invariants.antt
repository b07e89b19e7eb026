-- `eds_notation::filling::read_on` meets its contract. The loop's invariant, `Reaching`: the rest of the piece comes to what the whole comes
-- to.
use Rattle.eds_notation.specs.Filling.{buffers}
use Rattle.eds_notation.proofs.Fillings.{Reaching}
use Rattle.eds_notation.proofs.filling.read_on.Given as goal

abbrev pub invariant-loop-at : goal.invariant-loop-at
invariant-loop-at l =
    Reaching l.initial.done l.piece l.fn.from (buffers l.initial.letters l.initial.lengths l.initial.counts) l.done l.at
    (buffers l.letters l.lengths l.counts)
