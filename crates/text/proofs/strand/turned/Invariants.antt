-- `text::strand::turned` meets its contract. The loop's invariant, `Padding`: the first i bytes of the opposite are written. The measure is
-- the number of bytes left.
use Rattle.text.specs.Strand.{opposite}
use Rattle.text.proofs.Padding.{Padding}
use Rattle.text.proofs.strand.turned.Given as goal

abbrev pub invariant-loop-i : goal.invariant-loop-i
invariant-loop-i l = Padding (opposite l.part) l.bytes l.i
