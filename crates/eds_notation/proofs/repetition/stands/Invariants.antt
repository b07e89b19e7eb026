-- `eds_notation::repetition::stands` meets its contract. The loop's invariant, `Comparing`: the variant is equal to none of those before, and
-- is compared on from there.
use Rattle.eds_notation.proofs.Repeats.{Comparing}
use Rattle.eds_notation.proofs.repetition.stands.Given as goal

abbrev pub invariant-loop-length : goal.invariant-loop-length
invariant-loop-length l = Comparing l.letters l.lengths l.spelt l.start l.length-index
