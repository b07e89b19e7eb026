-- `writer::sums::sums_to` meets its contract. The loop's invariant, `Summing`: what is left of the target and the numbers still to
-- come say whether the sum is the target.
use Rattle.writer.proofs.Totals.{Summing}
use Rattle.writer.proofs.sums.sums_to.Given as goal

abbrev pub invariant-loop-number : goal.invariant-loop-number
invariant-loop-number g l = Summing g.T.Stated.value l.numbers l.target l.number-index l.left
