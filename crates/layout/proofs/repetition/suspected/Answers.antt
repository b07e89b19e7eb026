-- `layout::repetition::suspected` meets its contract, from what `print` ensures.
use Rattle.std.proofs.Common.{ℕ, not, eqb, ap}
use lib.Bits.{bit_and}
use Rattle.layout.specs.Prints.{suspected_at}
use Rattle.layout.proofs.repetition.suspected.Goals as goal

pub returns : goal.returns
unfolding suspected_at
returns c = ap (λ (x : ℕ). not (eqb (bit_and c.args.prints x) 0)) c.print.ensures
