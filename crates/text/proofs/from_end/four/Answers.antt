-- `text::from_end::four` meets its contract, by halves.
use native.Mathlib.Omega.{arith}
use Rattle.text.specs.FromEnd.{four}
use Rattle.text.proofs.from_end.four.Goals as goal

pub returns : goal.returns
unfolding four
returns c = (omega arith, omega arith)
