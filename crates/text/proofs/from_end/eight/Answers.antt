-- `text::from_end::eight` meets its contract, by halves.
use native.Mathlib.Omega.{arith}
use Rattle.text.specs.FromEnd.{eight}
use Rattle.text.proofs.from_end.eight.Goals as goal

pub returns : goal.returns
unfolding eight
returns c = omega arith
