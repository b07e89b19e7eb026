-- `text::from_end::two` meets its contract: two bytes are a number below 65,536.
use native.Mathlib.Omega.{arith}
use Rattle.text.specs.FromEnd.{two}
use Rattle.text.proofs.from_end.two.Goals as goal

pub returns : goal.returns
unfolding two
returns c = (omega arith, omega arith)
