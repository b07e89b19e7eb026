-- `text::spelling::is_wrong` meets its contract: the rule of one byte.
use native.Mathlib.Omega.{arith}
use Rattle.text.proofs.Blocks.{wrong_byte}
use Rattle.text.proofs.spelling.is_wrong.Goals as goal

pub returns : goal.returns
returns c = wrong_byte _ (omega arith)
