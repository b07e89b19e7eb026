-- `lines::input::announced` meets its contract: the first byte, or 0.
use native.Mathlib.Omega.{arith}
use Rattle.lines.specs.Input.{announced}
use Rattle.lines.proofs.Inputs.{none-announced}
use borrow.Author.Rules.{rules}
use Rattle.lines.proofs.input.announced.Goals as goal

pub returns-then-input-eq0 : goal.returns-then-input-eq0
returns-then-input-eq0 c = (none-announced _ c.if-input-eq0.true, omega arith)

pub returns : goal.returns
unfolding announced
returns c = search rules
