-- `lines::input::stretch_in` meets its contract, whether the input goes on after the pattern or not.
use Rattle.lines.proofs.Inputs.{no-stretch, whole-stretch}
use Rattle.lines.proofs.input.stretch_in.Goals as goal

pub returns-then-input-start : goal.returns-then-input-start
returns-then-input-start c = no-stretch _ _ c.announced-start.ensures.0 c.if-input-start.true

pub returns : goal.returns
returns c = whole-stretch _ _ c.announced-start.ensures.0
