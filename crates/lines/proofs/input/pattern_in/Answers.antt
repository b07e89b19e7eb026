-- `lines::input::pattern_in` meets its contract, whether there is no input, a part of the pattern or all of it.
use Rattle.lines.proofs.Inputs.{none-pattern, cut-pattern, whole-pattern}
use Rattle.lines.proofs.input.pattern_in.Goals as goal

pub returns-then-input-eq0 : goal.returns-then-input-eq0
returns-then-input-eq0 c = none-pattern _ c.if-input-eq0.true

pub returns-then-input-end : goal.returns-then-input-end
returns-then-input-end c = cut-pattern _ _ c.announced-end.ensures.0 c.if-input-end.true

pub returns : goal.returns
returns c = whole-pattern _ _ c.announced-end.ensures.0
