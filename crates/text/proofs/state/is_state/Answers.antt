-- `text::state::is_state` meets its contract, by bit 0 and by what `within` ensures.
use mathlib.Core.Path.{sym, ◌∙◌}
use Rattle.text.proofs.States.{state-even, state-odd}
use Rattle.text.proofs.state.is_state.Goals as goal

pub returns-then-bits-eq0 : goal.returns-then-bits-eq0
returns-then-bits-eq0 c = sym (state-even _ _ c.if-bits-eq0.true)

pub returns : goal.returns
returns c = c.within.ensures ∙ sym (state-odd _ _ c.if-bits-eq0.false)
