-- `search::state::State::carried` meets its contract. Each answer is a law of the carried lengths, from the test on their number.
use borrow.Author.Rules.{rules}
use Rattle.search.proofs.CarriedLengths.{carried_none, carried_some}
use Rattle.search.proofs.state.State.carried.Goals as goal

pub returns-then-count-eq0 : goal.returns-then-count-eq0
returns-then-count-eq0 c = carried_none _ (search rules) c.if-count-eq0.true

pub returns : goal.returns
returns c = carried_some _ (search rules) c.if-count-eq0.false
