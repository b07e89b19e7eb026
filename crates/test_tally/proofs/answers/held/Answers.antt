-- `test_tally::held` meets its contract: two buffers are the same list exactly when the definition's test says so.
use Rattle.std.proofs.Common.{◌∙◌}
use Rattle.test_tally.proofs.Answering.{held_same, held-other}
use Rattle.test_tally.proofs.answers.held.Goals as goal

pub returns-then-same : goal.returns-then-same
returns-then-same c = held_same _ _ _ _ c.same.ensures c.if-same.true

pub returns : goal.returns
returns c = c.refused.ensures ∙ held-other _ _ _ _ c.same.ensures c.if-same.false
