-- `search::borders::carried::carried` meets its contract. The loop's invariant, `Walk`: the carried lengths below q are gone through,
-- and `rest` is the state from bit q up. Each turn halves it, so it is the measure.
use Rattle.text.specs.Letter.{meant}
use Rattle.search.proofs.BorderWalks.{Walk}
use Rattle.search.proofs.borders.carried.carried.Given as goal

abbrev pub invariant-loop-rest : goal.invariant-loop-rest
invariant-loop-rest l = Walk l.pattern l.state (meant l.variant) l.bits l.ends l.rest l.q

abbrev pub decreases-loop-rest : goal.decreases-loop-rest
decreases-loop-rest l = l.rest
