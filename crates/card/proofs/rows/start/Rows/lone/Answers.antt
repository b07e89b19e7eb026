use Rattle.std.proofs.Common.{ℕ, List, ap}
use lib.ListN.{replicate}
use Rattle.text.specs.Card.{none}
use Rattle.card.proofs.Lones.{loning-none, loning-more, loning-all}
use Rattle.card.proofs.rows.start.Rows.lone.Goals as goal

pub loop-q-init : goal.loop-q-init
loop-q-init c = loning-none _

pub loop-q-preserved : goal.loop-q-preserved
loop-q-preserved c = loning-more _ _ _ c.loop-q.invariant _ c.min-q-end.ensures c.loop-q-test.true

pub returns : goal.returns
returns c = ap (λ (es : List ℕ). record { exits = es; firsts = replicate 64 none }) (loning-all _ _ _ c.loop-q.invariant _ c.min-q-end.ensures c.loop-q-test.false)
