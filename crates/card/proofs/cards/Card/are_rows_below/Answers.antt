use borrow.Author.Rules.{rules}
use native.Mathlib.Omega.{arith}
use mathlib.Core.Path.{ap, ◌∙◌}
use Rattle.text.specs.Card.{is_row}
use Rattle.card.proofs.Formed.{tested-none, tested-more, tested-all}
use Rattle.card.proofs.cards.Card.are_rows_below.Goals as goal

pub loop-q-init : goal.loop-q-init
loop-q-init c = tested-none _ _ _ _ _ (omega arith)

pub loop-q-preserved : goal.loop-q-preserved
loop-q-preserved c =
    tested-more _ _ _ _ (record { states = search rules; ends = search rules }) _ _ _ _ _ c.loop-q.invariant c.requires c.loop-q-test.true
    (c.is_live-right.ensures _ c.low-all.ensures c.loop-q-test.true ∙ ap (is_row _ _ c.loop-q.q) c.row.ensures)

pub returns : goal.returns
returns c = tested-all _ _ _ _ _ _ _ c.loop-q.invariant c.loop-q-test.false
