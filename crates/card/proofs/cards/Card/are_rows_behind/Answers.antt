use borrow.Author.Rules.{rules}
use native.Mathlib.Omega.{arith}
use mathlib.Core.Path.{ap, ◌∙◌}
use Rattle.text.specs.Card.{is_row}
use Rattle.card.proofs.Formed.{tested-none, tested-more, tested-all}
use Rattle.card.proofs.cards.Card.are_rows_behind.Goals as goal

pub loop-q-init : goal.loop-q-init
loop-q-init c n = tested-none _ _ _ _ _ (omega arith)

pub loop-q-preserved : goal.loop-q-preserved
loop-q-preserved c n =
    let h = c.loop-q.invariant n in
    let right = c.is_idle-right.ensures _ n c.loop-q.q h.past ∙ ap (is_row _ n c.loop-q.q) c.row.ensures in
    tested-more _ _ _ _ (record { states = search rules; ends = search rules }) _ _ _ _ _ h (omega arith) c.loop-q-test.true right

pub returns : goal.returns
returns c n = tested-all _ _ _ _ _ _ _ (c.loop-q.invariant n) c.loop-q-test.false
