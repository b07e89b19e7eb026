use borrow.Author.Rules.{rules}
use Rattle.card.proofs.Joins.{changing-none, changing-more, row-through, joined-fits, joined-held}
use Rattle.card.proofs.cards.Card.joined.Goals as goal

pub loop-q-init : goal.loop-q-init
loop-q-init c = changing-none _ _ _ (record { states = search rules; ends = search rules })

pub loop-q-preserved : goal.loop-q-preserved
loop-q-preserved c =
    let on = row-through _ _ _ _ _ _ _ c.follow-row.ensures c.later.ensures c.earlier.ensures in
    changing-more _ _ _ _ _ c.loop-q.invariant _ _ c.loop-q-test.true on

pub overflow_add-segments : goal.overflow_add-segments
overflow_add-segments c = record { fits = joined-fits _ _ c.requires }

pub returns : goal.returns
returns c =
    joined-held _ _ c.requires _ _ _ c.loop-q.invariant c.loop-q-test.false
