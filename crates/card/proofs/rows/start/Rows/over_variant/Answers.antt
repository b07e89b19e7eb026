-- `card::rows::Rows::over_variant` meets its contract: what `carry` tells of every state within the union, and what `spread` does with it.
use borrow.Author.Rules.{rules}
use Rattle.card.proofs.RowSteps.{passed-spread, passed_none, passed-short}
use Rattle.card.proofs.rows.start.Rows.over_variant.Goals as goal

pub spread-requires : goal.spread-requires
spread-requires c =
    let few = passed-short _ _ _ _ c.args.next.now _ _ c.requires.1 c.carry-moved.ensures c.if-moved-ne0.true in
    (c.requires.0.bases.short, few)

pub returns-then-moved-ne0 : goal.returns-then-moved-ne0
returns-then-moved-ne0 c =
    passed-spread _ _ _ _ _ _ _ c.requires.1 c.carry-moved.ensures _ c.spread.ensures

pub returns-else-moved-ne0 : goal.returns-else-moved-ne0
returns-else-moved-ne0 c =
    passed_none _ _ _ _ _ _ _ c.requires.1 c.carry-moved.ensures (search rules) c.if-moved-ne0.false
