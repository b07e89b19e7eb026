-- `card::Card::are_rows` meets its contract: the rows below m and those from m up are all of them.
use borrow.Author.Rules.{rules}
use Rattle.card.proofs.Formed.{tested-both}
use Rattle.card.proofs.cards.Card.are_rows.Goals as goal

pub returns : goal.returns
returns c =
    let behind = c.are_rows_behind.ensures c.args.self.now.segments in
    tested-both _ _ _ _ (record { states = search rules; ends = search rules }) _ _ c.are_rows_below.ensures behind
