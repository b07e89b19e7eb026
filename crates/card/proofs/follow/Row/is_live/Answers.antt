-- `card::follow::Row::is_live` meets its contract: the rule of a row below m.
use borrow.Author.Rules.{rules}
use Rattle.card.proofs.Formed.{row_below}
use Rattle.card.proofs.follow.Row.is_live.Goals as goal

pub returns : goal.returns
returns c m all l = row_below _ _ _ _ _ _ l all (search rules)
