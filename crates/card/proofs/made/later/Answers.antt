-- `card::made::later` meets its contract: the sum, where it is below "none".
use borrow.Author.Rules.{rules}
use Rattle.text.specs.Card.{later}
use Rattle.card.proofs.made.later.Goals as goal

pub returns-then-first-room : goal.returns-then-first-room
unfolding later
returns-then-first-room c = search rules

pub returns-else-first-room : goal.returns-else-first-room
unfolding later
returns-else-first-room c = search rules
