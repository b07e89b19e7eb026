-- `card::Card::join` meets its contract: what comes of the two cards is told.
use mathlib.Core.Path.{ap, ◌∙◌}
use Rattle.text.specs.Card.{join}
use Rattle.card.specs.Cards.{card_in}
use Rattle.card.specs.Answers.{made_of}
use Rattle.card.proofs.Answered.{made-held}
use Rattle.card.proofs.cards.Card.join.Goals as goal

pub returns : goal.returns
returns c = c.from.ensures ∙ ap made_of c.joined_on.ensures ∙ made-held (join (card_in c.args.self) (card_in c.args.right))
