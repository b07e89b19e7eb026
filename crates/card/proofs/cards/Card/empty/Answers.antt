-- `card::Card::empty` meets its contract: what comes of no segments is told.
use mathlib.Core.Path.{ap, ◌∙◌}
use Rattle.card.specs.Answers.{empty_on, made_of}
use Rattle.card.proofs.Answered.{made-held}
use Rattle.card.proofs.cards.Card.empty.Goals as goal

pub returns : goal.returns
returns c = c.from.ensures ∙ ap made_of c.of_nothing.ensures ∙ made-held (empty_on c.args.pattern.now c.args.strand)
