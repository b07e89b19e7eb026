-- `card::Card::of` meets its contract: what comes of the stretch is told.
use mathlib.Core.Path.{ap, ◌∙◌}
use Rattle.card.specs.Answers.{carding_on, made_of}
use Rattle.card.proofs.Answered.{made-held}
use Rattle.card.proofs.cards.Card.of.Goals as goal

pub returns : goal.returns
returns c = c.from.ensures ∙ ap made_of c.of_stretch.ensures ∙ made-held (carding_on c.args.pattern.now c.args.strand c.args.stretch.now)
