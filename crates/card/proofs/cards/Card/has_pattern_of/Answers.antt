-- `card::Card::has_pattern_of` meets its contract, by what `same` ensures.
use borrow.Author.Tests.{ne_eqb}
use mathlib.Core.Path.{◌∙◌}
use Rattle.text.proofs.Library.{pointwise-same}
use Rattle.card.specs.Cards.{card_in}
use Rattle.card.proofs.Answered.{sizes-differ, sizes-same}
use Rattle.card.proofs.cards.Card.has_pattern_of.Goals as goal

pub returns-then-self-other : goal.returns-then-self-other
returns-then-self-other c =
    c.eq.ensures ∙ pointwise-same _ _ ∙ sizes-same (card_in c.args.self.now) (card_in c.args.other.now) c.if-self-other.true

pub returns-else-self-other : goal.returns-else-self-other
returns-else-self-other c =
    rw (ne_eqb c.args.self.now.m c.args.other.now.m c.if-self-other.false)
    (sizes-differ (card_in c.args.self.now) (card_in c.args.other.now) c.if-self-other.false)
