-- `card::Card::is_well_formed` meets its contract: each answer is a law of `well_formed`, from the tests that led to it.
use Rattle.card.specs.Cards.{is_padded}
use Rattle.card.proofs.Formed.{formed-long, formed-wrong, formed-many, formed-rows}
use borrow.Author.Rules.{rules}
use mathlib.Core.Path.{◌≡◌, sym, ◌∙◌}
use mathlib.Core.Bool.{true}
use Rattle.card.proofs.cards.Card.is_well_formed.Goals as goal
use Rattle.card.proofs.cards.Card.is_well_formed.Goals.{Else-not-is_padded}

-- the pattern was found padded
padded : (c : Else-not-is_padded)
    → let card = c.args.self.now in
    is_padded card.pattern card.m ≡ true
padded c = sym c.is_padded.ensures ∙ c.if-not-is_padded.false

pub returns-then-self-gt-GREATEST_PATTERN : goal.returns-then-self-gt-GREATEST_PATTERN
returns-then-self-gt-GREATEST_PATTERN c = formed-long _ c.if-self-gt-GREATEST_PATTERN.true

pub returns-then-not-is_padded : goal.returns-then-not-is_padded
returns-then-not-is_padded c = formed-wrong _ (sym c.is_padded.ensures ∙ c.if-not-is_padded.true)

pub returns-then-self-gt-MOST_SEGMENTS : goal.returns-then-self-gt-MOST_SEGMENTS
returns-then-self-gt-MOST_SEGMENTS c =
    formed-many _ (padded (goal.at.returns-then-self-gt-MOST_SEGMENTS c).Else-not-is_padded) c.if-self-gt-MOST_SEGMENTS.true

pub returns : goal.returns
returns c =
    c.are_rows.ensures
    ∙ formed-rows _ (padded (goal.at.returns c).Else-not-is_padded) c.if-self-gt-MOST_SEGMENTS.false
    (record { states = search rules; ends = search rules })
