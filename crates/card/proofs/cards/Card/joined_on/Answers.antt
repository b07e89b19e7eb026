-- `card::Card::joined_on` meets its contract: each answer is a law of `join`, from the tests that led to it.
use Rattle.std.proofs.Common.{◌≡◌, Ok, Err, sym, ap, ◌∙◌, true, rules}
use Rattle.text.specs.Refusal.{ok}
use Rattle.text.specs.Card.{same_pattern, join, joined}
use Rattle.text.proofs.Cards.Formed.{well}
use Rattle.card.specs.Cards.{card_in}
use Rattle.card.specs.Answers.{held}
use Rattle.card.proofs.Answered.{join-left-malformed, join-right-malformed, join-differ, join-long, join-fits}
use Rattle.card.proofs.cards.Card.joined_on.Goals as goal
use Rattle.card.proofs.cards.Card.joined_on.Goals.{Else-not-has_pattern_of, Else-self-right}

-- both cards are of one pattern, and can be joined
alike : (c : Else-not-has_pattern_of)
    → same_pattern (card_in c.args.self.now) (card_in c.args.right.now) ≡ true
alike c = sym c.has_pattern_of.ensures ∙ c.if-not-has_pattern_of.false

fits : (c : Else-self-right)
    → join (card_in c.args.self.now) (card_in c.args.right.now) ≡ ok (joined (card_in c.args.self.now) (card_in c.args.right.now))
fits c =
    join-fits _ _ c.in_ok-check.ensures.0 c.in_ok-check-2.ensures.0 (alike (goal.at.Else-self-right c).Else-not-has_pattern_of) c.if-self-right.false

pub returns-in_err-check : goal.returns-in_err-check
returns-in_err-check c =
    let same : c.from_residual.result ≡ Err c.in_err-check.field-0.0 = search rules in
    let (malformed, wrong) = c.in_err-check.ensures.1 in
    same ∙ ap Err wrong ∙ ap held (sym (join-left-malformed _ _ malformed))

pub returns-in_err-check-2 : goal.returns-in_err-check-2
returns-in_err-check-2 c =
    let same : c.from_residual-in_err-check-2.result ≡ Err c.in_err-check-2.field-0.0 = search rules in
    let (malformed, wrong) = c.in_err-check-2.ensures.1 in
    same ∙ ap Err wrong ∙ ap held (sym (join-right-malformed _ _ c.in_ok-check.ensures.0 malformed))

pub returns-then-not-has_pattern_of : goal.returns-then-not-has_pattern_of
returns-then-not-has_pattern_of c =
    let wrong = sym c.has_pattern_of.ensures ∙ c.if-not-has_pattern_of.true in
    ap held (sym (join-differ _ _ c.in_ok-check.ensures.0 c.in_ok-check-2.ensures.0 wrong))

pub overflow_sub-self : goal.overflow_sub-self
overflow_sub-self c = ((well _).0 c.in_ok-check.ensures.0).count

pub returns-then-self-right : goal.returns-then-self-right
returns-then-self-right c =
    let pattern = alike (goal.at.returns-then-self-right c).Else-not-has_pattern_of in
    ap held (sym (join-long _ _ c.in_ok-check.ensures.0 c.in_ok-check-2.ensures.0 pattern c.if-self-right.true))

pub joined-requires : goal.joined-requires
joined-requires c = fits (goal.at.joined-requires c).Else-self-right

pub returns : goal.returns
returns c = ap Ok c.joined.ensures ∙ ap held (sym (fits (goal.at.returns c).Else-self-right))
