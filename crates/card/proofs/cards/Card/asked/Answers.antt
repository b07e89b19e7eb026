-- `card::Card::asked` meets its contract: each answer is a law of `ask`, from the tests that led to it.
use Rattle.std.proofs.Common.{◌≡◌, Err, sym, ap, ◌∙◌, rules}
use Rattle.card.specs.Answers.{shown}
use Rattle.card.proofs.Answered.{ask-malformed, ask-wrong, ask-follow}
use Rattle.card.proofs.cards.Card.asked.Goals as goal

pub returns-in_err-check : goal.returns-in_err-check
returns-in_err-check c =
    let same : c.from_residual.result ≡ Err c.in_err-check.field-0.0 = search rules in
    let (malformed, wrong) = c.in_err-check.ensures.1 in
    ap shown (same ∙ ap Err wrong) ∙ ask-malformed _ _ malformed

pub returns-then-not-is_state : goal.returns-then-not-is_state
returns-then-not-is_state c = ask-wrong _ _ c.in_ok-check.ensures.0 (sym c.is_state.ensures ∙ c.if-not-is_state.true)

pub returns : goal.returns
returns c = ask-follow _ _ c.in_ok-check.ensures.0 _ (sym c.is_state.ensures ∙ c.if-not-is_state.false) c.follow.ensures
