-- `card::Card::of_nothing` meets its contract, by what `check`, `read_on` and `lone` ensure.
use native.Mathlib.Omega.{arith}
use Rattle.std.proofs.Common.{◌≡◌, Err, sym, ap, ◌∙◌, rules}
use Rattle.text.specs.Refusal.{outcome, SoundPattern}
use Rattle.text.proofs.Patterns.{pattern-sound}
use Rattle.card.specs.Answers.{held}
use Rattle.card.proofs.Strands.{empty-on-wrong}
use Rattle.card.proofs.Making.{nothing-made}
use Rattle.card.proofs.cards.Card.of_nothing.Goals as goal
use Rattle.card.proofs.cards.Card.of_nothing.Goals.{In_ok-check}

-- the pattern was found sound
sound : (c : In_ok-check) → SoundPattern c.args.pattern.now
sound c = pattern-sound _ (sym c.check.ensures ∙ ap outcome c.in_ok-check.was)

pub returns-in_err-check : goal.returns-in_err-check
returns-in_err-check c =
    let same : c.from_residual.result ≡ Err c.in_err-check.field-0.0 = search rules in
    let wrong = sym c.check.ensures ∙ ap outcome c.in_err-check.was in
    same ∙ ap held (sym (empty-on-wrong _ _ _ _ wrong))

pub overflow_cast-result : goal.overflow_cast-result
overflow_cast-result c = let short = (sound (goal.at.overflow_cast-result c).In_ok-check).short in record { fits = omega arith }

pub returns : goal.returns
returns c = nothing-made _ _ _ c.read_on.ensures (sound (goal.at.returns c).In_ok-check) _ c.lone.ensures
