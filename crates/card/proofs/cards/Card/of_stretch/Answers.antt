-- `card::Card::of_stretch` meets its contract, by what `check`, `is_short`, `read_on` and `over` ensure.
use native.Mathlib.Omega.{arith}
use Rattle.std.proofs.Common.{◌≡◌, Err, sym, ap, ◌∙◌, rules}
use Rattle.text.specs.Refusal.{outcome, SoundPattern}
use Rattle.text.proofs.Patterns.{pattern-sound}
use Rattle.search.proofs.ReadOns.{read_length, read-room}
use Rattle.card.specs.Answers.{held}
use Rattle.card.proofs.Strands.{carding-on-wrong, carding-long}
use Rattle.card.proofs.Making.{of-refused, of-made}
use Rattle.card.proofs.cards.Card.of_stretch.Goals as goal
use Rattle.card.proofs.cards.Card.of_stretch.Goals.{In_ok-check}

-- the pattern was found sound
sound : (c : In_ok-check) → SoundPattern c.args.pattern.now
sound c = pattern-sound _ (sym c.check.ensures ∙ ap outcome c.in_ok-check.was)

pub returns-in_err-check : goal.returns-in_err-check
returns-in_err-check c =
    let same : c.from_residual.result ≡ Err c.in_err-check.field-0.0 = search rules in
    let wrong = sym c.check.ensures ∙ ap outcome c.in_err-check.was in
    same ∙ ap held (sym (carding-on-wrong _ _ _ _ _ wrong))

pub returns-then-not-is_short : goal.returns-then-not-is_short
returns-then-not-is_short c =
    let long = sym c.is_short.ensures ∙ c.if-not-is_short.true in
    ap held (sym (carding-long _ _ (sound (goal.at.returns-then-not-is_short c).In_ok-check) _ long))

pub slice_bounds-bytes-end : goal.slice_bounds-bytes-end
slice_bounds-bytes-end c = read-room _ _ _ c.read_on-bytes.ensures (sound (goal.at.slice_bounds-bytes-end c).In_ok-check)

pub slice_bounds-over-end : goal.slice_bounds-over-end
slice_bounds-over-end c = read_length _ _ _ c.read_on-bytes.ensures (sound (goal.at.slice_bounds-over-end c).In_ok-check)

pub overflow_cast-result : goal.overflow_cast-result
overflow_cast-result c = let short = (sound (goal.at.overflow_cast-result c).In_ok-check).short in record { fits = omega arith }

pub returns-in_err-segments : goal.returns-in_err-segments
returns-in_err-segments c =
    let same : c.from_residual-in_err-segments.result ≡ Err c.in_err-segments.field-0.0 = search rules in
    same ∙ of-refused _ _ _ c.read_on-bytes.ensures (sound (goal.at.returns-in_err-segments c).In_ok-check) _ _ c.over.ensures _ c.in_err-segments.was

pub returns : goal.returns
returns c = of-made _ _ _ c.read_on-bytes.ensures (sound (goal.at.returns c).In_ok-check) _ _ c.over.ensures _ c.in_ok-segments.was
