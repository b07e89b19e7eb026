-- `search::entry::enter` meets its contract: each refusal is a law of `entering`, from the answer that led to it.
use Rattle.std.proofs.Common.{◌≡◌, Err, sym, ap, ◌∙◌, rules}
use Rattle.text.specs.Refusal.{outcome, SoundPattern}
use Rattle.text.proofs.Patterns.{pattern-sound}
use Rattle.layout.proofs.Frames.{fits-met}
use Rattle.search.proofs.Entries.{entering-pattern, entering-long, entering-wrong, entering-sound}
use Rattle.search.proofs.entry.enter.Goals as goal
use Rattle.search.proofs.entry.enter.Goals.{In_ok-check}

-- the pattern was found sound
sound : (c : In_ok-check) → SoundPattern c.args.pattern.now
sound c = pattern-sound _ (sym c.check.ensures ∙ ap outcome c.in_ok-check.was)

pub returns-in_err-check : goal.returns-in_err-check
returns-in_err-check c =
    let same : c.from_residual.result ≡ Err c.in_err-check.field-0.0 = search rules in
    rw same (sym (entering-pattern _ _ _ _ _ (sym c.check.ensures ∙ ap outcome c.in_err-check.was) _))

pub returns-in_err-fits : goal.returns-in_err-fits
returns-in_err-fits c =
    let same : c.from_residual-in_err-fits.result ≡ Err c.in_err-fits.field-0.0 = search rules in
    rw same (sym (entering-long _ _ _ (sound (goal.at.returns-in_err-fits c).In_ok-check) c.fits.ensures c.in_err-fits.was _))

pub returns-then-not-is_state : goal.returns-then-not-is_state
returns-then-not-is_state c =
    let wrong = sym c.is_state.ensures ∙ c.if-not-is_state.true in
    sym (entering-wrong _ _ _ (sound (goal.at.returns-then-not-is_state c).In_ok-check) (fits-met _ c.fits.ensures c.in_ok-fits.was) wrong _)

pub returns : goal.returns
returns c =
    let state = sym c.is_state.ensures ∙ c.if-not-is_state.false in
    let short = fits-met _ c.fits.ensures c.in_ok-fits.was in
    sym (entering-sound _ _ _ (record { sound = sound (goal.at.returns c).In_ok-check; short = short; state = state }) _)
