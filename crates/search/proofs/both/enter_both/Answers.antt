-- `search::both::enter_both` meets its contract: what `enter` asks of the strand as given, then the state of the opposite one.
use Rattle.std.proofs.Common.{◌≡◌, Err, sym, ap, ◌∙◌, rules}
use Rattle.text.specs.Refusal.{outcome}
use Rattle.search.proofs.Entries.{Entered, entered}
use Rattle.search.proofs.Eithers.{both-refused, both-wrong, both-sound}
use Rattle.search.proofs.both.enter_both.Goals as goal
use Rattle.search.proofs.both.enter_both.Goals.{In_ok-enter}

-- nothing is wrong of the strand as given
entry : (c : In_ok-enter)
    → Entered c.args.pattern.now c.args.state.given c.args.bytes.now
entry c = entered _ _ _ (sym c.enter.ensures ∙ ap outcome c.in_ok-enter.was)

pub returns-in_err-enter : goal.returns-in_err-enter
returns-in_err-enter c =
    let same : c.from_residual.result ≡ Err c.in_err-enter.field-0.0 = search rules in
    rw same (sym (both-refused _ _ _ _ _ _ (sym c.enter.ensures ∙ ap outcome c.in_err-enter.was) _))

pub returns-then-not-is_state : goal.returns-then-not-is_state
returns-then-not-is_state c =
    sym (both-wrong _ _ _ _ (entry (goal.at.returns-then-not-is_state c).In_ok-enter) (sym c.is_state.ensures ∙ c.if-not-is_state.true) _)

pub returns : goal.returns
returns c =
    sym (both-sound _ _ _ _ (entry (goal.at.returns c).In_ok-enter) (sym c.is_state.ensures ∙ c.if-not-is_state.false) _)
