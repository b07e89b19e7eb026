-- `cerantuh::forms::searching::roomless` meets its contract: the pattern is asked, then the stretch, then 10.
use native.Mathlib.Omega.{arith}
use mathlib.Core.Path.{◌≡◌, sym, ap, ◌∙◌}
use Rattle.text.specs.Refusal.{ok, pattern, outcome}
use Rattle.stretch.specs.Answers.{told_checked}
use Rattle.cerantuh.specs.Forms.{coded}
use Rattle.cerantuh.proofs.Codes.{pattern-small, checking-small}
use Rattle.cerantuh.proofs.Rooms.{short-pattern, short-stretch, short-sound}
use Rattle.cerantuh.proofs.forms.searching.roomless.Goals as goal
use Rattle.cerantuh.proofs.forms.searching.roomless.Goals.{In_default}

-- the pattern was found sound
sound : (c : In_default) → pattern c.args.pattern.now (ok (tt {0})) ≡ ok tt
sound c = sym c.check.ensures ∙ ap outcome c.in_default.is

pub code-requires : goal.code-requires
code-requires c =
    let small = pattern-small _ _ _ (sym c.check.ensures ∙ ap outcome c.in-Err.is) in
    omega (arith, small)

pub code-requires-in-Refused : goal.code-requires-in-Refused
code-requires-in-Refused c =
    let small = checking-small _ _ _ (sym c.check-2.ensures ∙ ap told_checked c.in-Refused.is) in
    omega (arith, small)

pub returns-in-Err : goal.returns-in-Err
returns-in-Err c =
    let wrong = sym c.check.ensures ∙ ap outcome c.in-Err.is in
    c.code.ensures ∙ sym (ap coded (short-pattern _ _ 0 0 (omega arith) _ _ wrong))

pub returns-in-Refused : goal.returns-in-Refused
returns-in-Refused c =
    let wrong = sym c.check-2.ensures ∙ ap told_checked c.in-Refused.is in
    c.code-in-Refused.ensures ∙ sym (ap coded (short-stretch _ _ 0 0 (omega arith) (sound (goal.at.returns-in-Refused c).In_default) _ _ wrong))

pub returns-in-Sound : goal.returns-in-Sound
returns-in-Sound c =
    let good = sym c.check-2.ensures ∙ ap told_checked c.in-Sound.is in
    sym (ap coded (short-sound _ _ 0 0 (omega arith) (sound (goal.at.returns-in-Sound c).In_default) _ good))
