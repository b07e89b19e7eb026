use native.Mathlib.Omega.{arith}
use mathlib.Core.Path.{◌∙◌}
use Rattle.desk_list.proofs.Values.{telling-none, telling-large, telling-more, telling-end}
use Rattle.desk_list.proofs.decimal.told.Goals as goal

pub loop-digit-init : goal.loop-digit-init
loop-digit-init c = telling-none _

pub loop-digit-preserved : goal.loop-digit-preserved
loop-digit-preserved c =
    let d = c.from.ensures in
    let p = c.in_ok-checked_mul.ensures in
    let s = c.in_ok-n.ensures in
    telling-more c.loop-digit.invariant c.loop-digit-test.true (omega (arith, d, p, s)) (omega (arith, d, p, s))

pub returns-in_err-checked_mul : goal.returns-in_err-checked_mul
returns-in_err-checked_mul c =
    c.from_residual.ensures ∙ telling-large c.loop-digit.invariant c.loop-digit-test.true (omega (arith, c.in_err-checked_mul.ensures))

pub returns-in_err-n : goal.returns-in_err-n
returns-in_err-n c =
    let d = c.from.ensures in
    let p = c.in_ok-checked_mul.ensures in
    c.from_residual-in_err-n.ensures
    ∙ telling-large c.loop-digit.invariant c.loop-digit-test.true (omega (arith, d, p, c.in_err-n.ensures))

pub returns : goal.returns
returns c = telling-end c.loop-digit.invariant c.loop-digit-test.false
