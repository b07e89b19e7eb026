use Prim.Native.Nat.{◌≤◌}
use native.Mathlib.Omega.{arith}
use mathlib.Core.Path.{◌≡◌, sym, ◌∙◌}
use borrow.Author.Tests.{not-true, not-false}
use lib.ListN.{get_or}
use mathlib.Core.Bool.{true}
use Rattle.vcf.specs.Records.{digit}
use Rattle.vcf.proofs.Digits.{digits-none, digits-range, digits-wrong, digits_long, digits_more, digits-end, stated-none, stated-some}
use Rattle.vcf.proofs.records.position.position.Goals as goal
use Rattle.vcf.proofs.records.position.position.Goals.{After-wide}

right : (w : After-wide) → digit (get_or w.args.field.now w.loop-byte.byte-index 0)
    ≡ true
right w = sym w.is_digit.ensures ∙ not-false _ w.if-not-is_digit.false-raw

range : (w : After-wide) → (48 ≤ w.wide.result) × (w.wide.result ≤ 57)
range w = digits-range w.loop-byte.invariant w.loop-byte-test.true (right w) _ w.wide.ensures.0

pub loop-byte-init : goal.loop-byte-init
loop-byte-init c = digits-none _

pub returns-then-not-is_digit : goal.returns-then-not-is_digit
returns-then-not-is_digit c =
    stated-none (digits-wrong c.loop-byte.invariant c.loop-byte-test.true (sym c.is_digit.ensures ∙ not-true _ c.if-not-is_digit.true-raw))

pub overflow_sub-n : goal.overflow_sub-n
overflow_sub-n c = omega (arith, range (goal.at.overflow_sub-n c).After-wide)

pub overflow_add-n : goal.overflow_add-n
overflow_add-n c = omega (arith, range (goal.at.overflow_add-n c).After-wide)

pub returns-then-n-gt-LAST : goal.returns-then-n-gt-LAST
returns-then-n-gt-LAST c =
    stated-none (digits_long c.loop-byte.invariant c.loop-byte-test.true (right (goal.at.returns-then-n-gt-LAST c).After-wide) _ c.wide.ensures.0 c.if-n-gt-LAST.true)

pub loop-byte-preserved : goal.loop-byte-preserved
loop-byte-preserved c =
    digits_more c.loop-byte.invariant c.loop-byte-test.true (right (goal.at.loop-byte-preserved c).After-wide) _ c.wide.ensures.0 c.if-n-gt-LAST.false

pub returns-then-n-eq0 : goal.returns-then-n-eq0
returns-then-n-eq0 c = stated-none (digits-end c.loop-byte.invariant c.loop-byte-test.false ∙ c.if-n-eq0.true)

pub returns : goal.returns
returns c = stated-some (digits-end c.loop-byte.invariant c.loop-byte-test.false) c.if-n-eq0.false
