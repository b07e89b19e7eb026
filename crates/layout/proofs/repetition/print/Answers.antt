-- `layout::repetition::print` meets its contract, from what `head` tells of the place.
use Rattle.std.proofs.Common.{ℕ, ◌+◌, ◌-◌, ◌*◌, ◌/◌, ◌%◌, ◌^◌, sym, ap, ◌∙◌, arith}
use Rattle.text.specs.Refusal.{outcome}
use Rattle.layout.proofs.Heads.{Whole, head-is, head-not}
use Rattle.layout.proofs.Prints.{print-lone, print-cut, print-whole}
use Rattle.layout.proofs.repetition.print.Goals as goal
use Rattle.layout.proofs.repetition.print.Goals.{In-Ok}

-- where the letters stand
found : (c : In-Ok)
    → Whole
    c.args.stretch.now
    c.args.at
    c.in-Ok.part.start
    c.in-Ok.part.next
found c = head-is _ _ _ _ (sym c.head.ensures ∙ ap outcome c.in-Ok.is)

pub returns-then-count-eq1 : goal.returns-then-count-eq1
returns-then-count-eq1 c = sym (print-lone _ _ _ c.if-count-eq1.true)

pub overflow_sub-letters : goal.overflow_sub-letters
overflow_sub-letters c = let w = found (goal.at.overflow_sub-letters c).In-Ok in omega (arith, w.starts, w.ends)

pub overflow_sub-part : goal.overflow_sub-part
overflow_sub-part c = let w = found (goal.at.overflow_sub-part c).In-Ok in omega (arith, w.starts, w.ends)

pub bounds-stretch-part : goal.bounds-stretch-part
bounds-stretch-part c = let w = found (goal.at.bounds-stretch-part c).In-Ok in omega (arith, w.starts, w.ends, w.inside)

pub returns-in-Err : goal.returns-in-Err
returns-in-Err c =
    let cut = head-not _ _ _ _ (sym c.head.ensures ∙ ap outcome c.in-Err.is) in
    sym (print-cut _ _ _ c.if-count-eq1.false cut)

pub returns-in-Ok : goal.returns-in-Ok
returns-in-Ok c =
    let n = c.in-Ok.part.next - c.in-Ok.part.start in
    ap (λ (x : ℕ). 1 * 2 ^ (n % 16 * 4 + x / 2 % 4) % 2 ^ 64) c.wide-last.ensures.0
    ∙ print-whole _ _ _ _ _ c.if-count-eq1.false (found (goal.at.returns-in-Ok c).In-Ok)
