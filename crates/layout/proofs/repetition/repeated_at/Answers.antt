-- `layout::repetition::repeated_at` meets its contract, from what `head` tells of the place and `repeated` of the letters there.
use Rattle.std.proofs.Common.{sym, ap, ◌∙◌, arith}
use Rattle.text.specs.Refusal.{outcome}
use Rattle.layout.proofs.Heads.{Whole, head-is, head-not}
use Rattle.layout.proofs.RepeatsInBytes.{repeats-at-cut, repeats-at-whole}
use Rattle.layout.proofs.repetition.repeated_at.Goals as goal
use Rattle.layout.proofs.repetition.repeated_at.Goals.{In-Ok}

-- where the letters stand
found : (c : In-Ok)
    → Whole
    c.args.stretch.now
    c.args.at
    c.in-Ok.part.start
    c.in-Ok.part.next
found c = head-is _ _ _ _ (sym c.head.ensures ∙ ap outcome c.in-Ok.is)

pub slice_bounds-repeated-count : goal.slice_bounds-repeated-count
slice_bounds-repeated-count c = let w = found (goal.at.slice_bounds-repeated-count c).In-Ok in omega (arith, w.starts, w.ends)

pub slice_bounds-repeated-start : goal.slice_bounds-repeated-start
slice_bounds-repeated-start c = let w = found (goal.at.slice_bounds-repeated-start c).In-Ok in omega (arith, w.starts, w.ends)

pub slice_bounds-repeated-end : goal.slice_bounds-repeated-end
slice_bounds-repeated-end c = let w = found (goal.at.slice_bounds-repeated-end c).In-Ok in omega (arith, w.ends, w.inside)

pub returns-in-Err : goal.returns-in-Err
returns-in-Err c = sym (repeats-at-cut _ _ _ (head-not _ _ _ _ (sym c.head.ensures ∙ ap outcome c.in-Err.is)))

pub returns-in-Ok : goal.returns-in-Ok
returns-in-Ok c = c.repeated.ensures ∙ repeats-at-whole _ _ _ _ _ (found (goal.at.returns-in-Ok c).In-Ok)
