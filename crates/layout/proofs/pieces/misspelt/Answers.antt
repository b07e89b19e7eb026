-- `layout::pieces::misspelt` meets its contract, from what `head` and `first_wrong` ensure.
use Rattle.std.proofs.Common.{sym, ap, ◌∙◌, arith}
use Rattle.text.specs.Refusal.{outcome}
use Rattle.layout.proofs.Heads.{Whole, head-is}
use Rattle.layout.proofs.Verdicts.{misspelt-cut, misspelt-inside, misspelt-found}
use Rattle.layout.proofs.pieces.misspelt.Goals as goal
use Rattle.layout.proofs.pieces.misspelt.Goals.{In-Ok}

-- where the letters stand
found : (c : In-Ok)
    → Whole
    c.args.stretch.now
    c.args.at
    c.in-Ok.part.start
    c.in-Ok.part.next
found c = head-is _ _ _ _ (sym c.head.ensures ∙ ap outcome c.in-Ok.is)

pub slice_bounds-first_wrong-count : goal.slice_bounds-first_wrong-count
slice_bounds-first_wrong-count c = let w = found (goal.at.slice_bounds-first_wrong-count c).In-Ok in omega (arith, w.starts, w.ends)

pub slice_bounds-first_wrong-start : goal.slice_bounds-first_wrong-start
slice_bounds-first_wrong-start c = let w = found (goal.at.slice_bounds-first_wrong-start c).In-Ok in omega (arith, w.starts, w.ends)

pub slice_bounds-first_wrong-end : goal.slice_bounds-first_wrong-end
slice_bounds-first_wrong-end c = let w = found (goal.at.slice_bounds-first_wrong-end c).In-Ok in omega (arith, w.ends, w.inside)

pub overflow_add-place : goal.overflow_add-place
overflow_add-place c = omega (arith, misspelt-inside _ _ _ _ (found (goal.at.overflow_add-place c).In-Ok) _ c.first_wrong.ensures)

pub returns-in-Err : goal.returns-in-Err
returns-in-Err c = sym (misspelt-cut _ _ c.head.ensures c.in-Err.is)

pub returns-in-Ok : goal.returns-in-Ok
returns-in-Ok c = sym (misspelt-found _ _ _ _ (found (goal.at.returns-in-Ok c).In-Ok) _ c.first_wrong.ensures)
