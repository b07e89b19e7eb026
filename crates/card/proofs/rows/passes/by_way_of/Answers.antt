-- `card::rows::passes::by_way_of` meets its contract: what the search from the fresh state tells of the stretch, and the rows that `told` makes.
use native.Mathlib.Omega.{arith}
use mathlib.Core.Path.{sym, ap, ◌∙◌}
use lib.ListN.{length-take}
use Rattle.search.specs.Answers.{told_sought}
use Rattle.card.specs.Rows.{rowed}
use Rattle.card.proofs.OfStretches.{Accepted, of-refused, of-accepted, of-few, of_room, of_zero, of-told}
use Rattle.card.proofs.rows.passes.by_way_of.Goals as goal
use Rattle.card.proofs.rows.passes.by_way_of.Goals.{In-Marked}

-- the stretch was accepted
found : (c : In-Marked)
    → Accepted c.args.pattern.now c.args.stretch.now c.args.marks.now c.in-Marked.segments c.in-Marked.state.bits
found c =
    of-accepted _ _ c.args.marks.now c.requires _ _ _ _ (sym c.through.ensures.result_value ∙ ap told_sought c.in-Marked.is)

pub slice_bounds-first_end-end : goal.slice_bounds-first_end-end
slice_bounds-first_end-end c =
    of_room _ _ c.args.marks.now c.requires _ _ (found (goal.at.slice_bounds-first_end-end c).In-Marked) _ c.through.ensures.marks_after

pub slice_bounds-first_end-end-in-Marked : goal.slice_bounds-first_end-end-in-Marked
slice_bounds-first_end-end-in-Marked c = simp length-take (omega (arith, slice_bounds-first_end-end (goal.at.slice_bounds-first_end-end-in-Marked c).In-Marked))

pub first_end-requires : goal.first_end-requires
first_end-requires c =
    simp length-take (omega (arith, of-few _ _ c.args.marks.now c.requires _ _ (found (goal.at.first_end-requires c).In-Marked)))

pub told-requires : goal.told-requires
told-requires c =
    of_zero c.args.pattern.now c.args.stretch.now c.args.marks.now c.requires _ _ (found (goal.at.told-requires c).In-Marked) _
    c.through.ensures.marks_after _ c.first_end.ensures

pub returns-in-Refused : goal.returns-in-Refused
returns-in-Refused c =
    let wrong = sym c.through.ensures.result_value ∙ ap told_sought c.in-Refused.is in
    ap rowed (sym (of-refused _ _ c.args.marks.now c.requires _ _ wrong))

pub returns-in-Marked : goal.returns-in-Marked
returns-in-Marked c =
    of-told _ _ c.args.marks.now c.requires _ _ (found (goal.at.returns-in-Marked c).In-Marked) _ c.told.ensures
