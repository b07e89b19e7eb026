use Prim.Native.Nat.{◌^◌, ◌<◌}
use native.Mathlib.Omega.{arith}
use mathlib.Core.Path.{◌≡◌, refl, sym, ap, ◌∙◌}
use lib.ListN.{length}
use Rattle.text.specs.Refusal.{outcome}
use Rattle.layout.proofs.Heads.{Whole, head-is}
use Rattle.layout.proofs.Walking.{walk_none, sound-enter, sound-head, sound-past, walk-less}
use Rattle.search.proofs.Words.{swept-by, sweeping-none, sweeping-more}
use Rattle.watch.proofs.Sights.{sweep-all}
use Rattle.watch.proofs.sight.over.Goals as goal
use Rattle.watch.proofs.sight.over.Goals.{After-enter, In-Ok-head}

-- the stretch is no longer than a number can say
narrow : (c : After-enter) → length c.args.stretch.now < 2 ^ 64
narrow c = omega arith

-- where the letters stand
here : (c : In-Ok-head)
    → Whole c.args.stretch.now c.loop-cursor.cursor.at c.in-Ok-head.part.start
    c.in-Ok-head.part.next
here c = head-is _ _ _ _ (sym c.head.ensures ∙ ap outcome c.in-Ok-head.is)

pub returns-in_default : goal.returns-in_default
returns-in_default c =
    absurd (sound-enter _ _ c.enter.ensures c.requires.1.is c.in_default.is)

pub loop-cursor-init : goal.loop-cursor-init
loop-cursor-init c =
    let few : c.in-Ok.cursor.count < 2 ^ 64 = omega arith in
    let p = c.requires.0 in
    sweeping-none p.tables.some p.state.odd (walk_none _ _ c.enter.ensures c.in-Ok.is few)

pub returns-in_default-head : goal.returns-in_default-head
returns-in_default-head c =
    absurd
    (sound-head c.loop-cursor.invariant.walk c.loop-cursor-test.true c.requires.1.is
    c.head.ensures c.in_default-head.is)

pub slice_bounds-letters-count : goal.slice_bounds-letters-count
slice_bounds-letters-count c = let w = here (goal.at.slice_bounds-letters-count c).In-Ok-head in omega (arith, w.starts, w.ends)

pub slice_bounds-letters-start : goal.slice_bounds-letters-start
slice_bounds-letters-start c = let w = here (goal.at.slice_bounds-letters-start c).In-Ok-head in omega (arith, w.starts, w.ends)

pub slice_bounds-letters-end : goal.slice_bounds-letters-end
slice_bounds-letters-end c = let w = here (goal.at.slice_bounds-letters-end c).In-Ok-head in omega (arith, w.ends, w.inside)

pub loop-cursor-smaller : goal.loop-cursor-smaller
loop-cursor-smaller c =
    walk-less c.loop-cursor.invariant.walk c.loop-cursor-test.true _ _ c.past-cursor.ensures

pub loop-cursor-preserved : goal.loop-cursor-preserved
loop-cursor-preserved c =
    let on = sound-past c.loop-cursor.invariant.walk c.loop-cursor-test.true c.requires.1.is (here (goal.at.loop-cursor-preserved c).In-Ok-head) (narrow (goal.at.loop-cursor-preserved c).After-enter) refl
    c.past-cursor.ensures in
    sweeping-more c.loop-cursor.invariant on (swept-by _ _ (here (goal.at.loop-cursor-preserved c).In-Ok-head) (c.scan-scanned.ensures _ c.requires.0))

pub overflow_sub-high : goal.overflow_sub-high
overflow_sub-high c = let p = c.requires.0 in omega (arith, p.tables.some)

pub returns : goal.returns
returns c =
    let none : c.loop-cursor.cursor.left ≡ 0 = omega arith in
    sweep-all c.loop-cursor.invariant _ c.requires.0 none _ refl
