use borrow.Author.Rules.{rules}
use Prim.Native.Nat.{◌^◌, ◌<◌}
use native.Mathlib.Omega.{arith}
use mathlib.Core.Path.{◌≡◌, refl, sym, ap, ◌∙◌}
use lib.ListN.{length}
use Rattle.text.specs.Refusal.{outcome}
use Rattle.layout.proofs.Heads.{Whole, head-is}
use Rattle.layout.proofs.Walking.{walk_none, sound-enter, sound-head, sound-past, walk-less}
use Rattle.card.specs.Held.{Full}
use Rattle.card.proofs.RowSegments.{bearing-none, bearing-more, bearing-end}
use Rattle.card.proofs.rows.start.Rows.over_segment.Goals as goal
use Rattle.card.proofs.rows.start.Rows.over_segment.Goals.{After-enter, In-Ok-head}

-- the stretch is no longer than a number can say
narrow : (c : After-enter) → length c.args.stretch.now < 2 ^ 64
narrow c = omega arith

-- where the letters stand
here : (c : In-Ok-head)
    → Whole
    c.args.stretch.now
    c.loop-cursor.cursor.at c.in-Ok-head.part.start
    c.in-Ok-head.part.next
here c = head-is _ _ _ _ (sym c.head.ensures ∙ ap outcome c.in-Ok-head.is)

pub returns-in_default : goal.returns-in_default
returns-in_default c =
    absurd (sound-enter _ _ c.enter.ensures c.requires.2.is c.in_default.is)

pub loop-cursor-init : goal.loop-cursor-init
loop-cursor-init c =
    let few : c.in-Ok.cursor.count < 2 ^ 64 = omega arith in
    bearing-none c.requires.0 c.requires.1 (walk_none _ _ c.enter.ensures c.in-Ok.is few)

pub returns-in_default-head : goal.returns-in_default-head
returns-in_default-head c =
    absurd
    (sound-head c.loop-cursor.invariant.walk c.loop-cursor-test.true c.requires.2.is
    c.head.ensures c.in_default-head.is)

pub slice_bounds-variant-count : goal.slice_bounds-variant-count
slice_bounds-variant-count c = let w = here (goal.at.slice_bounds-variant-count c).In-Ok-head in omega (arith, w.starts, w.ends)

pub slice_bounds-variant-start : goal.slice_bounds-variant-start
slice_bounds-variant-start c = let w = here (goal.at.slice_bounds-variant-start c).In-Ok-head in omega (arith, w.starts, w.ends)

pub slice_bounds-variant-end : goal.slice_bounds-variant-end
slice_bounds-variant-end c = let w = here (goal.at.slice_bounds-variant-end c).In-Ok-head in omega (arith, w.ends, w.inside)

pub over_variant-ended-requires : goal.over_variant-ended-requires
over_variant-ended-requires c =
    (c.requires.0, c.requires.1)

pub loop-cursor-smaller : goal.loop-cursor-smaller
loop-cursor-smaller c =
    walk-less c.loop-cursor.invariant.walk c.loop-cursor-test.true _ _ c.past-cursor.ensures

pub loop-cursor-preserved : goal.loop-cursor-preserved
loop-cursor-preserved c =
    let on = sound-past c.loop-cursor.invariant.walk c.loop-cursor-test.true c.requires.2.is (here (goal.at.loop-cursor-preserved c).In-Ok-head) (narrow (goal.at.loop-cursor-preserved c).After-enter) refl
    c.past-cursor.ensures in
    bearing-more c.loop-cursor.invariant on (here (goal.at.loop-cursor-preserved c).In-Ok-head) c.over_variant-ended.ensures

pub settle-alive-requires : goal.settle-alive-requires
settle-alive-requires c = c.requires.0.bases.short

pub returns : goal.returns
returns c =
    let none : c.loop-cursor.cursor.left ≡ 0 = omega (arith, c.loop-cursor-test.false) in
    let full : Full c.args.self.now.exits c.args.self.now.firsts = record { states = search rules; ends = search rules } in
    (c.settle-alive.ensures.0, bearing-end c.loop-cursor.invariant c.requires.0 c.requires.1 full c.settle-alive.ensures.1 none)
