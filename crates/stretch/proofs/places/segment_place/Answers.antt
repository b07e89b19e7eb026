use Prim.Native.Nat.{◌+◌, ◌≤◌, ◌<◌}
use lib.ListN.{length, get_or}
use native.Mathlib.Omega.{arith}
use Rattle.layout.specs.Skips.{behind_segment}
use Rattle.layout.proofs.Skips.{stepping-none, stepping-more, stepping-end, stepping-fits, variants-grow, segment-grows}
use Rattle.stretch.proofs.places.segment_place.Goals as goal
use Rattle.stretch.proofs.places.segment_place.Goals.{In-loop}

-- the segment at the loop's place lies in the bytes
fits : (c : In-loop) →
    behind_segment c.args.stretch.now c.loop.at ≤ length c.args.stretch.now
fits c =
    stepping-fits _ (segment-grows c.args.stretch.now) _ _ _ _ _ c.loop.invariant c.loop-test.true c.requires

inside : (c : In-loop) → c.loop.at < length c.args.stretch.now
inside c =
    let s = c.args.stretch.now in
    omega (arith, fits c, variants-grow s (get_or s c.loop.at 0) (c.loop.at + 1))

pub loop-init : goal.loop-init
loop-init c = stepping-none _ _ _

pub bounds-stretch-at : goal.bounds-stretch-at
bounds-stretch-at c = inside (goal.at.bounds-stretch-at c).In-loop

pub overflow_add-at : goal.overflow_add-at
overflow_add-at c = omega (arith, inside (goal.at.overflow_add-at c).In-loop)

pub behind_variants-at-requires : goal.behind_variants-at-requires
behind_variants-at-requires c = rw c.wide-variants.ensures.0 (fits (goal.at.behind_variants-at-requires c).In-loop)

pub loop-preserved : goal.loop-preserved
loop-preserved c =
    rw (c.behind_variants-at.ensures, c.wide-variants.ensures.0)
    (stepping-more _ _ _ _ _ c.loop.invariant c.loop-test.true)

pub returns : goal.returns
returns c = stepping-end _ _ _ _ _ c.loop.invariant c.loop-test.false
