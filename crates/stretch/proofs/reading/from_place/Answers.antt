-- `stretch::reading::from_place` meets its contract: each answer is a case of reading a sound stretch.
use Prim.Native.Nat.{◌<◌}
use lib.ListN.{length}
use native.Mathlib.Omega.{arith}
use mathlib.Core.Path.{◌∙◌}
use Rattle.stretch.proofs.ReadsAtPlace.{Standing, read_behind, place_inside, here-inside, here-handed, last-ended}
use Rattle.stretch.proofs.ReadsAtPlace.{next-inside, first-inside, next-handed}
use Rattle.stretch.proofs.reading.from_place.Goals as goal
use Rattle.stretch.proofs.reading.from_place.Goals.{After-segment_place-at, After-wide-variants}

inside : (c : After-segment_place-at) → c.segment_place-at.result < length c.args.stretch.now
inside c = rw c.segment_place-at.ensures (place_inside _ _ c.requires _ c.if-segments-segment.false)

there : (c : After-wide-variants) →
    Standing c.args.stretch.now c.args.segments c.args.segment c.segment_place-at.result c.wide-variants.result
there c =
    record {
      whole = c.requires;
      known = c.if-segments-segment.false;
      place = c.segment_place-at.ensures;
      count = c.wide-variants.ensures.0;
    }

pub returns-then-segments-segment : goal.returns-then-segments-segment
returns-then-segments-segment c = read_behind _ _ c.requires _ _ c.if-segments-segment.true

pub segment_place-at-requires : goal.segment_place-at-requires
segment_place-at-requires c = omega (arith, place_inside _ _ c.requires _ c.if-segments-segment.false)

pub bounds-stretch-at : goal.bounds-stretch-at
bounds-stretch-at c = inside (goal.at.bounds-stretch-at c).After-segment_place-at

pub handed-requires : goal.handed-requires
handed-requires c =
    (here-inside _ _ _ _ _ (there (goal.at.handed-requires c).After-wide-variants) _ c.if-variant-variants.true, omega (arith, c.wide-variants.ensures.1, c.if-variant-variants.true))

pub returns-then-variant-variants : goal.returns-then-variant-variants
returns-then-variant-variants c = c.handed.ensures ∙ here-handed _ _ _ _ _ (there (goal.at.returns-then-variant-variants c).After-wide-variants) _ c.if-variant-variants.true

pub returns-then-segment-segments : goal.returns-then-segment-segments
returns-then-segment-segments c = last-ended _ _ _ _ _ (there (goal.at.returns-then-segment-segments c).After-wide-variants) c.if-segment-segments.true _ c.if-variant-variants.false

pub overflow_add-at : goal.overflow_add-at
overflow_add-at c = omega (arith, inside (goal.at.overflow_add-at c).After-segment_place-at)

pub behind_variants-next-requires : goal.behind_variants-next-requires
behind_variants-next-requires c = omega (arith, next-inside _ _ _ _ _ (there (goal.at.behind_variants-next-requires c).After-wide-variants) c.if-segment-segments.false)

pub handed-requires-2 : goal.handed-requires-2
handed-requires-2 c =
    (first-inside _ _ _ _ _ (there (goal.at.handed-requires-2 c).After-wide-variants) c.if-segment-segments.false _ c.behind_variants-next.ensures, omega arith)

pub returns : goal.returns
returns c =
    c.handed-2.ensures
    ∙ next-handed _ _ _ _ _ (there (goal.at.returns c).After-wide-variants) c.if-segment-segments.false _ c.behind_variants-next.ensures _ c.if-variant-variants.false
