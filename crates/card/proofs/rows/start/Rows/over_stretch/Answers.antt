use borrow.Author.Rules.{rules}
use native.Mathlib.Omega.{arith}
use mathlib.Core.Path.{subst}
use lib.Pow.{pow_mono}
use Rattle.text.proofs.States.{low_ones}
use Rattle.layout.proofs.Going.{open_is, passed_on}
use Rattle.card.specs.RowStep.{Covers}
use Rattle.card.proofs.RowsHeld.{exits-in, even}
use Rattle.card.proofs.RowWalks.{sound-opens, rowing-none, rowing-readable, rowing_more, rowing-all, rowing-dead}
use Rattle.card.proofs.rows.start.Rows.over_stretch.Goals as goal

pub overflow_sub-live : goal.overflow_sub-live
overflow_sub-live c =
    let b = c.requires.0 in
    omega (arith, c.low-live.ensures, low_ones _ b.short, pow_mono b.some)

pub returns-in_default : goal.returns-in_default
returns-in_default c =
    absurd (sound-opens _ _ c.requires.2 c.open.ensures c.in_default.is)

pub loop-walk-init : goal.loop-walk-init
loop-walk-init c =
    let opening = open_is _ c.open.ensures c.in-Ok.is in
    (record { states = search rules; ends = search rules }, rowing-none _ _ _ _ c.requires.0 c.requires.2 c.requires.3 _ c.low-live.ensures opening)

pub returns-then-live-eq0 : goal.returns-then-live-eq0
returns-then-live-eq0 c =
    (c.loop-walk.invariant.0, rowing-dead c.loop-walk.invariant.1 c.requires.0.some c.if-live-eq0.true)

pub overflow_cast-number : goal.overflow_cast-number
overflow_cast-number c =
    omega (arith, c.loop-walk-test.true, c.loop-walk.invariant.1.few)

pub over_segment-behind-requires : goal.over_segment-behind-requires
over_segment-behind-requires c =
    let (full, q) = c.loop-walk.invariant in
    let covers = subst (Covers _ _) (exits-in _ _ (even full)) q.covers in
    (record { bases = c.requires.0; vectors = c.requires.1; lengths = q.lengths }, covers, rowing-readable q c.loop-walk-test.true)

pub loop-walk-smaller : goal.loop-walk-smaller
loop-walk-smaller c =
    let on = passed_on _ _ _ (omega (arith, c.loop-walk-test.true, c.loop-walk.invariant.1.few)) c.past-walk.ensures in
    omega (arith, on, c.loop-walk-test.true)

pub loop-walk-preserved : goal.loop-walk-preserved
loop-walk-preserved c =
    (c.over_segment-behind.ensures.0, rowing_more c.loop-walk.invariant.1 c.loop-walk-test.true _ _ _ c.over_segment-behind.ensures.1 _ c.past-walk.ensures)

pub returns : goal.returns
returns c = (c.loop-walk.invariant.0, rowing-all c.loop-walk.invariant.1 c.loop-walk-test.false)
