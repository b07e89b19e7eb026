-- `card::rows::passes::told` meets its contract: row 0 as it is told, and the other rows as `over_stretch` leaves them.
use native.Mathlib.Omega.{arith}
use Rattle.search.proofs.BitScans.{told-short}
use Rattle.card.proofs.RowWalks.{sound-few, sound-states}
use Rattle.card.proofs.OfStretches.{rowed-none, all-over}
use Rattle.card.proofs.rows.passes.told.Goals as goal

pub over_stretch-requires : goal.over_stretch-requires
over_stretch-requires c =
    let vectors = told-short _ _ c.requires.bases.short c.masks.ensures in
    (c.requires.bases, vectors, sound-states _ _ c.requires.sound, rowed-none _ c.requires.bases _ c.lone-rows.ensures)

pub overflow_cast-result : goal.overflow_cast-result
overflow_cast-result c =
    let few = sound-few _ _ c.requires.sound in
    omega arith

pub returns : goal.returns
returns c = all-over _ _ _ _ _ c.requires _ _ c.over_stretch.ensures.0 c.over_stretch.ensures.1
