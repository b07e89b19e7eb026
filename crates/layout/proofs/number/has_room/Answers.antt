-- `layout::number::has_room` meets its contract.
use Rattle.layout.proofs.Overs.{room-none, room-left}
use Rattle.layout.proofs.number.has_room.Goals as goal

pub returns-then-size-at : goal.returns-then-size-at
returns-then-size-at c = room-none _ _ _ c.if-size-at.true

pub returns : goal.returns
returns c = room-left _ _ _ c.if-size-at.false
