-- `pool_files::held::Held::room` meets its contract.
use Rattle.std.proofs.Common.{◌∙◌}
use Rattle.pool_files.proofs.Rooms.{room-running, room-begun}
use Rattle.pool_files.proofs.held.Held.room.Goals as goal

pub returns-then-self : goal.returns-then-self
returns-then-self c = c.saturating_sub-left.ensures ∙ room-running _ c.if-self.true

pub returns : goal.returns
returns c = c.saturating_sub.ensures ∙ rw c.saturating_sub-left.ensures (room-begun _ c.if-self.false)
