-- `pool_files::held::Held::bases` meets its contract.
use Rattle.std.proofs.Common.{arith}
use Rattle.pool_files.proofs.Rooms.{room_most, bases-none, bases-full, bases-fit}
use Rattle.pool_files.proofs.held.Held.bases.Goals as goal

pub returns-then-n-eq0 : goal.returns-then-n-eq0
returns-then-n-eq0 c = bases-none _ _ c.if-n-eq0.true

pub returns-then-room-n : goal.returns-then-room-n
returns-then-room-n c = bases-full _ _ c.if-n-eq0.false (rw c.room-room.ensures at c.if-room-n.true)

pub overflow_sub-result-2 : goal.overflow_sub-result-2
overflow_sub-result-2 c = omega (arith, room_most c.args.self, c.room-room.ensures)

pub returns : goal.returns
returns c = rw c.room-room.ensures (bases-fit _ _ c.if-n-eq0.false (rw c.room-room.ensures at c.if-room-n.false))
