-- `lines::put::put_bytes` meets its contract: as many of the bytes as there is room for are copied to the place.
use Rattle.lines.proofs.Putting.{put-behind, put-copied}
use Rattle.lines.proofs.put.put_bytes.Goals as goal

pub returns-then-out-at : goal.returns-then-out-at
returns-then-out-at c = put-behind _ _ _ c.if-out-at.true

pub returns : goal.returns
returns c = put-copied _ _ _ _ c.if-out-at.false c.min-n.ensures _ c.copy_from_slice.ensures.after
