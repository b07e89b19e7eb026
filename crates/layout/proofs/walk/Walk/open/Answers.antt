-- `layout::walk::Walk::open` meets its contract, by its one test.
use Rattle.std.proofs.Common.{sym}
use Rattle.layout.proofs.Going.{opened-cut, opened-is}
use Rattle.layout.proofs.walk.Walk.open.Goals as goal

pub returns-then-stretch-lt2 : goal.returns-then-stretch-lt2
returns-then-stretch-lt2 c = sym (opened-cut _ c.if-stretch-lt2.true)

pub returns : goal.returns
returns c = sym (opened-is _ _ c.pair-count.ensures.0 c.if-stretch-lt2.false)
