-- `layout::walk::Walk::past` meets its contract.
use Rattle.std.proofs.Common.{sym}
use Rattle.layout.proofs.Going.{passed_is}
use Rattle.layout.proofs.walk.Walk.past.Goals as goal

pub returns : goal.returns
returns c = sym (passed_is _ _ _ _ _ c.wrapping_add_usize-passed.ensures.value c.wrapping_add_usize-sum.ensures.value)
