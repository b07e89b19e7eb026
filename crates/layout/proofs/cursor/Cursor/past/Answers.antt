-- `layout::cursor::Cursor::past` meets its contract.
use Rattle.std.proofs.Common.{sym}
use Rattle.layout.proofs.Walking.{past_is}
use Rattle.layout.proofs.cursor.Cursor.past.Goals as goal

pub returns : goal.returns
returns c =
    sym (past_is _ _ _ _ _ _ _ _ c.wrapping_add_usize-left.ensures.value c.counted-more.ensures
    c.wrapping_add_usize-size.ensures.value c.print.ensures)
