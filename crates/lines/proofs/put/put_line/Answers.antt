-- `lines::put::put_line` meets its contract: the word, the digits and the line's end, one after another.
use Rattle.lines.specs.Decimal.{line}
use Rattle.lines.proofs.Putting.{put-more}
use Rattle.lines.proofs.put.put_line.Goals as goal

pub returns : goal.returns
unfolding line
returns c =
    put-more (put-more c.put_bytes-from.ensures c.put_number-end.ensures) c.put_bytes.ensures
