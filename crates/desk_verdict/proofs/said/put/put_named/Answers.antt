-- `desk_verdict::said::put::put_named` meets its contract: the word, the name and the line's end, one after another.
use Rattle.lines.proofs.Putting.{put-more}
use Rattle.desk_verdict.specs.Said.{named}
use Rattle.desk_verdict.proofs.said.put.put_named.Goals as goal

pub returns : goal.returns
unfolding named
returns c = put-more (put-more c.put_bytes-next.ensures c.put_bytes-end.ensures) c.put_bytes.ensures
