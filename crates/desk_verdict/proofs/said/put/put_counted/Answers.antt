-- `desk_verdict::said::put::put_counted` meets its contract: the word, then the digits.
use Rattle.lines.proofs.Putting.{put-more}
use Rattle.desk_verdict.specs.Said.{counted}
use Rattle.desk_verdict.proofs.said.put.put_counted.Goals as goal

pub returns : goal.returns
unfolding counted
returns c = put-more c.put_bytes-next.ensures c.put_number.ensures
