-- `desk_verdict::said::put::put_done` meets its contract: the two numbers, one after another.
use Rattle.lines.proofs.Putting.{put-more}
use Rattle.desk_verdict.specs.Said.{done_line}
use Rattle.desk_verdict.proofs.said.put.put_done.Goals as goal

pub returns-clause-put : goal.returns-clause-put
unfolding done_line
returns-clause-put c = put-more (put-more c.put_number-one.ensures c.put_counted-two.ensures) c.put_bytes.ensures
