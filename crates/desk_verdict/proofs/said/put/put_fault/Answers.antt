-- `desk_verdict::said::put::put_fault` meets its contract: the number of the line, then the words.
use Rattle.lines.proofs.Putting.{put-more}
use Rattle.desk_verdict.specs.Said.{fault_words}
use Rattle.desk_verdict.proofs.said.put.put_fault.Goals as goal

pub returns-clause-put : goal.returns-clause-put
unfolding fault_words
returns-clause-put c = put-more c.put_counted-one.ensures c.put_bytes.ensures
