-- `desk_verdict::said::put::put_refused` meets its contract: the number, the place and the name, one after another.
use Rattle.lines.proofs.Putting.{put-more}
use Rattle.desk_verdict.specs.Said.{refused_line}
use Rattle.desk_verdict.proofs.said.put.put_refused.Goals as goal

pub returns-clause-put : goal.returns-clause-put
unfolding refused_line
returns-clause-put c = put-more (put-more c.put_counted-one.ensures c.put_counted-two.ensures) c.put_named.ensures
