-- `desk_verdict::said::put::put_hit` meets its contract: the label, the two numbers and the name, one after another.
use Rattle.lines.proofs.Putting.{put-more}
use Rattle.desk_verdict.specs.Said.{hit_line}
use Rattle.desk_verdict.proofs.said.put.put_hit.Goals as goal

pub returns-clause-put : goal.returns-clause-put
unfolding hit_line
returns-clause-put c =
    rw c.plus-number.ensures at (put-more (put-more (put-more c.put_number-one.ensures c.put_counted-two.ensures)
    c.put_counted-three.ensures) c.put_named.ensures)
