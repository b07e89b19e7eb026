-- `desk_verdict::said::put::put_standing` meets its contract: whether the sequence ends anywhere or not.
use Rattle.lines.proofs.Putting.{put-more}
use borrow.Author.Tests.{eq-eqb, ne_eqb}
use Rattle.desk_verdict.specs.Said.{standing_line}
use Rattle.desk_verdict.proofs.said.put.put_standing.Goals as goal

pub returns-then-standing-eq0-clause-put : goal.returns-then-standing-eq0-clause-put
unfolding standing_line
returns-then-standing-eq0-clause-put c =
    rw (eq-eqb _ 0 c.if-standing-eq0.true) (put-more c.put_number-one.ensures c.put_bytes.ensures)

pub returns-clause-put : goal.returns-clause-put
unfolding standing_line
returns-clause-put c =
    rw (ne_eqb _ 0 c.if-standing-eq0.false)
    (put-more (put-more (put-more c.put_number-one.ensures c.put_counted-two.ensures) c.put_counted-three.ensures) c.put_bytes-2.ensures)
