use Rattle.lines.proofs.Putting.{put-length}
use Rattle.lines.proofs.Marked.{ending-none, ending-marked, ending-unmarked, ending-end}
use Rattle.lines.proofs.answer.put_ends.Goals as goal
use Rattle.lines.proofs.answer.put_ends.Goals.{then-mark-eq1, else-mark-eq1}

pub loop-k-init : goal.loop-k-init
loop-k-init c = ending-none _ _ _

pub loop-k-preserved : goal.loop-k-preserved
loop-k-preserved c =
    let i = c.loop-k.invariant in
    let l = c.loop-k-test.true in
    elim c.if-mark-eq1.branch [
      | then-mark-eq1 w ↦ rw (w.out-is, w.next-is) (ending-marked i l w.if-mark-eq1.true w.put_line-next.ensures)
      | else-mark-eq1 w ↦ rw (w.out-is, w.next-is) (ending-unmarked i l w.if-mark-eq1.false)
    ]

pub shape_of-out : goal.shape_of-out
shape_of-out c = put-length c.loop-k.invariant.put

pub returns : goal.returns
returns c = ending-end c.loop-k.invariant c.loop-k-test.false
