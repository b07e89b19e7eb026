use Rattle.lines.proofs.Putting.{put-length}
use Rattle.test_tally.proofs.Reports.{reporting-none, reporting-named, reporting-on, reporting-end}
use Rattle.test_tally.proofs.reporting.put_groups.Goals as goal
use Rattle.test_tally.proofs.reporting.put_groups.Goals.{then-byte-eq10, else-byte-eq10}

pub loop-i-init : goal.loop-i-init
loop-i-init c = reporting-none _ _ _

pub loop-i-preserved : goal.loop-i-preserved
loop-i-preserved c =
    let i = c.loop-i.invariant in
    let l = c.loop-i-test.true in
    elim c.if-byte-eq10.branch [
      | then-byte-eq10 w ↦
          rw (w.out-is, w.next-is, w.number-is, w.start-is)
          (reporting-named i l w.if-byte-eq10.true w.of-count.ensures w.put_group-next.ensures)
      | else-byte-eq10 w ↦
          rw (w.out-is, w.next-is, w.number-is, w.start-is) (reporting-on i l w.if-byte-eq10.false)
    ]

pub shape_of-out : goal.shape_of-out
shape_of-out c = put-length c.loop-i.invariant.put

pub returns : goal.returns
returns c = reporting-end c.loop-i.invariant c.loop-i-test.false
