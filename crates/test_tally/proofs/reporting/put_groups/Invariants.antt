-- `test_tally::reporting::put_groups` meets its contract. The loop's invariant, `Reporting`: the lines of the groups whose names are read
-- are put.
use Rattle.test_tally.proofs.Reports.{Reporting}
use Rattle.test_tally.proofs.reporting.put_groups.Given as goal

abbrev pub invariant-loop-i : goal.invariant-loop-i
invariant-loop-i l =
    Reporting l.tally.groups l.names l.initial.out l.out l.next l.number l.start l.i
