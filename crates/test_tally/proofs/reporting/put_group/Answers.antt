-- `test_tally::reporting::put_group` meets its contract: a group that counts something has its name and its count put one after another.
use Rattle.test_tally.proofs.Reports.{group-none, group-line}
use Rattle.test_tally.proofs.reporting.put_group.Goals as goal

pub returns-then-count-eq0 : goal.returns-then-count-eq0
returns-then-count-eq0 c = group-none _ _ _ _ c.if-count-eq0.true

pub returns : goal.returns
returns c =
    group-line _ _ _ _ c.if-count-eq0.false c.put_bytes-behind.ensures c.put_line.ensures
