-- `test_tally::report` meets its contract: its parts one after another.
use Rattle.lines.proofs.Putting.{put-more}
use Rattle.test_tally.specs.Report.{report_of}
use Rattle.test_tally.proofs.reporting.report.Goals as goal

pub returns : goal.returns
unfolding report_of
returns c =
    put-more
    (put-more (put-more (put-more c.put_groups-groups.ensures c.put_number-ran.ensures) c.put_bytes-called.ensures) c.put_number-differ.ensures)
    c.put_bytes.ensures
