-- `manifest::putting::put_counts` meets its contract: words and numbers, one after another.
use Rattle.lines.proofs.Putting.{put-more}
use Rattle.manifest.specs.Written.{counts_line}
use Rattle.manifest.proofs.putting.put_counts.Goals as goal

pub returns : goal.returns
unfolding counts_line
returns c =
    put-more
    (put-more
    (put-more
    (put-more
    (put-more (put-more c.put_bytes-one.ensures c.put_number-two.ensures) c.put_bytes-three.ensures)
    c.put_number-four.ensures)
    c.put_bytes-five.ensures)
    c.put_number-six.ensures)
    c.put_bytes.ensures
