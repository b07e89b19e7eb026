-- `lines::answer::put_text` meets its contract: its lines one after another.
use Rattle.lines.specs.Answer.{text_lines}
use Rattle.lines.proofs.Putting.{put-more}
use Rattle.lines.proofs.answer.put_text.Goals as goal

pub returns : goal.returns
unfolding text_lines
returns c =
    put-more
    (put-more (put-more (put-more c.put_line-one.ensures c.put_line-two.ensures) c.put_line-three.ensures) c.put_ends-four.ensures)
    c.put_first.ensures
