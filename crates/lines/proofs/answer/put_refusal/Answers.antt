-- `lines::answer::put_refusal` meets its contract: the number, then the line of the place.
use Rattle.lines.specs.Answer.{refusal_line}
use Rattle.lines.proofs.Putting.{put-more}
use Rattle.lines.proofs.answer.put_refusal.Goals as goal

pub returns : goal.returns
unfolding refusal_line
returns c =
    put-more (put-more c.put_bytes-number.ensures c.put_number-end.ensures) c.put_line.ensures
