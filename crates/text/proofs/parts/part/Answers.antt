-- `text::part` meets its contract, whether all of the bytes are there or not.
use Rattle.text.proofs.PartsOfLists.{part-far, part_none, part-front}
use Rattle.text.proofs.parts.part.Goals as goal

pub returns-then-bytes-start : goal.returns-then-bytes-start
returns-then-bytes-start c = part-far _ _ _ c.if-bytes-start.true

pub returns-then-end-start : goal.returns-then-end-start
returns-then-end-start c = part_none _ _ _ c.if-end-start.true

pub returns-then-bytes-end : goal.returns-then-bytes-end
returns-then-bytes-end c = part-front _ _ _ c.if-bytes-end.true
