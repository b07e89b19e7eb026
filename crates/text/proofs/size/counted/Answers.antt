-- `text::size::counted` meets its contract: a variant counts its letters, and the empty one as one.
use Rattle.text.proofs.Sizes.{counted_none, counted-some}
use Rattle.text.proofs.size.counted.Goals as goal

pub returns-then-letters-eq0 : goal.returns-then-letters-eq0
returns-then-letters-eq0 c = counted_none _ c.if-letters-eq0.true

pub returns : goal.returns
returns c = counted-some _ c.if-letters-eq0.false
