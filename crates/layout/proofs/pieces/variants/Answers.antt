-- `layout::pieces::variants` meets its contract, by its two tests.
use Rattle.std.proofs.Common.{sym}
use Rattle.layout.proofs.Frames.{variants-cut, variants-none, variants-some}
use Rattle.layout.proofs.pieces.variants.Goals as goal

pub returns-then-stretch-at : goal.returns-then-stretch-at
returns-then-stretch-at c = sym (variants-cut _ _ c.if-stretch-at.true)

pub returns-then-count-eq0 : goal.returns-then-count-eq0
returns-then-count-eq0 c =
    sym (variants-none _ _ c.if-stretch-at.false _ c.wide-count.ensures.0 c.if-count-eq0.true)

pub returns : goal.returns
returns c =
    sym (variants-some _ _ c.if-stretch-at.false _ c.wide-count.ensures.0 c.if-count-eq0.false)
