-- `layout::walk::Walk::end` meets its contract, by its two tests.
use Rattle.std.proofs.Common.{sym}
use Rattle.layout.specs.Walk.{end_at}
use Rattle.layout.proofs.Frames.{closed-left, closed-many, closed-sound}
use Rattle.layout.proofs.walk.Walk.end.Goals as goal

pub returns-then-self-stretch : goal.returns-then-self-stretch
unfolding end_at
returns-then-self-stretch c = sym (closed-left _ _ _ c.if-self-stretch.true)

pub returns-then-self-gt-MOST_IN_STRETCH : goal.returns-then-self-gt-MOST_IN_STRETCH
unfolding end_at
returns-then-self-gt-MOST_IN_STRETCH c = sym (closed-many _ _ _ c.if-self-stretch.false c.if-self-gt-MOST_IN_STRETCH.true)

pub returns : goal.returns
unfolding end_at
returns c = sym (closed-sound _ _ _ c.if-self-stretch.false c.if-self-gt-MOST_IN_STRETCH.false)
