-- `text::compare::prefix` meets its contract: it is std's test of a beginning.
use mathlib.Core.Path.{◌∙◌}
use Rattle.text.specs.Compare.{prefix}
use Rattle.text.proofs.Library.{pointwise-same}
use Rattle.text.proofs.compare.prefix.Goals as goal

pub returns : goal.returns
unfolding prefix
returns c = c.starts_with.ensures.value ∙ pointwise-same _ _
