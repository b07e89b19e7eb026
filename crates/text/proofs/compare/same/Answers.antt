-- `text::compare::same` meets its contract: it is std's equality of slices.
use mathlib.Core.Path.{◌∙◌}
use Rattle.text.proofs.Library.{pointwise-same}
use Rattle.text.proofs.compare.same.Goals as goal

pub returns : goal.returns
returns c = c.eq.ensures ∙ pointwise-same _ _
