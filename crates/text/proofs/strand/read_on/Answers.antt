-- `text::strand::read_on` meets its contract, by what `copied` and `turned` ensure.
use native.Mathlib.Omega.{arith}
use mathlib.Core.Path.{sym, ◌∙◌}
use lib.ListN.{length-take}
use Rattle.text.specs.declared.strand.Strand.TheVariants.{Given, Opposite}
use Rattle.text.proofs.Strands.{read_known, read-long}
use Rattle.text.proofs.strand.read_on.Goals as goal

pub slice_bounds-copied-end : goal.slice_bounds-copied-end
slice_bounds-copied-end c = simp length-take (omega arith)

pub copied-requires : goal.copied-requires
copied-requires c = simp length-take (omega arith)

pub returns-then-m-gt-GREATEST_PATTERN : goal.returns-then-m-gt-GREATEST_PATTERN
returns-then-m-gt-GREATEST_PATTERN c = c.copied.ensures ∙ sym (read-long _ _ c.if-m-gt-GREATEST_PATTERN.true)

pub returns-in-Given : goal.returns-in-Given
returns-in-Given c = c.copied-in-Given.ensures ∙ read_known _ Given _ c.in-Given.is c.if-m-gt-GREATEST_PATTERN.false

pub returns-in-Opposite : goal.returns-in-Opposite
returns-in-Opposite c = c.turned.ensures ∙ read_known _ Opposite _ c.in-Opposite.is c.if-m-gt-GREATEST_PATTERN.false
