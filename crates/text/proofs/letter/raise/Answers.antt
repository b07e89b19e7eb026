-- `text::letter::raise` meets its contract: a letter without the bit of lower case, or the byte itself.
use mathlib.Core.Path.{sym, ◌∙◌}
use Rattle.text.proofs.Meanings.{cleared, no-letter-raised}
use Rattle.text.proofs.letter.raise.Goals as goal

pub returns-then-is_letter : goal.returns-then-is_letter
returns-then-is_letter c = cleared _ (sym c.is_letter.ensures ∙ c.if-is_letter.true)

pub returns : goal.returns
returns c = no-letter-raised _ (sym c.is_letter.ensures ∙ c.if-is_letter.false)
