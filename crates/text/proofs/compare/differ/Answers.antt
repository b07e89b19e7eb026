-- `text::compare::differ` meets its contract: equal bytes mean the same, bytes that differ by more than their case do not, and others where
-- they are letters.
use mathlib.Core.Path.{ap, ◌∙◌}
use mathlib.Core.Bool.{not}
use borrow.Author.Rules.{rules}
use Rattle.text.proofs.Likes.{differ_same, differ-more, differ-case}
use Rattle.text.proofs.compare.differ.Goals as goal

pub returns-then-a-b : goal.returns-then-a-b
returns-then-a-b c = differ_same _ _ c.if-a-b.true

pub returns-then-a-b-2 : goal.returns-then-a-b-2
returns-then-a-b-2 c = differ-more _ _ c.if-a-b-2.true

pub returns : goal.returns
returns c =
    ap not c.is_letter.ensures ∙ differ-case _ _ (search rules) (search rules) c.if-a-b.false c.if-a-b-2.false
