-- `lines::strands::by_word` meets its contract: one test for each word.
use mathlib.Core.Path.{sym, ◌∙◌}
use Rattle.lines.proofs.Screens.{named-given, named-opposite, named-either, named-unknown}
use Rattle.lines.proofs.strands.by_word.Goals as goal

pub returns-then-same : goal.returns-then-same
returns-then-same c = named-given _ (sym c.same.ensures ∙ c.if-same.true)

pub returns-then-same-2 : goal.returns-then-same-2
returns-then-same-2 c =
    named-opposite _ (sym c.same.ensures ∙ c.if-same.false) (sym c.same-2.ensures ∙ c.if-same-2.true)

pub returns-then-same-3 : goal.returns-then-same-3
returns-then-same-3 c =
    named-either _ (sym c.same.ensures ∙ c.if-same.false) (sym c.same-2.ensures ∙ c.if-same-2.false)
    (sym c.same-3.ensures ∙ c.if-same-3.true)

pub returns : goal.returns
returns c =
    named-unknown _ (sym c.same.ensures ∙ c.if-same.false) (sym c.same-2.ensures ∙ c.if-same-2.false)
    (sym c.same-3.ensures ∙ c.if-same-3.false)
