-- `text::letter::is_base` meets its contract: a byte that means a base is one where it is that base, in upper case.
use mathlib.Core.Path.{sym, ap, ◌∙◌}
use Rattle.text.proofs.Meanings.{is_base, meaning-base, meaning-other}
use Rattle.text.proofs.letter.is_base.Goals as goal

pub returns-in-Base : goal.returns-in-Base
returns-in-Base c =
    meaning-base _ _ (sym c.meaning.ensures ∙ c.in-Base.is)

pub returns-in-Unknown : goal.returns-in-Unknown
returns-in-Unknown c =
    meaning-other _ (ap is_base (sym c.meaning.ensures ∙ c.in-Unknown.is))

pub returns-in-None : goal.returns-in-None
returns-in-None c =
    meaning-other _ (ap is_base (sym c.meaning.ensures ∙ c.in-None.is))
