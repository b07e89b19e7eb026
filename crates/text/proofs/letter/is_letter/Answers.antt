-- `text::letter::is_letter` meets its contract: every byte that means something is one.
use mathlib.Core.Path.{sym, ap, ◌∙◌}
use Rattle.text.proofs.Meanings.{named, meaning-named}
use Rattle.text.proofs.letter.is_letter.Goals as goal

pub returns-in-Base : goal.returns-in-Base
returns-in-Base c = sym (ap named (sym c.meaning.ensures ∙ c.in-Base.is)) ∙ meaning-named _

pub returns-in-Unknown : goal.returns-in-Unknown
returns-in-Unknown c = sym (ap named (sym c.meaning.ensures ∙ c.in-Unknown.is)) ∙ meaning-named _

pub returns-in-None : goal.returns-in-None
returns-in-None c = sym (ap named (sym c.meaning.ensures ∙ c.in-None.is)) ∙ meaning-named _
