-- `stretch::reading::read` meets its contract, from what `check` and `from_place` ensure.
use mathlib.Core.Path.{sym, ap, ◌∙◌}
use Rattle.stretch.specs.Answers.{told_checked}
use Rattle.stretch.proofs.ReadsAtPlace.{check-accepted, read-refused}
use Rattle.stretch.proofs.reading.read.Goals as goal

pub from_place-requires : goal.from_place-requires
from_place-requires c =
    check-accepted _ _ _ (sym (ap told_checked c.in-Sound.is) ∙ c.check.ensures)

pub returns-in-Refused : goal.returns-in-Refused
returns-in-Refused c =
    read-refused _ _ _ _ _ (sym (ap told_checked c.in-Refused.is) ∙ c.check.ensures)

pub returns-in-Sound : goal.returns-in-Sound
returns-in-Sound c = c.from_place.ensures
