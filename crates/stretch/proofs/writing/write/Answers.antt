-- `stretch::write` meets its contract: what the writer puts is what is told.
use mathlib.Core.Path.{sym, ap, ◌∙◌}
use Rattle.text.specs.Refusal.{outcome}
use Rattle.stretch.proofs.writing.write.Goals as goal

pub returns-in-Ok : goal.returns-in-Ok
returns-in-Ok c =
    record { answer = sym (ap outcome c.in-Ok.is) ∙ c.put_stretch.ensures.answer; buffer = c.put_stretch.ensures.buffer }

pub returns-in-Err : goal.returns-in-Err
returns-in-Err c =
    record { answer = sym (ap outcome c.in-Err.is) ∙ c.put_stretch.ensures.answer; buffer = c.put_stretch.ensures.buffer }
