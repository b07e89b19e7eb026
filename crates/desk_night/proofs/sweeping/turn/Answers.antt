-- `desk_night::sweeping::turn` meets its contract.
use mathlib.Core.Path.{refl, ap, ◌∙◌}
use Rattle.std.proofs.Common.{Option, Some}
use Rattle.std.specs.Option.{option_or}
use Rattle.desk_night.specs.declared.trouble.Trouble.{Trouble}
use Rattle.desk_night.specs.declared.sweeping.Swept.{Swept}
use Rattle.desk_night.proofs.Sweeps.{lands}
use Rattle.desk_night.proofs.sweeping.turn.Goals as goal

pub returns-in-Ok : goal.returns-in-Ok
returns-in-Ok c = lands _ _ _ _ _ refl c.moved_by.ensures c.in-Ok.is

pub returns-in-Err : goal.returns-in-Err
returns-in-Err c =
    let x : Swept = c.args.done in
    ap (λ (t : Option Trouble). record { standings = x.standings; trouble = t })
    (c.or.ensures ∙ ap (λ (t : Trouble). option_or x.trouble (Some t)) c.from.ensures)
    ∙ lands _ _ _ _ _ refl c.moved_by.ensures c.in-Err.is
