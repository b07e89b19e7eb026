-- `text::strand::complement` meets its contract: an arm for each base, and every other byte is none.
use mathlib.Core.Path.{sym}
use Rattle.text.specs.Strand.{complement}
use Rattle.text.proofs.Strands.{complement-other}
use Rattle.text.proofs.strand.complement.Goals as goal

pub returns-in-65 : goal.returns-in-65
unfolding complement
returns-in-65 c = rw c.in-65.is

pub returns-in-84 : goal.returns-in-84
unfolding complement
returns-in-84 c = rw c.in-84.is

pub returns-in-67 : goal.returns-in-67
unfolding complement
returns-in-67 c = rw c.in-67.is

pub returns-in-71 : goal.returns-in-71
unfolding complement
returns-in-71 c = rw c.in-71.is

pub returns-in_default : goal.returns-in_default
returns-in_default c =
    let r = c.in_default.in_default-own.rest in
    sym (complement-other _ (record { not-A = r.0.0.0.1; not_T = r.0.0.1; not-C = r.0.1; not-G = r.1 }))
