-- `text::letter::meaning` meets its contract: an arm for each base and for N, and every other byte is no letter.
use Rattle.text.proofs.Meanings.{either-A, either-C, either-G, either-T, either-N, none_of}
use Rattle.text.proofs.letter.meaning.Goals as goal

pub returns-in-65 : goal.returns-in-65
returns-in-65 c = either-A _ c.in-65.is

pub returns-in-67 : goal.returns-in-67
returns-in-67 c = either-C _ c.in-67.is

pub returns-in-71 : goal.returns-in-71
returns-in-71 c = either-G _ c.in-71.is

pub returns-in-84 : goal.returns-in-84
returns-in-84 c = either-T _ c.in-84.is

pub returns-in-78 : goal.returns-in-78
returns-in-78 c = either-N _ c.in-78.is

pub returns-in_default : goal.returns-in_default
returns-in_default c =
    let r = c.in_default.in_default-own.rest in
    none_of _ (record { not-A = r.0.0.0.0.1; not-C = r.0.0.0.1; not-G = r.0.0.1; not_T = r.0.1; not-N = r.1 })
