-- `desk_verdict::standing::pass` meets its contract: a refusal is that of the search, and else the sums are what it tells.
use Rattle.desk_verdict.proofs.Standings.{passes-not, passes-to}
use Rattle.desk_verdict.proofs.standing.pass.Goals as goal

pub returns-in-Refused : goal.returns-in-Refused
returns-in-Refused c =
    let whole = passes-not _ _ _ _ _ _ _ c.through.ensures.result_value c.through.ensures.marks_after _ c.in-Refused.is in record { result_value = whole.0; marks_after = whole.1 }

pub returns-in-Marked : goal.returns-in-Marked
returns-in-Marked c =
    let whole = passes-to _ _ _ _ _ _ _ c.through.ensures.result_value c.through.ensures.marks_after _ _ _ _ c.in-Marked.is _ _ c.plus-all.ensures c.plus-marked.ensures in record { result_value = whole.0; marks_after = whole.1 }
