-- `search::either` meets its contract: a search from the fresh states is a search.
use Rattle.std.proofs.Common.{◌∙◌}
use Rattle.search.proofs.Eithers.{both-fresh, both-sums}
use Rattle.search.proofs.both.either.Goals as goal

pub returns : goal.returns
returns c =
    let whole = both-fresh c.args.pattern.now c.args.stretch.now c.args.marks.now _ _ _ (c.marked.ensures.result_value, c.marked.ensures.marks_after) (c.from.ensures ∙ both-sums _) in record { result_value = whole.0; marks_after = whole.1 }
