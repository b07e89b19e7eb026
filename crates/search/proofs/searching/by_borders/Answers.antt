-- `search::by_borders` meets its contract: a search from the fresh state is a search.
use Rattle.std.proofs.Common.{◌∙◌}
use Rattle.search.proofs.Searches.{fresh-marked, sums-one}
use Rattle.search.proofs.searching.by_borders.Goals as goal

pub returns : goal.returns
returns c =
    let whole = fresh-marked c.args.pattern.now _ c.args.stretch.now c.args.marks.now _ _ _ (c.marked_by_borders.ensures.result_value, c.marked_by_borders.ensures.marks_after) (c.from.ensures ∙ sums-one _) in record { result_value = whole.0; marks_after = whole.1 }
