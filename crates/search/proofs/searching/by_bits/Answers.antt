-- `search::by_bits` meets its contract: a search from the fresh state is a search.
use Rattle.std.proofs.Common.{◌∙◌}
use Rattle.search.proofs.Searches.{fresh-marked, sums-one}
use Rattle.search.proofs.searching.by_bits.Goals as goal

pub returns : goal.returns
returns c =
    let whole = fresh-marked c.args.pattern.now _ c.args.stretch.now c.args.marks.now _ _ _ (c.marked.ensures.result_value, c.marked.ensures.marks_after) (c.from.ensures ∙ sums-one _) in record { result_value = whole.0; marks_after = whole.1 }
