-- `lines::strands::search_on` meets its contract: it is that of the search that these strands ask for.
use Rattle.lines.proofs.Screens.{known_on}
use Rattle.lines.proofs.strands.search_on.Goals as goal

pub returns-in-One : goal.returns-in-One
returns-in-One c =
    let whole = known_on c.in-One.is _ _ _ _ _ c.by_bits.result (c.by_bits.ensures.result_value, c.by_bits.ensures.marks_after) in record { result_value = whole.0; marks_after = whole.1 }

pub returns-in-Either : goal.returns-in-Either
returns-in-Either c =
    let whole = known_on c.in-Either.is _ _ _ _ _ c.either.result (c.either.ensures.result_value, c.either.ensures.marks_after) in record { result_value = whole.0; marks_after = whole.1 }
