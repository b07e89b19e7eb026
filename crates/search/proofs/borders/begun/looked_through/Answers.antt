-- `search::borders::begun::looked_through` meets its contract: a variant shorter than the pattern does not have it, and its end is all that
-- is told of it.
use Rattle.search.proofs.BorderEnds.{ending-scans}
use Rattle.search.proofs.borders.begun.looked_through.Goals as goal

pub returns-then-variant-pattern : goal.returns-then-variant-pattern
returns-then-variant-pattern c =
    ending-scans c.args.variant.now c.if-variant-pattern.true c.longest_end.ensures
