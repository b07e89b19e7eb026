-- `search::vectors::complements` meets its contract: what is turned in blank words of ones is clear.
use Rattle.search.proofs.BitScans.{filled-others, bases-most}
use Rattle.search.proofs.vectors.complements.Goals as goal

pub returns : goal.returns
returns c = filled-others _ _ (bases-most _) c.filled.ensures
