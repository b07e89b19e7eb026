-- `search::letter_vectors::masks` meets its contract: what is turned in blank words of zeros is set.
use Rattle.search.proofs.BitScans.{filled-masks}
use Rattle.search.proofs.letter_vectors.masks.Goals as goal

pub returns : goal.returns
returns c = filled-masks _ _ c.filled.ensures
