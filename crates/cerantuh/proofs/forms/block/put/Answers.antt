-- `cerantuh::forms::block::put` meets its contract: std's bytes of the number.
use Rattle.std.proofs.Common.{◌∙◌}
use Rattle.cerantuh.proofs.Blocks.{number-put}
use Rattle.cerantuh.proofs.forms.block.put.Goals as goal

pub returns : goal.returns
returns c = number-put _ _ _ _ (c.copy_from_slice.ensures.after ∙ c.to_le_bytes.ensures)
