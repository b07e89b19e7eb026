-- `text::pattern::is_other` meets its contract: the rule of one byte.
use Rattle.text.proofs.Blocks.{other_byte}
use Rattle.text.proofs.pattern.is_other.Goals as goal

pub returns : goal.returns
returns c = other_byte c.args.byte
