-- `layout::number::pair` meets its contract: the two bytes are those of the definition.
use Rattle.std.proofs.Common.{arith}
use Rattle.layout.specs.Bytes.{word}
use Rattle.layout.proofs.number.pair.Goals as goal

pub returns : goal.returns
unfolding word
returns c = (omega (arith, c.from_le_bytes.ensures, c.from.ensures), omega arith)
