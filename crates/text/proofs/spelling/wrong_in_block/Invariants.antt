-- `text::spelling::wrong_in_block` meets its contract. The loop's invariant: whether one of the block's first bytes is no letter.
use mathlib.Core.Path.{◌≡◌}
use mathlib.Core.Bool.{not}
use lib.ListN.{take}
use Rattle.text.specs.Letter.{letter, every}
use Rattle.text.proofs.spelling.wrong_in_block.Given as goal

abbrev pub invariant-loop-byte : goal.invariant-loop-byte
invariant-loop-byte l = l.wrong ≡ not (every letter (take l.byte-index l.block))
