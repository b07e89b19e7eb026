-- `text::spelling::wrong_in_blocks` meets its contract. The loop's invariant, `Blocks`: those before `at` and the last block are tested.
-- The measure is the number of bytes left before the last block.
use Rattle.text.specs.Letter.{letter}
use Rattle.text.proofs.Blocks.{Blocks}
use Rattle.text.proofs.spelling.wrong_in_blocks.Given as goal

abbrev pub invariant-loop-at : goal.invariant-loop-at
invariant-loop-at l = Blocks letter l.part 16 l.at l.wrong
