-- `text::spelling::any_wrong_by` meets its contract. The loop's invariant, `Clean`: whether the table has had 0 for each of the
-- first i. The measure is the number of bytes left.
use Rattle.text.proofs.Blocks.{Clean}
use Rattle.text.proofs.spelling.any_wrong_by.Given as goal

abbrev pub invariant-loop-byte : goal.invariant-loop-byte
invariant-loop-byte l = Clean l.classes l.part l.byte-index l.bad
