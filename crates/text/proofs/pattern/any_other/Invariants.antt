-- `text::pattern::any_other` meets its contract. The loop's invariant: whether one of the first i is no base. The measure is the number
-- of bytes left.
use mathlib.Core.Path.{◌≡◌}
use mathlib.Core.Bool.{not}
use lib.ListN.{take}
use Rattle.text.specs.Letter.{base, every}
use Rattle.text.proofs.pattern.any_other.Given as goal

abbrev pub invariant-loop-byte : goal.invariant-loop-byte
invariant-loop-byte l = l.wrong ≡ not (every base (take l.byte-index l.bytes))
