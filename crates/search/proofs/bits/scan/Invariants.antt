-- `search::bits::scan` meets its contract. The loop's invariant, `Turning`: the word has the bits of the state that the letters read so
-- far lead to.
use Prim.Native.Nat.{ℕ}
use mathlib.Core.List.{List}
use Rattle.search.specs.Masks.{Ready}
use Rattle.search.proofs.BitScans.{Turning}
use Rattle.search.proofs.bits.scan.Given as goal

abbrev pub invariant-loop-letter : goal.invariant-loop-letter
invariant-loop-letter l =
    (P : List ℕ) → Ready P l.others l.classes l.bits → Turning P l.bits l.variant l.letter-index l.before l.out l.missed l.bad
