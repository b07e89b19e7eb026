-- `watch::sight::scan` meets its contract. The loop's invariant, `Scanning`: the word has the bits of the state that the letters read so
-- far lead to.
use Prim.Native.Nat.{ℕ}
use mathlib.Core.List.{List}
use Rattle.watch.specs.Sight.{Armed}
use Rattle.watch.proofs.Sights.{Scanning}
use Rattle.watch.proofs.sight.scan.Given as goal

abbrev pub invariant-loop-letter : goal.invariant-loop-letter
invariant-loop-letter l = (P : List ℕ) → Armed P l.vectors l.bits
    → Scanning P l.bits l.variant l.letter-index l.before l.out l.missed
