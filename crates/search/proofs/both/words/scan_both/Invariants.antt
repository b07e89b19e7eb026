-- `search::both::words::scan_both` meets its contract. The loop's invariant, `Turning` on each strand: its word has the bits of the state
-- that the letters read so far lead to.
use Prim.Native.Nat.{ℕ}
use mathlib.Core.Path.{◌≡◌}
use mathlib.Core.List.{List}
use Rattle.search.specs.Masks.{others, Ready}
use Rattle.search.specs.Either.{evens, odds}
use Rattle.search.proofs.BitScans.{Turning}
use Rattle.search.proofs.both.words.scan_both.Given as goal

abbrev pub invariant-loop-letter : goal.invariant-loop-letter
invariant-loop-letter l =
    ((st : ℕ) → l.initial.d ≡ others st → (P : List ℕ) → Ready P (evens l.table) l.classes st → Turning P st l.variant l.letter-index l.initial.missed l.d l.missed l.bad)
    × ((st : ℕ) → l.initial.e ≡ others st → (P : List ℕ) → Ready P (odds l.table) l.classes st → Turning P st l.variant l.letter-index l.initial.met l.e l.met l.bad)
