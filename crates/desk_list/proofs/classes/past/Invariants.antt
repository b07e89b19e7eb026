-- `desk_list::classes::past` meets its contract. The loop's invariant, `Skipping`: the bytes before i are of the kind.
use Prim.Native.Nat.{ℕ, ◌<◌}
use mathlib.Core.Path.{◌≡◌}
use mathlib.Core.Bool.{Bool}
use Rattle.desk_list.proofs.Skips.{Skipping}
use Rattle.desk_list.proofs.classes.past.Given as goal

abbrev pub invariant-loop-i : goal.invariant-loop-i
invariant-loop-i g l =
    (kind : ℕ → Bool) → ((c : ℕ) (b : Bool) → c < 256 → goal.F-post g l.is c b → b ≡ kind c) → Skipping kind l.text l.from l.i
