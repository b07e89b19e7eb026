-- Refusals have a number, so that 0 tells an acceptance.
use Prim.Native.Nat.{ℕ}
use mathlib.Core.Path.{◌≡◌}
use mathlib.Core.Bool.{Bool, true, false}
use Rattle.text.specs.Refusal.{Outcome, ok, refused, demand}

-- no refusal has the number of an acceptance
abbrev pub Numbered : {A : Type 0} → Outcome A → Type 0
Numbered (ok a) = Unit {0}
Numbered (refused n p) = n ≡ 0 → ⊥

pub demand-numbered : {A : Type 0} (t : Bool) (n p : ℕ) (o : Outcome A) → (n ≡ 0 → ⊥) → Numbered o → Numbered (demand t n p o)
demand-numbered true n p o h k = k
demand-numbered false n p o h k = h
