-- A number as a set of bits.
use Rattle.std.specs.Prelude.{ℕ, zero, suc, ◌+◌, ◌-◌, ◌*◌, ◌/◌, ◌%◌, ◌^◌, min, Bool, false, ◌||◌, cond, List, [], ◌∷◌, eqb}

-- bit r of a number is set
unfoldable pub bit : ℕ → ℕ → Bool
bit st r = eqb (st / 2 ^ r % 2) 1

-- the lowest m of 64 bits set: 2 ^ m - 1 for an m up to 64, and all 64 bits for an m above
unfoldable pub low : ℕ → ℕ
low m = 2 ^ min m 64 - 1

-- the number below 2 ^ n whose bit r is f r
unfoldable pub from_bits : (ℕ → Bool) → ℕ → ℕ
from_bits f zero = 0
from_bits f (suc n) = from_bits (λ r. f (suc r)) n * 2 + cond (f 0) 1 0

-- f holds of some number below n
unfoldable pub any_below : (ℕ → Bool) → ℕ → Bool
any_below f zero = false
any_below f (suc n) = any_below f n || f n

-- f holds of some member
unfoldable pub any_of : {A : Type 0} → (A → Bool) → List A → Bool
any_of f [] = false
any_of f (a ∷ l) = f a || any_of f l
