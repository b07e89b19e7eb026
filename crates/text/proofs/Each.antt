-- What holds of each number below n + 1: of the first and of those after it, or of those before the last and of the last.
use Prim.Native.Nat.{ℕ, zero, suc, ◌<◌}
use native.Mathlib.Omega.{arith}
use native.Mathlib.Decide.{dec_lt}
use mathlib.Core.Path.{◌≡◌}
use mathlib.Core.Logic.{◌↔◌, by_cases}

pub each_first : (A : ℕ → Type 0) (n : ℕ) → ((q : ℕ) → q < suc n → A q) ↔ (A 0 × ((q : ℕ) → q < n → A (suc q)))
each_first A n = (λ h. (h 0 (omega arith), λ q l. h (suc q) (omega arith)), λ h q l. at q l h)
  where
    at : (q : ℕ) → q < suc n → A 0 × ((q : ℕ) → q < n → A (suc q)) → A q
    at zero l h = h.0
    at (suc q) l h = h.1 q (omega arith)

pub each_last : (A : ℕ → Type 0) (n : ℕ) → ((q : ℕ) → q < suc n → A q) ↔ (((q : ℕ) → q < n → A q) × A n)
each_last A n = (
  λ h. (λ q l. h q (omega arith), h n (omega arith)),
  λ h q l. by_cases (dec_lt q n) (λ (k : q < n). h.0 q k) (λ (k : ¬ (q < n)). let e : q ≡ n = omega arith in rw e h.1),
)
