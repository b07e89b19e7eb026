-- Laws of sizes.
use Prim.Native.Nat.{ℕ, zero, suc, ◌+◌, ◌*◌, ◌≤◌}
use native.Mathlib.Nat.{mul-zero, mul-suc}
use native.Mathlib.Omega.{arith}
use mathlib.Core.Path.{◌≡◌, refl, sym}
use mathlib.Core.List.{List, [], ◌∷◌, ◌++◌}
use lib.ListN.{length}
use Rattle.text.specs.Text.{total, counted}

-- a variant counts no more than its length field and its letters take
pub counted-le : (n : ℕ) → counted n ≤ n + 2
unfolding counted
counted-le zero = omega arith
counted-le (suc n) = omega arith

-- the empty variant counts one, and every other its letters
pub counted_none : (n : ℕ) → n ≡ 0 → 1 ≡ counted n
unfolding counted
counted_none zero e = refl
counted_none (suc n) e = absurd (let z : ⊥ = omega (arith, e) in z)

pub counted-some : (n : ℕ) → (n ≡ 0 → ⊥) → n ≡ counted n
unfolding counted
counted-some zero ne = absurd (ne refl)
counted-some (suc n) ne = refl

pub total-append : {A : Type 0} (f : A → ℕ) (l k : List A) → total f (l ++ k) ≡ total f l + total f k
unfolding total
total-append f [] k = omega arith
total-append f (a ∷ l) k = omega (arith, total-append f l k)

pub total-snoc : {A : Type 0} (f : A → ℕ) (l : List A) (a : A) → total f (l ++ (a ∷ [])) ≡ total f l + f a
unfolding total
total-snoc f l a = omega (arith, total-append f l (a ∷ []))

pub total-each : {A : Type 0} (n : ℕ) (l : List A) → total (λ a. n) l ≡ n * length l
unfolding total
total-each n [] = sym (mul-zero n)
total-each n (a ∷ l) = omega (arith, total-each n l, mul-suc n (length l))
