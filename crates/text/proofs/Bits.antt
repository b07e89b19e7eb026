-- Laws of the bits of a number: shifts, remainders, single bits, and, or, complement; two numbers with the same bits are equal.
use Prim.Native.Nat.{ℕ, zero, suc, ◌+◌, ◌-◌, ◌*◌, ◌/◌, ◌%◌, ◌^◌, ◌<◌, ◌≤◌, suc-le-suc}
use native.Mathlib.Nat.{le_of_suc-le-suc, lt_of_lt_of_le, zero-lt-suc}
use native.Mathlib.Nat.{pow-suc, mod-lt, mul-mod_left, div-one, zero-div, div-eq_of_lt, mul-div_cancel}
use native.Mathlib.Numerals.{one-add}
use native.Mathlib.Omega.{arith}
use mathlib.Core.Path.{◌≡◌, refl, sym, ap₂, ◌∙◌}
use mathlib.Core.Logic.{◌↔◌}
use mathlib.Core.Bool.{Bool, true, false, not, ◌||◌, ◌&&◌, cond}
use borrow.Author.Tests.{eqb-true, eq-eqb}
use lib.Arith.{lt-one, digits_div, digits_lt, digits_mod}
use lib.Bits.{bit_and, bit_or, and_shr, and_mod, or_shr, or_mod, shifted_half, shifted_even}
use lib.Dec.{eqb, eqb-zero-suc, eqb-suc-zero, eqb-suc-suc, lit<}
use lib.Pow.{pow_pos, pow_mono, shr-shr, shl-shr, field, mod-mod-pow}
use Rattle.text.specs.Bits.{bit, from_bits}

-- the test that code makes, `(a >> r) % 2 == 1`
pub bit-shr-test : (a r : ℕ) → eqb (a / 2 ^ r % 2) 1 ≡ bit a r
unfolding bit
bit-shr-test a r = refl

-- shifted down by k
pub bit-shr : (a k r : ℕ) → bit (a / 2 ^ k) r ≡ bit a (k + r)
unfolding bit
bit-shr a k r = rw shr-shr

-- bit 0, and the bits after it
pub bit-first : (a : ℕ) → bit a 0 ≡ eqb (a % 2) 1
unfolding bit
bit-first a = rw div-one

pub bit-half : (a r : ℕ) → bit a (suc r) ≡ bit (a / 2) r
bit-half a r = rw (← one-add r) (sym (bit-shr a 1 r))

pub bit-zero : (r : ℕ) → bit 0 r ≡ false
unfolding bit
bit-zero r = rw zero-div

-- no bit from k up in a number below 2 ^ k
pub bit-above : (a k r : ℕ) → a < 2 ^ k → k ≤ r → bit a r ≡ false
unfolding bit
bit-above a k r l h = let e : a / 2 ^ r ≡ 0 = div-eq_of_lt (lt_of_lt_of_le l (pow_mono h)) in rw e

-- a bit as a digit, as `from_bits` writes it
digit : Bool → ℕ
digit b = cond b 1 0

digit_lt : (b : Bool) → digit b < 2
unfolding digit
digit_lt true = lit< tt
digit_lt false = lit< tt

digit-test : (b : Bool) → eqb (digit b) 1 ≡ b
unfolding digit
digit-test true = refl
digit-test false = refl

test-digit : (n : ℕ) → n < 2 → n ≡ digit (eqb n 1)
unfolding digit
test-digit zero l = refl
test-digit (suc zero) l = refl
test-digit (suc (suc n)) l = absurd (let z : ⊥ = omega arith in z)

digit_not : (b : Bool) → digit (not b) ≡ 1 - digit b
unfolding digit
digit_not true = refl
digit_not false = refl

bit-digit : (a r : ℕ) → a / 2 ^ r % 2 ≡ digit (bit a r)
unfolding bit
bit-digit a r = test-digit (a / 2 ^ r % 2) (mod-lt (a / 2 ^ r) (lit< tt))

-- a number is its half with bit 0 put below it
half-digit : (a : ℕ) → a ≡ a / 2 * 2 + digit (bit a 0)
half-digit a = omega (arith, bit-digit a 0, div-one a)

-- a bit put below a number is bit 0, and the number's bits stand after it
below-first : (a : ℕ) (b : Bool) → bit (a * 2 + digit b) 0 ≡ b
below-first a b = rw (bit-first, digits_mod a (digit_lt b)) (digit-test b)

below-behind : (a : ℕ) (b : Bool) (r : ℕ) → bit (a * 2 + digit b) (suc r) ≡ bit a r
below-behind a b r = rw (bit-half, digits_div a (digit_lt b))

half_lt : (a k : ℕ) → a < 2 ^ suc k → a / 2 < 2 ^ k
half_lt a k l = omega (arith, pow-suc 2 k)

-- two numbers below 2 ^ k with the same bits are equal
pub bit-ext : (k a b : ℕ) → a < 2 ^ k → b < 2 ^ k → ((r : ℕ) → r < k → bit a r ≡ bit b r) → a ≡ b
bit-ext zero a b la lb h = lt-one la ∙ sym (lt-one lb)
bit-ext (suc k) a b la lb h =
    let halves : a / 2 ≡ b / 2 = bit-ext k (a / 2) (b / 2) (half_lt a k la) (half_lt b k lb) behind in
    half-digit a ∙ ap₂ (λ (n : ℕ) (d : Bool). n * 2 + digit d) halves (h 0 (zero-lt-suc k)) ∙ sym (half-digit b)
  where
    behind : (r : ℕ) → r < k → bit (a / 2) r ≡ bit (b / 2) r
    behind r l = rw (← bit-half a r, ← bit-half b r) (h (suc r) (suc-le-suc l))

pub bit-from_bits : (f : ℕ → Bool) (n r : ℕ) → r < n → bit (from_bits f n) r ≡ f r
unfolding from_bits digit
bit-from_bits f zero r l = absurd (let z : ⊥ = omega arith in z)
bit-from_bits f (suc n) zero l = below-first (from_bits (λ r. f (suc r)) n) (f 0)
bit-from_bits f (suc n) (suc r) l =
    below-behind (from_bits (λ r. f (suc r)) n) (f 0) r ∙ bit-from_bits (λ r. f (suc r)) n r (le_of_suc-le-suc l)

pub from_bits-lt : (f : ℕ → Bool) (n : ℕ) → from_bits f n < 2 ^ n
unfolding from_bits digit
from_bits-lt f zero = lit< tt
from_bits-lt f (suc n) = rw pow-suc (digits_lt (from_bits-lt (λ r. f (suc r)) n) (digit_lt (f 0)))

-- an operation that goes digit by digit does to every bit what it does to the digits 0 and 1
bitwise : (op : ℕ → ℕ → ℕ) (on : Bool → Bool → Bool)
    → ((a b k : ℕ) → op a b / 2 ^ k ≡ op (a / 2 ^ k) (b / 2 ^ k))
    → ((a b k : ℕ) → op a b % 2 ^ k ≡ op (a % 2 ^ k) (b % 2 ^ k))
    → ((x y : Bool) → eqb (op (digit x) (digit y)) 1 ≡ on x y)
    → (a b r : ℕ) → bit (op a b) r ≡ on (bit a r) (bit b r)
bitwise op on high low digits a b r =
    rw (← bit-shr-test (op a b) r, high a b r, low (a / 2 ^ r) (b / 2 ^ r) 1, bit-digit a r, bit-digit b r) (digits (bit a r) (bit b r))

pub bit-and : (a b r : ℕ) → bit (bit_and a b) r ≡ (bit a r && bit b r)
unfolding digit
bit-and = bitwise bit_and ◌&&◌ and_shr and_mod digits
  where
    digits : (x y : Bool) → eqb (bit_and (digit x) (digit y)) 1 ≡ (x && y)
    digits true true = refl
    digits true false = refl
    digits false y = refl

pub bit-or : (a b r : ℕ) → bit (bit_or a b) r ≡ (bit a r || bit b r)
unfolding digit
bit-or = bitwise bit_or ◌||◌ or_shr or_mod digits
  where
    digits : (x y : Bool) → eqb (bit_or (digit x) (digit y)) 1 ≡ (x || y)
    digits true true = refl
    digits true false = refl
    digits false y = digit-test y

-- shifted up by k
pub bit-shl : (a k r : ℕ) → bit (a * 2 ^ k) (k + r) ≡ bit a r
bit-shl a k r = rw (← bit-shr (a * 2 ^ k) k r, shl-shr)

pub bit-shl-below : (a k r : ℕ) → r < k → bit (a * 2 ^ k) r ≡ false
bit-shl-below a zero r l = absurd (let z : ⊥ = omega arith in z)
bit-shl-below a (suc k) zero l = rw (bit-first, shifted_even)
bit-shl-below a (suc k) (suc r) l = rw (bit-half, shifted_half) (bit-shl-below a k r (le_of_suc-le-suc l))

-- the lowest k bits
pub bit-mod : (a k r : ℕ) → r < k → bit (a % 2 ^ k) r ≡ bit a r
unfolding bit
bit-mod a k r l = let e : k - suc r + 1 + r ≡ k = omega arith in rw e at (kept (k - suc r))
  where
    kept : (d : ℕ) → bit (a % 2 ^ (d + 1 + r)) r ≡ bit a r
    kept d = rw (field, mod-mod-pow (a / 2 ^ r) d 1)

pub bit-mod-above : (a k r : ℕ) → k ≤ r → bit (a % 2 ^ k) r ≡ false
bit-mod-above a k r l = bit-above (a % 2 ^ k) k r (mod-lt a (pow_pos k)) l

-- a single bit
pub bit-single : (k r : ℕ) → bit (2 ^ k) r ≡ eqb k r
bit-single zero zero = bit-first 1
bit-single zero (suc r) = rw (bit-half, bit-zero, eqb-zero-suc)
bit-single (suc k) zero = rw (bit-first, pow-suc, mul-mod_left, eqb-suc-zero)
bit-single (suc k) (suc r) = rw (bit-half, pow-suc, mul-div_cancel (2 ^ k) (lit< tt), eqb-suc-suc) (bit-single k r)

-- a single bit is set at its own place alone
pub lone-bit : (k r : ℕ) → (bit (2 ^ k) r ≡ true) ↔ (k ≡ r)
lone-bit k r = rw bit-single (eqb-true k r, eq-eqb k r)

complement-digit : (a k : ℕ) → a < 2 ^ suc k → (2 ^ suc k - 1) - a ≡ ((2 ^ k - 1) - a / 2) * 2 + digit (not (bit a 0))
complement-digit a k l = omega (arith, pow-suc 2 k, half-digit a, digit_not (bit a 0))

-- the complement in k bits
pub bit_not : (a k r : ℕ) → a < 2 ^ k → r < k → bit ((2 ^ k - 1) - a) r ≡ not (bit a r)
bit_not a zero r l h = absurd (let z : ⊥ = omega arith in z)
bit_not a (suc k) zero l h = rw complement-digit (below-first ((2 ^ k - 1) - a / 2) (not (bit a 0)))
bit_not a (suc k) (suc r) l h =
    rw (complement-digit, below-behind, bit-half) (bit_not (a / 2) k r (half_lt a k l) (le_of_suc-le-suc h))
