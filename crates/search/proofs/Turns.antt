-- Laws of complemented words: their complements, what a shift brings into them, the bits from n up, and bits turned one by one.
use Prim.Native.Nat.{ℕ, zero, suc, ◌+◌, ◌-◌, ◌*◌, ◌/◌, ◌%◌, ◌^◌, ◌≤◌, ◌<◌}
use native.Mathlib.Nat.{pow-suc, one-mul, mul-suc, mul_comm, mod-lt, mod-eq_of_lt, div-add-mod'}
use native.Mathlib.Numerals.{one-add}
use native.Mathlib.Decide.{dec_lt}
use native.Mathlib.Omega.{arith}
use mathlib.Core.Path.{◌≡◌, refl, sym, ap, ap₂, ◌∙◌}
use mathlib.Core.Logic.{by_cases}
use mathlib.Core.Bool.{Bool, true, false, not, ◌||◌, ◌&&◌}
use borrow.Author.Tests.{lt-ltb, le-ltb}
use lib.Arith.{digits_mod}
use lib.Bits.{bit_and, bit_or, bit_xor, and_lt, and_mask, or_lt, or_shifted_r}
use lib.Bits.{xor_zero_r, xor_lt, xor_block, xor_add_and}
use lib.Dec.{ltb, lit<}
use lib.Pow.{pow_pos, pow-lt, pow_mono, ones_sub-lt}
use Rattle.text.specs.Bits.{bit}
use Rattle.text.proofs.Truth.{or-false, or_right, and_assoc}
use Rattle.text.proofs.Bits.{bit-ext, bit-or, bit-and, bit-single, bit-shl, bit-shl-below, bit-mod, bit-mod-above, bit_not}
use Rattle.search.specs.Masks.{others}

-- the complement of a word, bit by bit and as a whole
module _ (a : ℕ) (la : a < 2 ^ 64) where
  others-bit : (r : ℕ) → r < 64 → bit (others a) r ≡ not (bit a r)
  others-bit r l = bit_not a 64 r la l

  pub others-twice : others (others a) ≡ a
  others-twice = omega arith

  module _ (b : ℕ) (lb : b < 2 ^ 64) where
    pub others-or : bit_and (others a) (others b) ≡ others (bit_or a b)
    others-or =
        bit-ext 64 (bit_and (others a) (others b)) (others (bit_or a b))
        (and_lt 64 (others a) (others b) (ones_sub-lt 64 a) (ones_sub-lt 64 b)) (ones_sub-lt 64 (bit_or a b))
        (λ r l. bit-and (others a) (others b) r ∙ ap₂ ◌&&◌ (others-bit r l) (bit_not b 64 r lb l)
        ∙ step (bit a r) (bit b r) ∙ sym (bit_not (bit_or a b) 64 r (or_lt 64 a b la lb) l ∙ ap not (bit-or a b r)))
      where
        step : (x y : Bool) → (not x && not y) ≡ not (x || y)
        step true y = refl
        step false y = refl

    pub others-and : bit_or (others a) (others b) ≡ others (bit_and a b)
    others-and =
        bit-ext 64 (bit_or (others a) (others b)) (others (bit_and a b))
        (or_lt 64 (others a) (others b) (ones_sub-lt 64 a) (ones_sub-lt 64 b)) (ones_sub-lt 64 (bit_and a b))
        (λ r l. bit-or (others a) (others b) r ∙ ap₂ ◌||◌ (others-bit r l) (bit_not b 64 r lb l)
        ∙ step (bit a r) (bit b r) ∙ sym (bit_not (bit_and a b) 64 r (and_lt 64 a b la lb) l ∙ ap not (bit-and a b r)))
      where
        step : (x y : Bool) → (not x || not y) ≡ not (x && y)
        step true y = refl
        step false y = refl

-- a shift of the complement lets an occurrence start afresh
pub others-shift : (a : ℕ) → a < 2 ^ 64 → others (a * 2 ^ 1 % 2 ^ 64) ≡ bit_or (others a * 2 ^ 1 % 2 ^ 64) 1
others-shift a la =
    bit-ext 64 (others (a * 2 ^ 1 % 2 ^ 64)) (bit_or (others a * 2 ^ 1 % 2 ^ 64) 1) (ones_sub-lt 64 (a * 2 ^ 1 % 2 ^ 64))
    (or_lt 64 (others a * 2 ^ 1 % 2 ^ 64) 1 (mod-lt (others a * 2 ^ 1) (pow_pos 64)) (lit< tt)) each
  where
    shifted-bit : (x r : ℕ) → suc r < 64 → bit (x * 2 ^ 1 % 2 ^ 64) (suc r) ≡ bit x r
    shifted-bit x r l = bit-mod (x * 2 ^ 1) 64 (suc r) l ∙ rw (← one-add r) (bit-shl x 1 r)

    each : (r : ℕ) → r < 64 → bit (others (a * 2 ^ 1 % 2 ^ 64)) r ≡ bit (bit_or (others a * 2 ^ 1 % 2 ^ 64) 1) r
    each zero l =
        bit_not (a * 2 ^ 1 % 2 ^ 64) 64 0 (mod-lt (a * 2 ^ 1) (pow_pos 64)) l
        ∙ ap not (bit-mod (a * 2 ^ 1) 64 0 l ∙ bit-shl-below a 1 0 (lit< tt))
        ∙ sym (bit-or (others a * 2 ^ 1 % 2 ^ 64) 1 0 ∙ or_right (bit (others a * 2 ^ 1 % 2 ^ 64) 0) (bit 1 0) (bit-single 0 0))
    each (suc r) l =
        let near : r < 64 = omega arith in
        bit_not (a * 2 ^ 1 % 2 ^ 64) 64 (suc r) (mod-lt (a * 2 ^ 1) (pow_pos 64)) l
        ∙ ap not (shifted-bit a r l)
        ∙ sym (bit_not a 64 r la near)
        ∙ sym
        (bit-or (others a * 2 ^ 1 % 2 ^ 64) 1 (suc r)
        ∙ ap₂ ◌||◌ (shifted-bit (others a) r l) (bit-mod-above 1 1 (suc r) (omega arith))
        ∙ or-false (bit (others a) r))

-- bits that three words have
pub and-and : (a b c : ℕ) → a < 2 ^ 64 → b < 2 ^ 64 → c < 2 ^ 64 → bit_and (bit_and a b) c ≡ bit_and a (bit_and b c)
and-and a b c la lb lc =
    bit-ext 64 (bit_and (bit_and a b) c) (bit_and a (bit_and b c)) (and_lt 64 (bit_and a b) c (and_lt 64 a b la lb) lc)
    (and_lt 64 a (bit_and b c) la (and_lt 64 b c lb lc))
    (λ r l. bit-and (bit_and a b) c r ∙ ap (λ (x : Bool). x && bit c r) (bit-and a b r) ∙ and_assoc (bit a r) (bit b r) (bit c r)
    ∙ sym (bit-and a (bit_and b c) r ∙ ap (λ (x : Bool). bit a r && x) (bit-and b c r)))

-- nothing is taken out of what was missed
pub missed-all : (before : ℕ) → before < 2 ^ 64 → before ≡ bit_and before (others 0)
missed-all before fits = sym (and_mask before 64 ∙ mod-eq_of_lt fits)

-- a number of ones that is taken that many times
times-ones : (o p : ℕ) → p ≤ o → o * suc p ≡ p * suc o + (o - p)
times-ones o p l =
    let a : o * suc p ≡ o * p + o = mul-suc o p in
    let b : p * suc o ≡ p * o + p = mul-suc p o in
    let c : p * o ≡ o * p = mul_comm p o in
    omega (arith, a, b, c)

-- the bits from n up, as they are made from a word of ones, and shifted once more
pub high_ones : (n : ℕ) → n < 64 → 0xffff_ffff_ffff_ffff * 2 ^ n % 2 ^ 64 ≡ 2 ^ 64 - 2 ^ n
high_ones n l =
    let fits : 2 ^ n < 2 ^ 64 = pow-lt l in
    let p = 2 ^ n - 1 in
    let one : 2 ^ n ≡ suc p = omega (arith, pow_pos n) in
    let less : p ≤ 0xffff_ffff_ffff_ffff = omega (arith, fits) in
    let rest : 0xffff_ffff_ffff_ffff - p < 2 ^ 64 = omega arith in
    ap (λ (x : ℕ). 0xffff_ffff_ffff_ffff * x % 2 ^ 64) one
    ∙ ap (λ (x : ℕ). x % 2 ^ 64) (times-ones 0xffff_ffff_ffff_ffff p less)
    ∙ digits_mod p rest
    ∙ omega (arith, one, fits)

twice-high : (w x y h : ℕ) → h ≡ w - x → y ≡ x * 2 → y ≤ w → h * 2 ≡ 1 * w + (w - y)
twice-high w x y h is twice l = omega (arith, is, twice)

pub low-others : (n high : ℕ) → n < 64 → high ≡ 0xffff_ffff_ffff_ffff * 2 ^ n % 2 ^ 64
    → others (high * 2 ^ 1 % 2 ^ 64) ≡ 2 ^ suc n - 1
low-others n high l e =
    let fits : 2 ^ suc n ≤ 2 ^ 64 = pow_mono l in
    let whole = twice-high (2 ^ 64) (2 ^ n) (2 ^ suc n) high (e ∙ high_ones n l) (pow-suc 2 n) fits in
    let rest : 2 ^ 64 - 2 ^ suc n < 2 ^ 64 = omega (arith, pow_pos (suc n)) in
    let twice : high * 2 ^ 1 % 2 ^ 64 ≡ 2 ^ 64 - 2 ^ suc n = ap (λ (x : ℕ). x % 2 ^ 64) whole ∙ digits_mod 1 rest in
    omega (arith, twice, pow_pos (suc n), fits)

-- a word is below the bits from n up exactly when its other bits are above those below n
pub high_others : (n a : ℕ) → n < 64 → a < 2 ^ 64 → ltb a (2 ^ 64 - 2 ^ n) ≡ ltb (2 ^ n - 1) (others a)
high_others n a near l =
    by_cases (dec_lt a (2 ^ 64 - 2 ^ n))
    (λ (h : a < 2 ^ 64 - 2 ^ n).
    lt-ltb a (2 ^ 64 - 2 ^ n) h ∙ sym (lt-ltb (2 ^ n - 1) (others a) (let z : 2 ^ n - 1 < others a = omega (arith, pow_pos n) in z)))
    (λ (h : ¬ (a < 2 ^ 64 - 2 ^ n)).
    let fits : 2 ^ n < 2 ^ 64 = pow-lt near in
    le-ltb a (2 ^ 64 - 2 ^ n) (let z : 2 ^ 64 - 2 ^ n ≤ a = omega arith in z)
    ∙ sym (le-ltb (2 ^ n - 1) (others a) (let z : others a ≤ 2 ^ n - 1 = omega (arith, pow_pos n) in z)))

-- a bit above those of f is turned: in f, or in what f is turned in
pub xor-more : (a f k : ℕ) → f < 2 ^ k → bit_xor (bit_xor a f) (2 ^ k) ≡ bit_xor a (bit_or f (2 ^ k))
xor-more a f k l =
    ap (λ (n : ℕ). bit_xor n (2 ^ k))
    (ap₂ bit_xor split none ∙ xor_block k hi 0 lo f less l ∙ ap (λ (n : ℕ). n * 2 ^ k + bit_xor lo f) (xor_zero_r hi))
    ∙ ap (bit_xor (hi * 2 ^ k + bit_xor lo f)) alone
    ∙ xor_block k hi 1 (bit_xor lo f) 0 (xor_lt k lo f less l) (pow_pos k)
    ∙ ap (λ (n : ℕ). bit_xor hi 1 * 2 ^ k + n) (xor_zero_r (bit_xor lo f))
    ∙ sym (ap₂ bit_xor split both ∙ xor_block k hi 1 lo f less l)
  where
    hi : ℕ
    hi = a / 2 ^ k

    lo : ℕ
    lo = a % 2 ^ k

    less : lo < 2 ^ k
    less = mod-lt a (pow_pos k)

    split : a ≡ hi * 2 ^ k + lo
    split = sym (div-add-mod' a (2 ^ k))

    none : f ≡ 0 * 2 ^ k + f
    none = omega arith

    alone : 2 ^ k ≡ 1 * 2 ^ k + 0
    alone = omega arith

    both : bit_or f (2 ^ k) ≡ 1 * 2 ^ k + f
    both = ap (bit_or f) (sym (one-mul (2 ^ k))) ∙ or_shifted_r 1 k f l

-- bits that are set where they are turned
pub xor-full : (a x : ℕ) → bit_and a x ≡ x → bit_xor a x ≡ a - x
xor-full a x same = omega (arith, xor_add_and a x, same)
