-- Laws of the tests of a state: the lowest m bits, no bit from m up, and bit 0.
use Prim.Native.Nat.{ℕ, ◌-◌, ◌*◌, ◌%◌, ◌^◌, ◌<◌, ◌≤◌, min}
use native.Mathlib.Nat.{one-mul, mod-eq_of_lt, lt_of_lt_of_le, min-le_left}
use native.Mathlib.Omega.{arith}
use borrow.Author.Tests.{ltb-true, leb-true, lt-ltb, le-leb}
use mathlib.Core.Path.{◌≡◌, sym}
use mathlib.Core.Bool.{false}
use lib.Dec.{ltb, leb}
use lib.Pow.{pow_pos, pow-lt, pow_mono}
use Rattle.text.specs.Bits.{low}
use Rattle.text.specs.State.{is_state}
use Rattle.text.proofs.Truth.{same_truth}
use Rattle.text.proofs.Bits.{bit-first}
use Rattle.text.proofs.Ends.{min-is}

module _ (m : ℕ) where
  -- the lowest m bits of a pattern's state
  pub low_ones : m ≤ 64 → low m ≡ 2 ^ m - 1
  unfolding low
  low_ones l = let e : min m 64 ≡ m = omega arith in rw e

  pub low-all : 64 ≤ m → low m ≡ 0xffff_ffff_ffff_ffff
  unfolding low
  low-all l = let e : min m 64 ≡ 64 = omega arith in rw e

  -- as it is made for fewer than 64 bits: a lone bit m, less 1
  pub shifted : m < 64 → 1 * 2 ^ m % 2 ^ 64 ≡ 2 ^ m
  shifted l = rw one-mul (mod-eq_of_lt (pow-lt l))

  pub low-shifted : m < 64 → 1 * 2 ^ m % 2 ^ 64 - 1 ≡ low m
  low-shifted l = rw (shifted l) (sym (low_ones (let z : m ≤ 64 = omega arith in z)))

  module _ (st : ℕ) where
    -- no bit from m up, asked of a number of 64 bits
    pub within_low : st < 2 ^ 64 → leb st (low m) ≡ ltb st (2 ^ m)
    unfolding low
    within_low small =
        same_truth _ _
        (λ e.
        let l : st ≤ 2 ^ min m 64 - 1 = leb-true st (2 ^ min m 64 - 1) e in
        let k : st < 2 ^ min m 64 = omega (arith, pow_pos (min m 64)) in
        lt-ltb st (2 ^ m) (lt_of_lt_of_le k (pow_mono (min-le_left m 64))))
        (λ e.
        let k : st < 2 ^ min m 64 = min-is (λ n. st < 2 ^ n) m 64 (ltb-true st (2 ^ m) e) small in
        let l : st ≤ 2 ^ min m 64 - 1 = omega arith in
        le-leb st (2 ^ min m 64 - 1) l)

    -- bit 0 is clear, or set
    pub state-even : st % 2 ≡ 0 → is_state m st ≡ false
    unfolding is_state
    state-even e = rw (bit-first, e)

    pub state-odd : (st % 2 ≡ 0 → ⊥) → is_state m st ≡ ltb st (2 ^ m)
    unfolding is_state
    state-odd ne = let one : st % 2 ≡ 1 = omega (arith, ne) in rw (bit-first, one)
