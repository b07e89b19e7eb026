-- The union of exits as code gathers it, bit by bit with `|`, and where a state has no more bits.
use Prim.Native.Nat.{ℕ, zero, suc, ◌+◌, ◌-◌, ◌/◌, ◌^◌, ◌<◌, ◌≤◌, min}
use native.Mathlib.Nat.{add-suc, add-zero}
use native.Mathlib.Omega.{arith}
use mathlib.Core.Path.{◌≡◌, refl, sym, ap, ap₂, ◌∙◌}
use mathlib.Core.Bool.{Bool, true, false, cond, ◌&&◌, ◌||◌}
use lib.Bits.{bit_or, or_lt, or_zero_r}
use lib.Pow.{pow_pos}
use Rattle.text.specs.Bits.{bit, any_below}
use Rattle.text.specs.Card.{none, earliest, union}
use Rattle.text.proofs.Bits.{bit-or, bit-zero, bit-ext, bit-shr}
use Rattle.text.proofs.Ends.{earliest-le}
use Rattle.text.proofs.Rows.{union-lt, union-bit}

-- f gathered over the bits of a state below n
unfoldable pub gathered : ℕ → (ℕ → ℕ) → ℕ → ℕ
gathered st f zero = 0
gathered st f (suc n) = bit_or (gathered st f n) (cond (bit st n) (f n) 0)

cond-bit : (b : Bool) (x r : ℕ) → bit (cond b x 0) r ≡ (b && bit x r)
cond-bit true x r = refl
cond-bit false x r = bit-zero r

gathered-bit : (st : ℕ) (f : ℕ → ℕ) (n r : ℕ) → bit (gathered st f n) r ≡ any_below (λ q. bit st q && bit (f q) r) n
unfolding gathered any_below
gathered-bit st f zero r = bit-zero r
gathered-bit st f (suc n) r =
    bit-or (gathered st f n) (cond (bit st n) (f n) 0) r
    ∙ ap₂ (λ (a b : Bool). a || b) (gathered-bit st f n r) (cond-bit (bit st n) (f n) r)

cond-lt : (b : Bool) (x k : ℕ) → x < 2 ^ k → cond b x 0 < 2 ^ k
cond-lt true x k l = l
cond-lt false x k l = pow_pos k

gathered-lt : (st : ℕ) (f : ℕ → ℕ) (n k : ℕ) → ((q : ℕ) → q < n → f q < 2 ^ k) → gathered st f n < 2 ^ k
unfolding gathered
gathered-lt st f zero k h = pow_pos k
gathered-lt st f (suc n) k h =
    or_lt k _ _ (gathered-lt st f n k (λ q l. h q (omega arith))) (cond-lt (bit st n) (f n) k (h n (omega arith)))

-- what is gathered is the union
pub gathered-small : (st : ℕ) (f : ℕ → ℕ) (n : ℕ) → gathered st f n < 2 ^ n → gathered st f n ≡ union st f n
gathered-small st f n small =
    bit-ext n (gathered st f n) (union st f n) small (union-lt st f n) (λ r l. gathered-bit st f n r ∙ sym (union-bit st f n r l))

pub gathered-union : (st : ℕ) (f : ℕ → ℕ) (n : ℕ) → ((q : ℕ) → q < n → f q < 2 ^ n) → gathered st f n ≡ union st f n
gathered-union st f n h = gathered-small st f n (gathered-lt st f n n h)

-- no bit from q up
no_more : (st q d : ℕ) → st / 2 ^ q ≡ 0 → bit st (q + d) ≡ false
no_more st q d e = sym (bit-shr st q d) ∙ ap (λ (x : ℕ). bit x d) e ∙ bit-zero d

gathered-on : (st : ℕ) (f : ℕ → ℕ) (q d : ℕ) → st / 2 ^ q ≡ 0 → gathered st f (q + d) ≡ gathered st f q
unfolding gathered
gathered-on st f q zero e = rw add-zero
gathered-on st f q (suc d) e = rw (add-suc, no_more st q d e, or_zero_r) (gathered-on st f q d e)

earliest-on : (st : ℕ) (f : ℕ → ℕ) (q d : ℕ) → st / 2 ^ q ≡ 0 → earliest st f (q + d) ≡ earliest st f q
unfolding earliest
earliest-on st f q zero e = rw add-zero
earliest-on st f q (suc d) e =
    let stays : min (earliest st f (q + d)) none ≡ earliest st f (q + d) = omega (arith, earliest-le st f (q + d)) in
    rw (add-suc, no_more st q d e, stays) (earliest-on st f q d e)

-- nothing more is gathered, and no end is earlier, where no bit is left
module _ (st : ℕ) (f : ℕ → ℕ) (q n : ℕ) (l : q ≤ n) (e : st / 2 ^ q ≡ 0) where
  whole : q + (n - q) ≡ n
  whole = omega arith

  pub gathered-all : gathered st f n ≡ gathered st f q
  gathered-all = rw whole at (gathered-on st f q (n - q) e)

  pub earliest-all : earliest st f n ≡ earliest st f q
  earliest-all = rw whole at (earliest-on st f q (n - q) e)
