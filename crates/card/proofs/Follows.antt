-- Following the rows of a card: how the loop goes over a state's bits, and that rows below m are all that count.
use Prim.Native.Nat.{ℕ, ◌+◌, ◌/◌, ◌%◌, ◌^◌, ◌<◌, ◌≤◌, min}
use native.Mathlib.Nat.{div-one, div-eq_of_lt, lt_of_lt_of_le}
use native.Mathlib.Numerals.{add-one}
use native.Mathlib.Decide.{dec_lt}
use native.Mathlib.Omega.{arith}
use mathlib.Core.Path.{◌≡◌, refl, sym, ap, ◌∙◌}
use mathlib.Core.Logic.{by_cases}
use mathlib.Core.Bool.{Bool, true, false, cond}
use mathlib.Core.List.{List}
use borrow.Author.Tests.{eq-eqb, ne_eqb}
use lib.Bits.{bit_or, or_zero_r}
use lib.Dec.{eqb}
use lib.ListN.{get_or}
use lib.Pow.{pow_mono, shr-shr}
use Rattle.text.specs.Bits.{bit}
use Rattle.text.specs.Card.{Row, none, row, earliest, union, follow}
use Rattle.text.proofs.Bits.{bit-shr-test}
use Rattle.text.proofs.Ends.{earliest-le}
use Rattle.text.proofs.Rows.{union-cong, earliest-cong}
use Rattle.card.specs.Held.{row_of, rows_in, Full}
use Rattle.card.proofs.RowsHeld.{rows_row}
use Rattle.card.proofs.Gathered.{gathered, gathered-small, gathered-union, gathered-all, earliest-all}

-- the bits of st below q are followed: `exit` and `first` are what they gave, and `rest` has the others
pub record Following (es fs : List ℕ) (st exit first rest q : ℕ) : Type 0 where
  pub left : rest ≡ st / 2 ^ q
  pub inside : q ≤ 64
  pub states : exit ≡ gathered st (λ p. get_or es p 0) q
  pub ends : first ≡ earliest st (λ p. get_or fs p 0) q

module _ (es fs : List ℕ) (st : ℕ) where
  pub following-none : Following es fs st 0 none st 0
  unfolding gathered earliest
  following-none = record { left = sym (div-one st); inside = omega arith; states = refl; ends = refl }

  module _ (exit first rest q : ℕ) (h : Following es fs st exit first rest q) where
    -- a state has 64 bits
    pub following-inside : st < 2 ^ 64 → (rest ≡ 0 → ⊥) → q < 64
    following-inside small more =
        by_cases (dec_lt q 64) (λ (l : q < 64). l)
        (λ (l : ¬ (q < 64)).
        let e : q ≡ 64 = omega arith in
        absurd (more (h.left ∙ rw e (div-eq_of_lt small))))

    this-bit : bit st q ≡ eqb (rest % 2) 1
    this-bit = sym (bit-shr-test st q) ∙ ap (λ (x : ℕ). eqb (x % 2) 1) (sym h.left)

    half : rest / 2 ≡ st / 2 ^ (q + 1)
    half = ap (λ (x : ℕ). x / 2) h.left ∙ shr-shr st q 1

    more : (b : Bool) (exit' first' : ℕ) → bit st q ≡ b → q < 64
        → exit' ≡ bit_or exit (cond b (get_or es q 0) 0)
        → first' ≡ min first (cond b (get_or fs q 0) none)
        → Following es fs st exit' first' (rest / 2) (q + 1)
    unfolding gathered earliest
    more b exit' first' e l p r =
        record {
          left = half;
          inside = omega arith;
          states = p ∙ rw (h.states, ← e, add-one);
          ends = r ∙ rw (h.ends, ← e, add-one);
        }

    module _ (exit' first' : ℕ) (l : q < 64) where
      pub following-taken : rest % 2 ≡ 1 → exit' ≡ bit_or exit (get_or es q 0) → first' ≡ min first (get_or fs q 0)
          → Following es fs st exit' first' (rest / 2) (q + 1)
      following-taken e p r = more true exit' first' (this-bit ∙ eq-eqb (rest % 2) 1 e) l p r

      pub following-passed : (rest % 2 ≡ 1 → ⊥) → exit' ≡ exit → first' ≡ first
          → Following es fs st exit' first' (rest / 2) (q + 1)
      following-passed e p r =
          let stays : first' ≡ min first none = omega (arith, h.ends, earliest-le st (λ p. get_or fs p 0) q) in
          more false exit' first' (this-bit ∙ ne_eqb (rest % 2) 1 e) l (p ∙ sym (or_zero_r exit)) stays

    -- no bit is left
    pub following-all : Full es fs → exit < 2 ^ 64 → rest ≡ 0
        → row_of exit first ≡ follow 64 (rows_in es fs) st
    unfolding follow
    following-all full small e = λ i. record { exit = states i; first = ends i }
      where
        none_left : st / 2 ^ q ≡ 0
        none_left = sym h.left ∙ e

        all : exit ≡ gathered st (λ p. get_or es p 0) 64
        all = h.states ∙ sym (gathered-all st (λ p. get_or es p 0) q 64 h.inside none_left)

        states : exit ≡ union st (λ p. (row (rows_in es fs) p).exit) 64
        states =
            all
            ∙ gathered-small st (λ p. get_or es p 0) 64 (rw all at small)
            ∙ union-cong st _ _ 64 (λ p l. ap (λ (r : Row). r.exit) (sym (rows_row full p l)))

        ends : first ≡ earliest st (λ p. (row (rows_in es fs) p).first) 64
        ends =
            h.ends
            ∙ sym (earliest-all st (λ p. get_or fs p 0) q 64 h.inside none_left)
            ∙ earliest-cong st _ _ 64 (λ p l. ap (λ (r : Row). r.first) (sym (rows_row full p l)))

-- only the bits below m of a state below 2 ^ m count
pub follow-short : (m : ℕ) (rows : List Row) (st : ℕ) → m ≤ 64 → st < 2 ^ m → ((q : ℕ) → (row rows q).exit < 2 ^ m)
    → follow 64 rows st ≡ follow m rows st
unfolding follow
follow-short m rows st short small h =
    λ i. record { exit = states i; first = earliest-all st (λ q. (row rows q).first) m 64 short none_above i }
  where
    none_above : st / 2 ^ m ≡ 0
    none_above = div-eq_of_lt small

    states : union st (λ q. (row rows q).exit) 64 ≡ union st (λ q. (row rows q).exit) m
    states =
        sym (gathered-union st (λ q. (row rows q).exit) 64 (λ q l. lt_of_lt_of_le (h q) (pow_mono short)))
        ∙ gathered-all st (λ q. (row rows q).exit) m 64 short none_above
        ∙ gathered-union st (λ q. (row rows q).exit) m (λ q l. h q)
