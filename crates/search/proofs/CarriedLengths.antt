-- The carried lengths of a number: exactly its set bits from 1 to 63, rising; their number is its ones, and the first of them its
-- trailing zeros, once bit 0 is cleared.
use Prim.Native.Nat.{ℕ, zero, suc, ◌+◌, ◌-◌, ◌*◌, ◌/◌, ◌%◌, ◌^◌, ◌≤◌, ◌<◌}
use native.Mathlib.Nat.{mod-lt, mul-mod_left, mul-div_cancel, pow-suc, zero-add}
use native.Mathlib.Bridge.{le_prop}
use native.Mathlib.Numerals.{add-one, one-add}
use native.Mathlib.Omega.{arith}
use mathlib.Core.Path.{◌≡◌, refl, sym, ap, ◌∙◌}
use mathlib.Core.Logic.{◌↔◌, ◌⊎◌, inl, inr, ⊎_elim, by_cases, ∥∥₁_elim}
use mathlib.Core.Bool.{Bool, true, false}
use mathlib.Core.List.{List, [], ◌∷◌, Memᴰ}
use mathlib.Core.List.{Pairwise}
use native.Mathlib.Decide.{ℕ_discrete}
use lib.Arith.{lt-one}
use lib.Bits.{bit_and, and_high}
use lib.Count.{ones, ones_in, ones_step, count_trailing_zeros, under}
use lib.Dec.{eqb, lit<}
use lib.ListN.{length}
use lib.Pow.{shr-shr, shr_lt, shr_mod}
use Rattle.text.specs.Bits.{bit}
use Rattle.search.specs.Carried.{keep, passing, carried_lengths, first_or, carried_by}

-- ---- which numbers are listed, and in which order

keep-cases : {q : ℕ} (b : Bool) (r : ℕ) (l : List ℕ) → Memᴰ q (keep b r l) → ((q ≡ r) × (b ≡ true)) ⊎ Memᴰ q l
keep-cases true r l (mathlib.Core.List.Memᴰ.head e) = inl (e, refl)
keep-cases true r l (mathlib.Core.List.Memᴰ.tail m) = inr m
keep-cases false r l m = inr m

keep-head : (b : Bool) (r : ℕ) (l : List ℕ) → b ≡ true → Memᴰ r (keep b r l)
keep-head b r l e = rw e (mathlib.Core.List.Memᴰ.head refl)

keep-tail : {q : ℕ} (b : Bool) (r : ℕ) (l : List ℕ) → Memᴰ q l → Memᴰ q (keep b r l)
keep-tail true r l m = mathlib.Core.List.Memᴰ.tail m
keep-tail false r l m = m

module _ (f : ℕ → Bool) where
  passing-sound : (q r n : ℕ) → Memᴰ q (passing f r n) → (r ≤ q) × (q < r + n) × (f q ≡ true)
  unfolding passing
  passing-sound q r zero m = absurd (mathlib.Core.List.Memᴰ.not-nil m)
  passing-sound q r (suc n) m =
      ⊎_elim
      (λ (h : (q ≡ r) × (f r ≡ true)). (omega arith, omega arith, ap f h.0 ∙ h.1))
      (λ (h : Memᴰ q (passing f (suc r) n)). let p = passing-sound q (suc r) n h in (omega arith, omega arith, p.2))
      (keep-cases (f r) r (passing f (suc r) n) m)

  passing-all : (q r n : ℕ) → (r ≤ q) × (q < r + n) × (f q ≡ true) → Memᴰ q (passing f r n)
  unfolding passing
  passing-all q r zero h = absurd (let z : ⊥ = omega arith in z)
  passing-all q r (suc n) h =
      by_cases (ℕ_discrete q r)
      (λ (e : q ≡ r). mathlib.Core.List.Memᴰ.cast e (keep-head (f r) r (passing f (suc r) n) (ap f (sym e) ∙ h.2)))
      (λ (d : ¬ (q ≡ r)). keep-tail (f r) r (passing f (suc r) n) (passing-all q (suc r) n (omega arith, omega arith, h.2)))

  keep-rising : (b : Bool) (r n : ℕ) → Pairwise ◌<◌ (passing f (suc r) n) → Pairwise ◌<◌ (keep b r (passing f (suc r) n))
  keep-rising true r n p =
      Pairwise.cons (λ q m. ∥∥₁_elim m le_prop (λ (l : Memᴰ q (passing f (suc r) n)). (passing-sound q (suc r) n l).0)) p
  keep-rising false r n p = p

  passing-rising : (r n : ℕ) → Pairwise ◌<◌ (passing f r n)
  unfolding passing
  passing-rising r zero = Pairwise.nil
  passing-rising r (suc n) = keep-rising (f r) r n (passing-rising (suc r) n)

-- the carried lengths are exactly the set bits from 1 to 63
pub carried-bits : (st r : ℕ) → Memᴰ r (carried_lengths st) ↔ ((1 ≤ r) × (r < 64) × (bit st r ≡ true))
unfolding carried_lengths
carried-bits st r = (passing-sound (bit st) r 1 63, passing-all (bit st) r 1 63)

-- and they rise
pub carried-rising : (st : ℕ) → Pairwise ◌<◌ (carried_lengths st)
unfolding carried_lengths
carried-rising st = passing-rising (bit st) 1 63

-- ---- how many are listed, and which is the first

-- one number more, listed where its digit d is 1
keep-length : (d r : ℕ) (l : List ℕ) → d < 2 → length (keep (eqb d 1) r l) ≡ d + length l
keep-length zero r l h = omega arith
keep-length (suc zero) r l h = omega arith
keep-length (suc (suc d)) r l h = absurd (let z : ⊥ = omega arith in z)

keep-first : (d r e t : ℕ) (l : List ℕ) → d < 2 → first_or e l ≡ suc r + t → first_or e (keep (eqb d 1) r l) ≡ r + under d t
keep-first zero r e t l h p = omega arith
keep-first (suc zero) r e t l h p = omega arith
keep-first (suc (suc d)) r e t l h p = absurd (let z : ⊥ = omega arith in z)

ones-zero : ones 0 ≡ 0
unfolding ones ones_in
ones-zero = refl

module _ (st : ℕ) where
  half : (r : ℕ) → st / 2 ^ suc r ≡ st / 2 ^ r / 2
  half r = rw (← add-one r) (sym (shr-shr st r 1))

  digit_lt : (r : ℕ) → st / 2 ^ r % 2 < 2
  digit_lt r = mod-lt (st / 2 ^ r) (lit< tt)

  -- the set bits from r on are the ones of what stands from r on
  passing-ones : (r n : ℕ) → st / 2 ^ r < 2 ^ n → length (passing (bit st) r n) ≡ ones (st / 2 ^ r)
  unfolding passing bit
  passing-ones r zero l = rw (lt-one l) (sym ones-zero)
  passing-ones r (suc n) l =
      let rest : length (passing (bit st) (suc r) n) ≡ ones (st / 2 ^ suc r) =
      passing-ones (suc r) n (omega (arith, half r, pow-suc 2 n)) in
      keep-length (st / 2 ^ r % 2) r (passing (bit st) (suc r) n) (digit_lt r)
      ∙ rw (ones_step (st / 2 ^ r), ← half r, rest)

  -- the least of them stands after the trailing zeros there; e, after the last digit, if there is none
  passing-zeros : (e r n : ℕ) → r + n ≡ e → first_or e (passing (bit st) r n) ≡ r + count_trailing_zeros n (st / 2 ^ r)
  unfolding passing bit count_trailing_zeros
  passing-zeros e r zero p = sym p
  passing-zeros e r (suc n) p =
      keep-first (st / 2 ^ r % 2) r e (count_trailing_zeros n (st / 2 ^ r / 2)) (passing (bit st) (suc r) n) (digit_lt r)
      (rw (← half r) (passing-zeros e (suc r) n (omega arith)))

-- ---- what the code counts: a number with bit 0 cleared

-- `st & !1`, as the code computes it
abbrev pub cleared : ℕ → ℕ
cleared st = bit_and st (2 ^ 64 - 2)

cleared-half : (st : ℕ) → st < 2 ^ 64 → cleared st ≡ st / 2 ^ 1 * 2
cleared-half st l = and_high st 63 1 ∙ ap (λ (y : ℕ). y * 2) (shr_mod 63 1 l)

ones_doubled : (y : ℕ) → ones (y * 2) ≡ ones y
ones_doubled y = rw (ones_step (y * 2), mul-mod_left, mul-div_cancel y (lit< tt)) (zero-add (ones y))

zeros-doubled : (n y : ℕ) → count_trailing_zeros (suc n) (y * 2) ≡ 1 + count_trailing_zeros n y
unfolding count_trailing_zeros
zeros-doubled n y = rw (mul-mod_left, mul-div_cancel y (lit< tt)) (sym (one-add (count_trailing_zeros n y)))

first-none : (l : List ℕ) → length l ≡ 0 → first_or 0 l ≡ 0
first-none [] e = refl
first-none (r ∷ l) e = absurd (let z : ⊥ = omega arith in z)

first_some : (e : ℕ) (l : List ℕ) → (length l ≡ 0 → ⊥) → first_or e l ≡ first_or 0 l
first_some e [] d = absurd (d refl)
first_some e (r ∷ l) d = refl

module _ (st : ℕ) (l : st < 2 ^ 64) where
  cleared-ones : ones (cleared st) ≡ length (carried_lengths st)
  unfolding carried_lengths
  cleared-ones = rw (cleared-half st l, ones_doubled) (sym (passing-ones st 1 63 (shr_lt 63 1 l)))

  cleared-zeros : count_trailing_zeros 64 (cleared st) ≡ first_or 64 (carried_lengths st)
  unfolding carried_lengths
  cleared-zeros = rw (cleared-half st l, zeros-doubled 63) (sym (passing-zeros st 64 1 63 refl))

  -- no ones: nothing is carried
  pub carried_none : ones (cleared st) ≡ 0 → record { count = 0; shortest = 0 } ≡ carried_by st
  unfolding carried_by
  carried_none e =
      let empty : length (carried_lengths st) ≡ 0 = sym cleared-ones ∙ e in
      λ i. record { count = sym empty i; shortest = sym (first-none (carried_lengths st) empty) i }

  -- else the ones and the trailing zeros are the answer
  pub carried_some : (ones (cleared st) ≡ 0 → ⊥)
      → record { count = ones (cleared st); shortest = count_trailing_zeros 64 (cleared st) } ≡ carried_by st
  unfolding carried_by
  carried_some d =
      let shortest = cleared-zeros ∙ first_some 64 (carried_lengths st) (λ e. d (cleared-ones ∙ e)) in
      λ i. record { count = cleared-ones i; shortest = shortest i }
