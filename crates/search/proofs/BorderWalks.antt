-- The walk over the carried lengths of a state, one after another.
use Prim.Native.Nat.{ℕ, suc, ◌+◌, ◌/◌, ◌%◌, ◌^◌, ◌≤◌, ◌<◌}
use native.Mathlib.Decide.{dec_lt}
use native.Mathlib.Nat.{lt_of_lt_of_le, div-eq_of_lt, div-lt_iff_lt-mul, one-mul}
use native.Mathlib.Numerals.{add-one}
use native.Mathlib.Omega.{arith}
use mathlib.Core.Path.{◌≡◌, refl, sym, ap, ◌∙◌}
use mathlib.Core.Logic.{◌↔◌, ◌⊎◌, inl, inr, ⊎_elim, by_cases}
use mathlib.Core.Bool.{Bool, true, false, ◌||◌, false≢true}
use mathlib.Core.List.{List}
use borrow.Author.Tests.{eq-eqb, ne_eqb}
use lib.Bits.{bit_or}
use lib.Dec.{eqb}
use lib.ListN.{length}
use lib.Pow.{pow_pos, pow_mono, shr-shr}
use Rattle.text.specs.Text.{Variant}
use Rattle.text.specs.Bits.{bit}
use Rattle.text.proofs.Bits.{bit-shr-test, bit-above}
use Rattle.search.specs.BorderStep.{Among, CarriesOne, CarriesAll}
use Rattle.search.proofs.BorderHolds.{tells_none, tells-or, tells-map}

module _ {st : ℕ} {A : ℕ → Type 0} where
  among_none : Among st 1 A → ⊥
  among_none a = omega (arith, a.some, a.below)

  -- one of them that stands below n
  moved : {k n : ℕ} (a : Among st k A) → a.at < n → Among st n A
  moved a l = record { at = a.at; some = a.some; below = l; carried = a.carried; is = a.is }

  -- bit q is set: q is one more
  among-more : {q : ℕ} → 0 < q → bit st q ≡ true → (Among st q A ⊎ A q) ↔ Among st (suc q) A
  among-more {q} some e = (
    ⊎_elim
        (λ (a : Among st q A). moved a (let z : a.at < suc q = omega (arith, a.below) in z))
        (λ (x : A q). record { at = q; some = some; below = omega arith; carried = e; is = x }),
    λ (a : Among st (suc q) A).
        by_cases (dec_lt a.at q)
        (λ (l : a.at < q). inl (moved a l))
        (λ (l : ¬ (a.at < q)). inr (let here : a.at ≡ q = omega (arith, a.below) in rw here at a.is)),
  )

  -- bit q is clear: q is not
  among-pass : {q : ℕ} → bit st q ≡ false → Among st q A ↔ Among st (suc q) A
  among-pass {q} e = (
    λ a. moved a (let z : a.at < suc q = omega (arith, a.below) in z),
    λ a. moved a (let z : a.at < q = omega (arith, a.below, other a) in z),
  )
    where
      other : (a : Among st (suc q) A) → a.at ≡ q → ⊥
      other a h = false≢true (sym e ∙ ap (bit st) (sym h) ∙ a.carried)

  -- a state below 2 ^ n has all of them below n
  among_below : (k n : ℕ) → st < 2 ^ n → Among st k A → Among st n A
  among_below k n l a =
      by_cases (dec_lt a.at n)
      (λ (h : a.at < n). moved a h)
      (λ (h : ¬ (a.at < n)).
      let wide : n ≤ a.at = omega arith in
      absurd (false≢true (sym (bit-above st n a.at l wide) ∙ a.carried)))

-- the lengths below q are gone through, and `rest` is the state from bit q up
pub record Walk (P : List ℕ) (st : ℕ) (v : Variant) (bits : ℕ) (ends : Bool) (rest q : ℕ) : Type 0 where
  pub some : 0 < q
  pub shifted : rest ≡ st / 2 ^ q
  pub told : CarriesAll P st q v bits ends

pub walk_none : {P : List ℕ} {st : ℕ} {v : Variant} → Walk P st v 0 false (st / 2) 1
walk_none = record { some = omega arith; shifted = refl; told = tells-map (λ r l. (absurd, among_none)) (absurd, among_none) tells_none }

module _ {P : List ℕ} {st : ℕ} {v : Variant} {bits : ℕ} {ends : Bool} {rest q : ℕ} (w : Walk P st v bits ends rest q) where
  pub walk-near : st < 2 ^ length P → (rest ≡ 0 → ⊥) → q < length P
  walk-near l some =
      by_cases (dec_lt q (length P))
      (λ (h : q < length P). h)
      (λ (h : ¬ (q < length P)).
      let wide : length P ≤ q = omega arith in
      absurd (some (w.shifted ∙ div-eq_of_lt (lt_of_lt_of_le l (pow_mono wide)))))

  half : rest / 2 ≡ st / 2 ^ suc q
  half = rw (w.shifted, ← add-one q) (shr-shr st q 1)

  here : bit st q ≡ eqb (rest % 2) 1
  here = rw w.shifted (sym (bit-shr-test st q))

  -- q is carried
  pub walk-carried :
      {a bits' : ℕ} {x ends' : Bool} → rest % 2 ≡ 1 → CarriesOne P q v a x → bits' ≡ bit_or bits a → ends' ≡ (ends || x) →
      Walk P st v bits' ends' (rest / 2) (q + 1)
  walk-carried e c p r =
      let set : bit st q ≡ true = here ∙ eq-eqb (rest % 2) 1 e in
      rw (p, r, add-one q) record {
        some = omega arith;
        shifted = half;
        told = tells-map (λ r l. among-more w.some set) (among-more w.some set) (tells-or w.told c);
      }

  -- q is not carried
  pub walk-passed :
      {bits' : ℕ} {ends' : Bool} → (rest % 2 ≡ 1 → ⊥) → bits' ≡ bits → ends' ≡ ends → Walk P st v bits' ends' (rest / 2) (q + 1)
  walk-passed e p r =
      let clear : bit st q ≡ false = here ∙ ne_eqb (rest % 2) 1 e in
      rw (p, r, add-one q) record {
        some = omega arith;
        shifted = half;
        told = tells-map (λ r l. among-pass clear) (among-pass clear) w.told;
      }

  -- nothing is left
  pub walk-all : st < 2 ^ length P → rest ≡ 0 → CarriesAll P st (length P) v bits ends
  walk-all l e = tells-map (λ r l. all) all w.told
    where
      within : st < 2 ^ q
      within =
          let none : st / 2 ^ q < 1 = omega (arith, w.shifted) in
          rw one-mul at ((div-lt_iff_lt-mul {y = 1} (pow_pos q)).0 none)

      all : {A : ℕ → Type 0} → Among st q A ↔ Among st (length P) A
      all = (among_below q (length P) l, among_below (length P) q within)
