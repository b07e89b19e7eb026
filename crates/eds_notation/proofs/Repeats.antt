-- Laws of the test for repetition: the open variant against those before it, which are cut from the segment's letters.
use Prim.Native.Nat.{ℕ, ◌+◌, ◌-◌, ◌<◌, ◌≤◌, min}
use native.Mathlib.Numerals.{add-one}
use native.Mathlib.Omega.{arith}
use native.Mathlib.Decide.{dec_lt}
use mathlib.Core.Path.{◌≡◌, refl, sym, ap, ◌∙◌}
use mathlib.Core.Logic.{by_cases}
use mathlib.Core.Bool.{Bool, true, false, ◌||◌}
use mathlib.Core.List.{List}
use lib.ListN.{length, get_or, take, drop, length-drop, drop_of_length-le}
use lib.Seq.{drop-cons, drop-drop, take_all}
use Rattle.text.specs.Bits.{any_of}
use Rattle.text.specs.Compare.{alike}
use Rattle.writer.specs.Cuts.{cut}
use Rattle.eds_notation.specs.Filling.{stands}

-- a length that goes beyond the list ends with it
module _ (m : ℕ) (l : List ℕ) where
  take-least : take (min m (length l)) l ≡ take m l
  take-least =
      by_cases (dec_lt m (length l))
      (λ (h : m < length l). let e : min m (length l) ≡ m = omega arith in rw e refl)
      (λ (h : ¬ (m < length l)).
      let e : min m (length l) ≡ length l = omega arith in
      let far : length l ≤ m = omega arith in
      let near : length l ≤ length l = omega arith in
      rw e (take_all (length l) l near ∙ sym (take_all m l far)))

  drop-least : drop (min m (length l)) l ≡ drop m l
  drop-least =
      by_cases (dec_lt m (length l))
      (λ (h : m < length l). let e : min m (length l) ≡ m = omega arith in rw e refl)
      (λ (h : ¬ (m < length l)).
      let e : min m (length l) ≡ length l = omega arith in
      let far : length l ≤ m = omega arith in
      let near : length l ≤ length l = omega arith in
      rw e (drop_of_length-le l near ∙ sym (drop_of_length-le l far)))

-- the variant of the last n letters is equal to none of those of the first i lengths, and is compared on from letter `start`
pub record Comparing (letters lengths : List ℕ) (n start i : ℕ) : Type 0 where
  pub inside : start ≤ length letters
  pub rest :
      stands letters lengths n
      ≡ any_of (alike (drop (length letters - n) letters)) (cut (drop i lengths) (drop start letters))

pub comparing-none : (letters lengths : List ℕ) (n : ℕ) → Comparing letters lengths n 0 0
unfolding stands
comparing-none letters lengths n = record { inside = omega arith; rest = refl }

-- what is left from a place on, as a slice hands it on
slice-end : (l : List ℕ) (k : ℕ) → take (length l - k) (drop k l) ≡ drop k l
slice-end l k = let e : length (drop k l) ≤ length l - k = omega (arith, length-drop k l) in take_all (length l - k) (drop k l) e

module _ {letters lengths : List ℕ} {n start i : ℕ} (c : Comparing letters lengths n start i) where
  -- the next variant, of k letters and in any case of those that are left, as a slice hands it on
  module _
      (l : i < length lengths) {k size : ℕ} (given : k ≡ get_or lengths i 0) (e : size ≡ min k (length letters - start)) where
    next-inside : start + size ≤ length letters
    next-inside = omega (arith, c.inside)

    one_more :
        stands letters lengths n
        ≡ (alike (drop (length letters - n) letters) (take (start + size - start) (drop start letters))
        || any_of (alike (drop (length letters - n) letters)) (cut (drop (i + 1) lengths) (drop (start + size) letters)))
    unfolding any_of cut
    one_more =
        let tail : List ℕ = drop start letters in
        let left : length letters - start ≡ length tail = sym (length-drop start letters) in
        let same : size ≡ min k (length tail) = e ∙ ap (min k) left in
        let cancel : start + size - start ≡ size = omega arith in
        let first : take k tail ≡ take (start + size - start) tail =
        sym (take-least k tail) ∙ ap (λ (m : ℕ). take m tail) (sym same ∙ sym cancel) in
        let after : drop k tail ≡ drop (start + size) letters =
        sym (drop-least k tail) ∙ ap (λ (m : ℕ). drop m tail) (sym same) ∙ drop-drop size start letters in
        c.rest ∙ rw (add-one i, drop-cons lengths i 0 l, ← given, first, after)

    module _
        (b : Bool)
        (is : b ≡ alike (take (length letters - (length letters - n)) (drop (length letters - n) letters))
        (take (start + size - start) (drop start letters))) where
      asked : b ≡ alike (drop (length letters - n) letters) (take (start + size - start) (drop start letters))
      asked = rw (slice-end letters (length letters - n)) at is

      pub comparing-same : b ≡ true → true ≡ stands letters lengths n
      comparing-same t = let f = sym asked ∙ t in sym (one_more ∙ rw f)

      pub comparing-more : b ≡ false → Comparing letters lengths n (start + size) (i + 1)
      comparing-more t = let f = sym asked ∙ t in record { inside = next-inside; rest = one_more ∙ rw f }

  pub comparing-end : length lengths ≤ i → false ≡ stands letters lengths n
  unfolding any_of cut
  comparing-end l = sym (c.rest ∙ rw (drop_of_length-le lengths l))
