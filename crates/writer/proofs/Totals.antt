-- Laws of sums that are compared with a target as they grow.
use Prim.Native.Nat.{ℕ, ◌+◌, ◌-◌, ◌<◌, ◌≤◌}
use native.Mathlib.Numerals.{add-one}
use native.Mathlib.Omega.{arith}
use mathlib.Core.Path.{◌≡◌, sym, ap, ◌∙◌}
use mathlib.Core.Bool.{false}
use mathlib.Core.List.{List}
use borrow.Author.Tests.{eqb-true, eq-eqb, ne_eqb}
use lib.Dec.{eqb}
use lib.ListN.{length, get_or, drop, drop_of_length-le}
use lib.Seq.{drop-cons}
use Rattle.text.specs.Text.{total}
use Rattle.text.proofs.Truth.{same_truth}
use Rattle.writer.specs.Cuts.{sum}

-- the sum from number i on: one number more
pub sum-at : (ns : List ℕ) (i : ℕ) → i < length ns → sum (drop i ns) ≡ get_or ns i 0 + sum (drop (i + 1) ns)
unfolding total
sum-at ns i l = rw (add-one, drop-cons ns i 0)

module _ {A : Type 0} (f : A → ℕ) where
  -- the same of what each of a list states, from the one at i on
  total-at : (xs : List A) (i : ℕ) (d : A) → i < length xs → total f (drop i xs) ≡ f (get_or xs i d) + total f (drop (i + 1) xs)
  unfolding total
  total-at xs i d l = rw (add-one, drop-cons xs i d)

  -- what the first i state is taken off the target, and `left` is left of it
  pub record Summing (xs : List A) (target i left : ℕ) : Type 0 where
    pub inside : i ≤ length xs
    pub rest : total f xs + left ≡ target + total f (drop i xs)

  pub summing-none : (xs : List A) (target : ℕ) → Summing xs target 0 target
  summing-none xs target = record { inside = omega arith; rest = omega arith }

  module _ {xs : List A} {target i left : ℕ} (s : Summing xs target i left) where
    -- the next one, which states n
    module _ (l : i < length xs) {x : A} (here : x ≡ get_or xs i x) {n : ℕ} (next : n ≡ f x) where
      states : total f (drop i xs) ≡ n + total f (drop (i + 1) xs)
      states = total-at xs i x l ∙ ap (λ (y : A). f y + total f (drop (i + 1) xs)) (sym here) ∙ ap (λ (m : ℕ). m + total f (drop (i + 1) xs)) (sym next)

      pub summing-more : n ≤ left → Summing xs target (i + 1) (left - n)
      summing-more k = record { inside = omega arith; rest = omega (arith, states) }

      -- it is more than what is left
      pub summing-over : left < n → eqb (total f xs) target ≡ false
      summing-over k = ne_eqb (total f xs) target (λ e. let z : ⊥ = omega (arith, states) in z)

    pub summing-end : length xs ≤ i → eqb left 0 ≡ eqb (total f xs) target
    unfolding total
    summing-end l =
        let all : total f xs + left ≡ target = s.rest ∙ rw (drop_of_length-le xs l) (omega arith) in
        same_truth (eqb left 0) (eqb (total f xs) target)
        (λ e. let h : left ≡ 0 = eqb-true left 0 e in let k : total f xs ≡ target = omega arith in eq-eqb (total f xs) target k)
        (λ e. let h : total f xs ≡ target = eqb-true (total f xs) target e in let k : left ≡ 0 = omega arith in eq-eqb left 0 k)
