-- The bits that two numbers have in common, and numbers within one another.
use Prim.Native.Nat.{ℕ, suc, ◌+◌, ◌-◌, ◌*◌, ◌/◌, ◌%◌, ◌^◌, ◌≤◌, ◌<◌}
use native.Mathlib.Nat.{mod-lt}
use native.Mathlib.Decide.{dec_lt, ℕ_discrete}
use native.Mathlib.Omega.{arith}
use mathlib.Core.Path.{◌≡◌, refl, sym, ap, ◌∙◌}
use mathlib.Core.Logic.{by_cases, ⊎_elim}
use mathlib.Core.Bool.{true, false, not, ◌||◌, ◌&&◌, true≢false, false≢true}
use borrow.Author.Tests.{eqb-false, eq-eqb, ne_eqb, not-true}
use lib.Arith.{bin_ind}
use lib.Bits.{bit_and, bit_or}
use lib.Pow.{pow_pos, split}
use Rattle.text.specs.Bits.{bit}
use Rattle.text.proofs.Truth.{or_cases, or_left, or_right, and_left, and_right, and_both, same_truth, not-true-false}
use Rattle.text.proofs.Bits.{bit-first, bit-half, bit-above, bit-zero, bit-or, bit-and, bit-shl, bit-shl-below, bit-shr, lone-bit}
use Rattle.card.specs.RowStep.{Within, meets}

-- a number that is not 0 has a bit
some-bit : (n : ℕ) → (n ≡ 0 → ⊥) → (r : ℕ) × (bit n r ≡ true)
some-bit = bin_ind (λ n. (n ≡ 0 → ⊥) → (r : ℕ) × (bit n r ≡ true)) (λ h. absurd (h refl)) further
  where
    further : (n : ℕ) → ((n / 2 ≡ 0 → ⊥) → (r : ℕ) × (bit (n / 2) r ≡ true)) → (n ≡ 0 → ⊥) → (r : ℕ) × (bit n r ≡ true)
    further n half some =
        by_cases (ℕ_discrete (n % 2) 1)
        (λ (odd : n % 2 ≡ 1). (0, bit-first n ∙ eq-eqb (n % 2) 1 odd))
        (λ (even : ¬ (n % 2 ≡ 1)).
        let h = half (λ z. some (let e : n ≡ 0 = omega arith in e)) in
        (suc h.0, bit-half n h.0 ∙ h.1))

-- a number with no bit is 0
pub no_bits : (n : ℕ) → ((r : ℕ) → bit n r ≡ false) → n ≡ 0
no_bits n h =
    by_cases (ℕ_discrete n 0)
    (λ (e : n ≡ 0). e)
    (λ (e : ¬ (n ≡ 0)). let b = some-bit n e in absurd (true≢false (sym b.1 ∙ h b.0)))

-- a bit that two numbers have in common
record Meeting (x y : ℕ) : Type 0 where
  at : ℕ
  left : bit x at ≡ true
  right : bit y at ≡ true

meets_at : (x y : ℕ) → meets x y ≡ true → Meeting x y
unfolding meets
meets_at x y e =
    let b = some-bit (bit_and x y) (eqb-false (bit_and x y) 0 (not-true _ e)) in
    let r = b.0 in
    let both = sym (bit-and x y r) ∙ b.1 in
    record { at = r; left = and_left (bit x r) (bit y r) both; right = and_right (bit x r) (bit y r) both }

at_meets : (x y : ℕ) → Meeting x y → meets x y ≡ true
unfolding meets
at_meets x y m =
    ap not
    (ne_eqb (bit_and x y) 0
    (λ z.
    true≢false
    (sym (bit-and x y m.at ∙ and_both (bit x m.at) (bit y m.at) m.left m.right)
    ∙ ap (λ (n : ℕ). bit n m.at) z
    ∙ bit-zero m.at)))

pub meets-none : (x : ℕ) → meets x 0 ≡ false
meets-none x = not-true-false (meets x 0) (λ e. let m = meets_at x 0 e in false≢true (sym (bit-zero m.at) ∙ m.right))

pub meets-or : (x f g : ℕ) → meets x (bit_or f g) ≡ (meets x f || meets x g)
meets-or x f g = same_truth _ _ (λ e. apart (meets_at x (bit_or f g) e)) (λ e. ⊎_elim left right (or_cases _ _ e))
  where
    apart : Meeting x (bit_or f g) → (meets x f || meets x g) ≡ true
    apart m =
        ⊎_elim
        (λ (h : bit f m.at ≡ true). or_left _ _ (at_meets x f (record { at = m.at; left = m.left; right = h })))
        (λ (h : bit g m.at ≡ true). or_right (meets x f) _ (at_meets x g (record { at = m.at; left = m.left; right = h })))
        (or_cases _ _ (sym (bit-or f g m.at) ∙ m.right))

    joined : (r : ℕ) → bit x r ≡ true → (bit f r || bit g r) ≡ true → meets x (bit_or f g) ≡ true
    joined r l b = at_meets x (bit_or f g) (record { at = r; left = l; right = bit-or f g r ∙ b })

    left : meets x f ≡ true → meets x (bit_or f g) ≡ true
    left e = let m = meets_at x f e in joined m.at m.left (or_left _ _ m.right)

    right : meets x g ≡ true → meets x (bit_or f g) ≡ true
    right e = let m = meets_at x g e in joined m.at m.left (or_right (bit f m.at) _ m.right)

-- what stands at the place n was carried in i places before it
pub meets-carried : (x e n i : ℕ) → meets x (bit_and e (2 ^ n) / 2 ^ i) ≡ (bit (x * 2 ^ i) n && bit e n)
meets-carried x e n i = same_truth _ _ (λ t. out (meets_at x (bit_and e (2 ^ n) / 2 ^ i) t)) back
  where
    out : Meeting x (bit_and e (2 ^ n) / 2 ^ i) → (bit (x * 2 ^ i) n && bit e n) ≡ true
    out m =
        let r = i + m.at in
        let both : (bit e r && bit (2 ^ n) r) ≡ true = sym (bit-shr (bit_and e (2 ^ n)) i m.at ∙ bit-and e (2 ^ n) r) ∙ m.right in
        let place : n ≡ i + m.at = (lone-bit n r).0 (and_right (bit e r) (bit (2 ^ n) r) both) in
        rw place (and_both (bit (x * 2 ^ i) r) (bit e r) (bit-shl x i m.at ∙ m.left) (and_left (bit e r) (bit (2 ^ n) r) both))

    back : (bit (x * 2 ^ i) n && bit e n) ≡ true → meets x (bit_and e (2 ^ n) / 2 ^ i) ≡ true
    back t =
        by_cases (dec_lt n i)
        (λ (l : n < i). absurd (false≢true (sym (bit-shl-below x i n l) ∙ and_left (bit (x * 2 ^ i) n) (bit e n) t)))
        (λ (l : ¬ (n < i)).
        let place : n ≡ i + (n - i) = omega arith in
        let here : bit x (n - i) ≡ true =
        sym (bit-shl x i (n - i)) ∙ ap (bit (x * 2 ^ i)) (sym place) ∙ and_left (bit (x * 2 ^ i) n) (bit e n) t in
        let kept : bit (bit_and e (2 ^ n)) n ≡ true =
        bit-and e (2 ^ n) n ∙ and_both (bit e n) (bit (2 ^ n) n) (and_right (bit (x * 2 ^ i) n) (bit e n) t) ((lone-bit n n).1 refl) in
        at_meets x (bit_and e (2 ^ n) / 2 ^ i)
        (record { at = n - i; left = here; right = bit-shr (bit_and e (2 ^ n)) i (n - i) ∙ ap (bit (bit_and e (2 ^ n))) (sym place) ∙ kept }))

-- a number within one below 2 ^ k is below 2 ^ k
pub within-lt : (x live k : ℕ) → Within x live → live < 2 ^ k → x < 2 ^ k
within-lt x live k w l =
    let none : x / 2 ^ k ≡ 0 = no_bits (x / 2 ^ k) high in
    let whole : 0 * 2 ^ k + x % 2 ^ k ≡ x = rw none at (split x k) in
    omega (arith, mod-lt x (pow_pos k))
  where
    high : (r : ℕ) → bit (x / 2 ^ k) r ≡ false
    high r =
        not-true-false _
        (λ e.
        true≢false
        (sym (w (k + r) (sym (bit-shr x k r) ∙ e)) ∙ bit-above live k (k + r) l (let z : k ≤ k + r = omega arith in z)))

-- a bit that is clear in the larger is clear in the smaller
pub within-clear : (x live r : ℕ) → Within x live → bit live r ≡ false → bit x r ≡ false
within-clear x live r w e = not-true-false (bit x r) (λ t. true≢false (sym (w r t) ∙ e))

pub within-and : (x live r : ℕ) → Within x live → (bit x r && bit live r) ≡ bit x r
within-and x live r w = same_truth _ _ (and_left (bit x r) (bit live r)) (λ e. and_both (bit x r) (bit live r) e (w r e))
