-- Laws of stepping: it only grows, so that a walk whose end lies in the bytes never leaves them.
use Rattle.std.proofs.Common.{◌≡◌, ℕ, zero, suc, ◌+◌, ◌-◌, ◌<◌, ◌≤◌, List, get_or, sym, refl, ap, ◌∙◌, arith}
use Rattle.layout.specs.Pieces.{next_of}
use Rattle.layout.specs.Skips.{stepped, behind_variants, behind_segment}

module _ (step : ℕ → ℕ) where
  pub stepped-last : (k at : ℕ) → stepped step (suc k) at ≡ step (stepped step k at)
  unfolding stepped
  stepped-last zero at = refl
  stepped-last (suc k) at = stepped-last k (step at)

  -- i of k steps from `start` are done, and the walk stands at `at`
  pub record Stepping (k start i at : ℕ) : Type 0 where
    pub most : i ≤ k
    pub rest : stepped step k start ≡ stepped step (k - i) at

  pub stepping-none : (k start : ℕ) → Stepping k start 0 start
  stepping-none k start = record { most = omega arith; rest = ap (λ (n : ℕ). stepped step n start) (let e : k ≡ k - 0 = omega arith in e) }

  module _ (k start i at : ℕ) (s : Stepping k start i at) where
    pub stepping-more : i < k → Stepping k start (i + 1) (step at)
    unfolding stepped
    stepping-more l =
        record {
          most = omega arith;
          rest = s.rest ∙ ap (λ (n : ℕ). stepped step n at) (let e : k - i ≡ suc (k - (i + 1)) = omega arith in e);
        }

    pub stepping-end : k ≤ i → at ≡ stepped step k start
    unfolding stepped
    stepping-end l = sym (s.rest ∙ ap (λ (n : ℕ). stepped step n at) (let e : k - i ≡ 0 = omega arith in e))

  module _ (grows : (at : ℕ) → at ≤ step at) where
    pub stepped-grows : (k at : ℕ) → at ≤ stepped step k at
    unfolding stepped
    stepped-grows zero at = omega arith
    stepped-grows (suc k) at = omega (arith, stepped-grows k (step at), grows at)

    -- where the last step ends in time, so does the next one
    pub stepping-fits : (k start i at n : ℕ) → Stepping k start i at → i < k → stepped step k start ≤ n → step at ≤ n
    stepping-fits k start i at n s l fits =
        let m = stepping-more k start i at s l in
        omega (arith, m.rest, stepped-grows (k - (i + 1)) (step at))

module _ (s : List ℕ) where
  pub behind-grows : (at : ℕ) → at ≤ next_of s at
  behind-grows at = omega arith

  pub variants-grow : (k at : ℕ) → at ≤ behind_variants s k at
  variants-grow = stepped-grows (next_of s) behind-grows

  pub segment-grows : (at : ℕ) → at ≤ behind_segment s at
  segment-grows at = omega (arith, variants-grow (get_or s at 0) (at + 1))
