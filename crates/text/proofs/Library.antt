-- The tests of std on slices, by this crate's words: equality is `same`, and the first place that fails a test is `first_not`.
use Rattle.std.proofs.Common.{◌≡◌, ℕ, suc, ◌+◌, ◌<◌, ◌≤◌, Bool, true, false, not, cond, List, [], ◌∷◌, length, refl, arith}
use Rattle.std.specs.Option.{unwrap_or}
use Rattle.std.specs.Prelude.{position}
use Rattle.std.specs.List.{prefix_len}
use lib.Pointwise.{pointwise}
use lib.Dec.{eqb}
use native.Mathlib.Decide.{dec_lt}
use mathlib.Core.Logic.{by_cases}
use borrow.Author.Tests.{lt-ltb, le-ltb}
use Rattle.text.specs.Letter.{first_not}
use Rattle.text.specs.Compare.{same}
use Rattle.text.proofs.Letters.{first-le}

pub pointwise-same : (s t : List ℕ) → pointwise eqb s t ≡ same s t
unfolding same
pointwise-same [] [] = refl
pointwise-same [] (d ∷ t) = refl
pointwise-same (c ∷ s) [] = refl
pointwise-same (c ∷ s) (d ∷ t) = rw (pointwise-same s t)

module _ (f : ℕ → Bool) where
  passed-first : (s : List ℕ) → prefix_len (λ c. not (not (f c))) s ≡ first_not f s
  unfolding first_not
  passed-first [] = refl
  passed-first (c ∷ s) = step (f c) (passed-first s)
    where
      step : (b : Bool) → prefix_len (λ c. not (not (f c))) s ≡ first_not f s
          → cond (not (not b)) (1 + prefix_len (λ c. not (not (f c))) s) 0 ≡ cond b (suc (first_not f s)) 0
      step true e = omega arith
      step false e = refl

  pub position-first : (s : List ℕ) → unwrap_or (position (λ c. not (f c)) s) (length s) ≡ first_not f s
  position-first s = rw (passed-first s) (by_cases (dec_lt (first_not f s) (length s))
      (λ (l : first_not f s < length s). rw (lt-ltb _ _ l))
      (λ (l : ¬ (first_not f s < length s)). let all : length s ≤ first_not f s = omega arith in rw (le-ltb _ _ all) (omega (arith, first-le f s))))
