-- Laws of the marked segments looked for one after another.
use Prim.Native.Nat.{ℕ, suc, ◌+◌, ◌≤◌, ◌<◌}
use native.Mathlib.Omega.{arith}
use mathlib.Core.Path.{◌≡◌, refl, ◌∙◌}
use mathlib.Core.Bool.{not}
use mathlib.Core.List.{List}
use borrow.Author.Tests.{eq-eqb, ne_eqb, lt-ltb, le-ltb}
use lib.Dec.{eqb}
use lib.ListN.{length, drop, get_or}
use Rattle.std.proofs.Common.{Some, None}
use Rattle.text.specs.Letter.{first_not}
use Rattle.text.proofs.Letters.{first-at}
use Rattle.desk_verdict.specs.Standing.{next_marked, next_mark}

-- no segment from `start` on and before j is marked
pub record Passing (marks : List ℕ) (start j : ℕ) : Type 0 where
  pub upto : start ≤ j
  pub same : next_marked marks start ≡ next_marked marks j

pub passing-none : (marks : List ℕ) (start : ℕ) → Passing marks start start
passing-none marks start = record { upto = omega arith; same = refl }

module _ {marks : List ℕ} {start j : ℕ} (p : Passing marks start j) where
  pub passing-more : j < length marks → (get_or marks j 0 ≡ 1 → ⊥) → Passing marks start (j + 1)
  unfolding next_marked
  passing-more l e =
      let step : first_not (λ x. not (eqb x 1)) (drop j marks) ≡ suc (first_not (λ x. not (eqb x 1)) (drop (j + 1) marks)) =
      first-at (λ x. not (eqb x 1)) marks j l ∙ rw (ne_eqb (get_or marks j 0) 1 e) refl in
      record {
        upto = omega (arith, p.upto);
        same = p.same
            ∙ (let z : next_marked marks j ≡ next_marked marks (j + 1) = omega (arith, step) in z);
      }

  pub passing-marked : j < length marks → get_or marks j 0 ≡ 1 → Some j ≡ next_mark marks start
  unfolding next_marked
  passing-marked l e =
      let step : first_not (λ x. not (eqb x 1)) (drop j marks) ≡ 0 =
      first-at (λ x. not (eqb x 1)) marks j l ∙ rw (eq-eqb (get_or marks j 0) 1 e) refl in
      let is : next_marked marks start ≡ j = p.same ∙ (let z : next_marked marks j ≡ j = omega (arith, step) in z) in
      rw (is, lt-ltb j (length marks) l) refl

  pub passing-end : length marks ≤ j → None ≡ next_mark marks start
  unfolding next_marked
  passing-end l =
      let far : length marks ≤ next_marked marks start = omega (arith, p.same) in
      rw (le-ltb (next_marked marks start) (length marks) far) refl
