-- The first mark that is 1, as std looks for it.
use Rattle.std.proofs.Common.{◌≡◌, suc, not, refl, sym, ap, ◌∙◌, ℕ, ◌+◌, ◌<◌, ◌≤◌, Bool, true, false, cond, List, [], ◌∷◌, length, Option, Some, None, arith}
use lib.Dec.{eqb, ltb}
use native.Mathlib.Decide.{dec_lt}
use mathlib.Core.Logic.{by_cases}
use borrow.Author.Tests.{lt-ltb, le-ltb}
use Rattle.std.specs.List.{position_or_len}
use Rattle.std.specs.Option.{unwrap_or}
use Rattle.text.specs.Card.{none, most_segments, later, first_end}

abbrev pub is_one : ℕ → Bool
is_one mark = eqb mark 1

-- the place of a mark among so many, or "none"
place : ℕ → ℕ → ℕ
place k n = cond (ltb k n) k none

-- what comes of a further mark before them
next : (b : Bool) (k n : ℕ) → n < most_segments → cond b 0 (later 1 (place k n)) ≡ place (cond (not b) (1 + k) 0) (suc n)
unfolding later place
next true k n few = rw (lt-ltb 0 (suc n) (omega arith)) refl
next false k n few =
    by_cases (dec_lt k n)
    (λ (l : k < n). rw (lt-ltb k n l, lt-ltb (1 + k) (suc n) (omega arith)) (omega arith))
    (λ (l : ¬ (k < n)). let far : n ≤ k = omega arith in rw (le-ltb k n far, le-ltb (1 + k) (suc n) (omega arith)) refl)

first-place : (marks : List ℕ) → length marks ≤ most_segments → first_end marks ≡ place (position_or_len is_one marks) (length marks)
unfolding first_end place
first-place [] few = refl
first-place (mark ∷ marks) few =
    ap (λ (e : ℕ). cond (is_one mark) 0 (later 1 e)) (first-place marks (omega arith))
    ∙ next (is_one mark) (position_or_len is_one marks) (length marks) (omega arith)

pub first-position : (marks : List ℕ) (found : Option ℕ) → length marks ≤ most_segments
    → found ≡ cond (ltb (position_or_len is_one marks) (length marks)) (Some (position_or_len is_one marks)) None
    → unwrap_or found none ≡ first_end marks
unfolding place
first-position marks found few is =
    ap (λ (o : Option ℕ). unwrap_or o none) is ∙ each (ltb (position_or_len is_one marks) (length marks)) _ ∙ sym (first-place marks few)
  where
    each : (b : Bool) (k : ℕ) → unwrap_or (cond b (Some k) None) none ≡ cond b k none
    each true k = refl
    each false k = refl
