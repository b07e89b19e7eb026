-- Laws of bytes that pass a test: the first that fails, and when every one passes.
use Prim.Native.Nat.{ℕ, zero, suc, ◌+◌, ◌<◌, ◌≤◌}
use native.Mathlib.Numerals.{add-one}
use native.Mathlib.Decide.{dec_lt}
use native.Mathlib.Omega.{arith}
use mathlib.Core.Path.{◌≡◌, refl, sym, ap, ◌∙◌}
use mathlib.Core.Bool.{Bool, true, false, not, ◌&&◌, cond, true≢false}
use mathlib.Core.List.{List, [], ◌∷◌, ◌++◌}
use mathlib.Core.Logic.{by_cases}
use borrow.Author.Tests.{lt-ltb, le-ltb}
use lib.Dec.{ltb}
use lib.ListN.{length, get_or, take, drop, drop_of_length-le}
use lib.Seq.{drop-cons}
use Rattle.text.specs.Letter.{every, first_not}
use Rattle.text.proofs.Truth.{and_left, and_right, and_both, and-true, and_assoc, not-true-false}

module _ (f : ℕ → Bool) where
  -- the first that fails stands in the list, or there is none
  pub first-le : (s : List ℕ) → first_not f s ≤ length s
  unfolding first_not
  first-le [] = omega arith
  first-le (c ∷ s) = step (f c) (first-le s)
    where
      step : (b : Bool) → first_not f s ≤ length s → cond b (suc (first_not f s)) 0 ≤ suc (length s)
      step true l = omega arith
      step false l = omega arith

  pub every_first : (s : List ℕ) → every f s ≡ true → first_not f s ≡ length s
  unfolding every first_not
  every_first [] e = refl
  every_first (c ∷ s) e =
      rw (and_left (f c) (every f s) e) (ap suc (every_first s (and_right (f c) (every f s) e)))

  pub first-every : (s : List ℕ) → first_not f s ≡ length s → every f s ≡ true
  unfolding every first_not
  first-every [] e = refl
  first-every (c ∷ s) e = step (f c) (first-every s) e
    where
      step :
          (b : Bool) → (first_not f s ≡ length s → every f s ≡ true) → cond b (suc (first_not f s)) 0 ≡ suc (length s) →
          (b && every f s) ≡ true
      step true h e = h (omega arith)
      step false h e = absurd (let z : ⊥ = omega arith in z)

  -- one that fails
  pub first-not-every : (s : List ℕ) → first_not f s < length s → every f s ≡ false
  first-not-every s l = not-true-false (every f s) (λ e. let h : first_not f s ≡ length s = every_first s e in omega arith)

  -- the first that fails stands before the end exactly where there is one
  pub first-before : (s : List ℕ) → ltb (first_not f s) (length s) ≡ not (every f s)
  first-before s = go (every f s) refl
    where
      go : (b : Bool) → every f s ≡ b → ltb (first_not f s) (length s) ≡ not b
      go true e = let all : length s ≤ first_not f s = omega (arith, every_first s e) in le-ltb (first_not f s) (length s) all
      go false e =
          lt-ltb (first_not f s) (length s)
          (by_cases (dec_lt (first_not f s) (length s)) (λ (l : first_not f s < length s). l)
          (λ (l : ¬ (first_not f s < length s)).
          let all : first_not f s ≡ length s = omega (arith, first-le s) in
          absurd (true≢false (sym (first-every s all) ∙ e))))

  -- looking from i on: one step
  pub first-at :
      (s : List ℕ) (i : ℕ) → i < length s →
      first_not f (drop i s) ≡ cond (f (get_or s i 0)) (suc (first_not f (drop (i + 1) s))) 0
  unfolding first_not
  first-at s i l = rw (add-one, drop-cons s i 0)

  -- the first i bytes pass, and the first that fails is looked for from there
  pub record Passed (s : List ℕ) (i : ℕ) : Type 0 where
    pub inside : i ≤ length s
    pub rest : first_not f s ≡ i + first_not f (drop i s)

  pub passed_none : (s : List ℕ) → Passed s 0
  passed_none s = record { inside = omega arith; rest = omega arith }

  pub passed-more : (s : List ℕ) (i : ℕ) → Passed s i → i < length s → f (get_or s i 0) ≡ true → Passed s (i + 1)
  passed-more s i p l e =
      let h : first_not f (drop i s) ≡ suc (first_not f (drop (i + 1) s)) = first-at s i l ∙ rw e in
      record { inside = omega arith; rest = omega arith }

  -- the first that fails is found
  pub passed-stop : (s : List ℕ) (i : ℕ) → Passed s i → i < length s → f (get_or s i 0) ≡ false → first_not f s ≡ i
  passed-stop s i p l e =
      let h : first_not f (drop i s) ≡ 0 = first-at s i l ∙ rw e in
      omega arith

  -- there is none
  pub passed-all : (s : List ℕ) (i : ℕ) → Passed s i → length s ≤ i → first_not f s ≡ i
  unfolding first_not
  passed-all s i p l =
      let h : first_not f (drop i s) ≡ 0 = rw drop_of_length-le in
      omega arith

pub every-snoc : (f : ℕ → Bool) (s : List ℕ) (c : ℕ) → every f (s ++ (c ∷ [])) ≡ (every f s && f c)
unfolding every
every-snoc f [] c = and-true (f c)
every-snoc f (d ∷ s) c = rw (every-snoc f s c) (sym (and_assoc (f d) (every f s) (f c)))

pub every_append : (f : ℕ → Bool) (s r : List ℕ) → every f (s ++ r) ≡ (every f s && every f r)
unfolding every
every_append f [] r = refl
every_append f (c ∷ s) r = rw (every_append f s r) (sym (and_assoc (f c) (every f s) (every f r)))

pub every_drop : (f : ℕ → Bool) (n : ℕ) (s : List ℕ) → every f s ≡ true → every f (drop n s) ≡ true
unfolding every
every_drop f zero s e = e
every_drop f (suc n) [] e = refl
every_drop f (suc n) (c ∷ s) e = every_drop f n s (and_right (f c) (every f s) e)

pub every_take : (f : ℕ → Bool) (n : ℕ) (s : List ℕ) → every f s ≡ true → every f (take n s) ≡ true
unfolding every
every_take f zero s e = refl
every_take f (suc n) [] e = refl
every_take f (suc n) (c ∷ s) e =
    and_both (f c) (every f (take n s)) (and_left (f c) (every f s) e) (every_take f n s (and_right (f c) (every f s) e))
