-- The name of a file of several: what is put is the name, a point and the digits that were had one by one; which numbers have a name of
-- their own.
use Prim.Native.Nat.{ℕ, ◌*◌, ◌/◌, ◌%◌}
use native.Mathlib.Nat.{div-div-eq-div-mul}
use native.Mathlib.Omega.{arith}
use mathlib.Core.Path.{◌≡◌, refl, sym, ap, ◌∙◌}
use mathlib.Core.Bool.{true}
use mathlib.Core.List.{List, [], ◌∷◌, append_cancel_left}
use borrow.Author.Tests.{leb-true}
use lib.ListN.{get_or}
use Rattle.lines.specs.Decimal.{digit, is_numbered, numbered}
use Rattle.lines.specs.Puts.{Put}
use Rattle.lines.proofs.Putting.{put-more}

pub put-numbered :
    {d : List ℕ} {at : ℕ} {name o : List ℕ} {m : ℕ} {out : List ℕ} {next : ℕ} (n : ℕ) {a b c e f : ℕ} →
    a ≡ digit (n / 10000 % 10) →
    b ≡ digit (n / 1000 % 10) →
    c ≡ digit (n / 100 % 10) →
    e ≡ digit (n / 10 % 10) →
    f ≡ digit (n % 10) →
    Put d at name o m →
    Put o m (46 ∷ a ∷ b ∷ c ∷ e ∷ f ∷ []) out next →
    Put d at (numbered name n) out next
unfolding numbered
put-numbered n p q r s t first last = rw (← p, ← q, ← r, ← s, ← t) (put-more first last)

-- two numbers with the same last digit and the same ones before it
same-last : (n m : ℕ) → n / 10 ≡ m / 10 → digit (n % 10) ≡ digit (m % 10) → n ≡ m
same-last n m before last = omega arith

-- so are their digits one place on
same_digits : (n m k : ℕ) → n / (k * 10) ≡ m / (k * 10) → digit (n / k % 10) ≡ digit (m / k % 10) → n / k ≡ m / k
same_digits n m k before last =
    same-last (n / k) (m / k) (div-div-eq-div-mul n k 10 ∙ before ∙ sym (div-div-eq-div-mul m k 10)) last

-- the point and the five digits
abbrev ending : ℕ → List ℕ
ending k = 46 ∷ digit (k / 10000 % 10) ∷ digit (k / 1000 % 10) ∷ digit (k / 100 % 10) ∷ digit (k / 10 % 10) ∷ digit (k % 10) ∷ []

-- two numbers that five digits write have two names
pub numbered-apart : (name : List ℕ) (n m : ℕ) → is_numbered n ≡ true → is_numbered m ≡ true → numbered name n ≡ numbered name m → n ≡ m
unfolding numbered
numbered-apart name n m a b e =
    let at : (i : ℕ) → get_or (ending n) i 0 ≡ get_or (ending m) i 0 =
    λ i. ap (λ (l : List ℕ). get_or l i 0) (append_cancel_left name (ending n) (ending m) e) in
    let first : n / 10000 ≡ m / 10000 = omega (arith, leb-true n 99999 a, leb-true m 99999 b, at 1) in
    let second : n / 1000 ≡ m / 1000 = same_digits n m 1000 first (at 2) in
    let third : n / 100 ≡ m / 100 = same_digits n m 100 second (at 3) in
    let fourth : n / 10 ≡ m / 10 = same_digits n m 10 third (at 4) in
    same-last n m fourth (at 5)

-- the first number that they do not write has the name of 0
pub numbered-again : (name : List ℕ) → numbered name 100000 ≡ numbered name 0
unfolding numbered
numbered-again name = refl
