-- Laws of decimal digits: how they are had one by one, how many there are, and how they are spelt from the last one on.
use Prim.Native.Nat.{ℕ, zero, suc, ◌+◌, ◌/◌, ◌%◌, ◌^◌, ◌≤◌, ◌<◌}
use native.Mathlib.Omega.{arith}
use native.Mathlib.Decide.{dec_lt}
use native.Mathlib.Nat.{pow-suc}
use mathlib.Core.Path.{◌≡◌, sym, ap, ◌∙◌}
use mathlib.Core.Logic.{by_cases}
use mathlib.Core.List.{List, [], ◌∷◌, ◌++◌}
use borrow.Author.Tests.{lt-ltb, le-ltb}
use lib.ListN.{length, get_or, length-append, get_or-append}
use Rattle.std.proofs.lemmas.Fmt.{decimal_by_steps}
use Rattle.std.specs.Prelude.{decimal}
use Rattle.lines.specs.Decimal.{digit, digits_in, digits}

-- enough steps are enough
steps : (k j n : ℕ) → n < k → n < j → digits_in k n ≡ digits_in j n
unfolding digits_in
steps zero j n l m = absurd (let z : ⊥ = omega arith in z)
steps (suc k) zero n l m = absurd (let z : ⊥ = omega arith in z)
steps (suc k) (suc j) n l m =
    by_cases (dec_lt n 10)
    (λ (few : n < 10). rw (lt-ltb n 10 few))
    (λ (many : n < 10 → ⊥).
    let ten : 10 ≤ n = omega arith in
    let a : n / 10 < k = omega arith in
    let b : n / 10 < j = omega arith in
    rw (le-ltb n 10 ten, steps k j (n / 10) a b))

pub digits-one : (n : ℕ) → n < 10 → digits n ≡ digit n ∷ []
unfolding digits digits_in
digits-one n l = rw (lt-ltb n 10 l)

pub digits_more : (n : ℕ) → 10 ≤ n → digits n ≡ digits (n / 10) ++ (digit (n % 10) ∷ [])
unfolding digits digits_in
digits_more n l =
    let a : n / 10 < n = omega arith in
    let b : n / 10 < suc (n / 10) = omega arith in
    rw (le-ltb n 10 l, steps n (suc (n / 10)) (n / 10) a b)

-- how many
length_more : (n : ℕ) → 10 ≤ n → length (digits n) ≡ length (digits (n / 10)) + 1
length_more n l = ap length (digits_more n l) ∙ length-append (digits (n / 10)) (digit (n % 10) ∷ [])

pub digits-some : (n : ℕ) → 0 < length (digits n)
digits-some n =
    by_cases (dec_lt n 10)
    (λ (few : n < 10). omega (arith, ap length (digits-one n few)))
    (λ (many : n < 10 → ⊥). let ten : 10 ≤ n = omega arith in omega (arith, length_more n ten))

pub digits-few : (k n : ℕ) → n < 10 ^ suc k → length (digits n) ≤ suc k
digits-few zero n l = omega (arith, ap length (digits-one n l))
digits-few (suc k) n l =
    by_cases (dec_lt n 10)
    (λ (few : n < 10). omega (arith, ap length (digits-one n few)))
    (λ (many : n < 10 → ⊥).
    let ten : 10 ≤ n = omega arith in
    let tenth : n / 10 < 10 ^ suc k = omega (arith, pow-suc 10 (suc k)) in
    omega (arith, length_more n ten, digits-few k (n / 10) tenth))

-- the highest digit is a digit, and 0 of no number but 0
pub record Front (n first : ℕ) : Type 0 where
  pub low : 48 ≤ first
  pub high : first < 58
  pub some : 0 < n → 48 < first

front_below : (k n : ℕ) → n < k → Front n (get_or (digits n) 0 0)
front_below zero n l = absurd (let z : ⊥ = omega arith in z)
front_below (suc k) n l =
    by_cases (dec_lt n 10)
    (λ (few : n < 10). rw (digits-one n few) (record { low = omega arith; high = omega arith; some = λ h. omega arith }))
    (λ (many : n < 10 → ⊥).
    let ten : 10 ≤ n = omega arith in
    let f = front_below k (n / 10) (omega arith) in
    let same : get_or (digits n) 0 0 ≡ get_or (digits (n / 10)) 0 0 =
    ap (λ (l : List ℕ). get_or l 0 0) (digits_more n ten)
    ∙ get_or-append (digits (n / 10)) (digit (n % 10) ∷ []) 0 0 (digits-some (n / 10)) in
    let some : 0 < n / 10 = omega arith in
    rw same (record { low = f.low; high = f.high; some = λ h. f.some some }))

pub digits-front : (n : ℕ) → Front n (get_or (digits n) 0 0)
digits-front n = front_below (suc n) n (omega arith)

-- they are those that std writes of a number
pub decimal-digits : (n : ℕ) → n < 2 ^ 64 → decimal n ≡ digits n
decimal-digits = decimal_by_steps (λ n ds. ds ≡ digits n) (λ n l. sym (digits-one n l))
    (λ n ds l e. ap (λ (s : List ℕ). s ++ (digit (n % 10) ∷ [])) e ∙ sym (digits_more n l))
