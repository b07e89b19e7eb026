-- Laws of positions: digits are read one by one.
use Prim.Native.Nat.{ℕ, ◌+◌, ◌*◌, ◌-◌, ◌<◌, ◌≤◌}
use native.Mathlib.Numerals.{add-one}
use native.Mathlib.Omega.{arith}
use mathlib.Core.Path.{◌≡◌, refl, ◌∙◌}
use mathlib.Core.Bool.{Bool, true, false, ◌&&◌, cond}
use mathlib.Core.List.{List, [], ◌∷◌}
use lib.Dec.{eqb, leb}
use lib.ListN.{length, drop, get_or, drop_of_length-le}
use lib.Seq.{drop-cons}
use borrow.Author.Tests.{le-leb, lt-leb, leb-true, eq-eqb, ne_eqb, eqb-true}
use Rattle.text.specs.Letter.{every}
use Rattle.text.proofs.Truth.{and-false, and_left, and_right}
use Rattle.std.proofs.Common.{Option, None, Some}
use Rattle.vcf.specs.Records.{digit, decimal, last_position, position_of, stated}

pub digit-range : (c : ℕ) → digit c ≡ true → (48 ≤ c) × (c ≤ 57)
unfolding digit
digit-range c e = (leb-true 48 c (and_left (leb 48 c) (leb c 57) e), leb-true c 57 (and_right (leb 48 c) (leb c 57) e))

-- more digits, no smaller number
decimal-grows : (s : List ℕ) (n : ℕ) → n ≤ decimal n s
unfolding decimal
decimal-grows [] n = omega arith
decimal-grows (c ∷ s) n = let h : n * 10 + (c - 48) ≤ decimal (n * 10 + (c - 48)) s = decimal-grows s (n * 10 + (c - 48)) in omega arith

-- the position that the digits s state after those of n
unfoldable pub read_on : ℕ → List ℕ → ℕ
read_on n s = cond (every digit s && leb (decimal n s) last_position) (decimal n s) 0

-- the first i bytes are digits and write n
pub record Digits (s : List ℕ) (n i : ℕ) : Type 0 where
  pub inside : i ≤ length s
  pub small : n ≤ last_position
  pub rest : position_of s ≡ read_on n (drop i s)

pub digits-none : (s : List ℕ) → Digits s 0 0
unfolding position_of read_on
digits-none s = record { inside = omega arith; small = omega arith; rest = refl }

module _ {s : List ℕ} {n i : ℕ} (h : Digits s n i) (l : i < length s) where
  at : drop i s ≡ get_or s i 0 ∷ drop (i + 1) s
  at = rw add-one (drop-cons s i 0 l)

  pub digits-wrong : digit (get_or s i 0) ≡ false → position_of s ≡ 0
  unfolding read_on every
  digits-wrong e = h.rest ∙ rw (at, e)

  next : digit (get_or s i 0) ≡ true → position_of s ≡ read_on (n * 10 + (get_or s i 0 - 48)) (drop (i + 1) s)
  unfolding read_on every decimal
  next e = h.rest ∙ rw (at, e)

  module _ (e : digit (get_or s i 0) ≡ true) (x : ℕ) (is : x ≡ get_or s i 0) where
    pub digits-range : (48 ≤ x) × (x ≤ 57)
    digits-range = let r = digit-range (get_or s i 0) e in (omega arith, omega arith)

    pub digits_long : last_position < n * 10 + (x - 48) → position_of s ≡ 0
    unfolding read_on
    digits_long m =
        let t : List ℕ = drop (i + 1) s in
        let k : ℕ = n * 10 + (get_or s i 0 - 48) in
        let g : last_position < decimal k t = omega (arith, decimal-grows t k) in
        next e ∙ rw (lt-leb (decimal k t) last_position g, and-false)

    pub digits_more : n * 10 + (x - 48) ≤ last_position → Digits s (n * 10 + (x - 48)) (i + 1)
    digits_more m = record { inside = omega arith; small = m; rest = rw is (next e) }

pub digits-end : {s : List ℕ} {n i : ℕ} → Digits s n i → length s ≤ i → position_of s ≡ n
unfolding read_on every decimal
digits-end {s} {n} {i} h l = h.rest ∙ rw (drop_of_length-le s l, le-leb n last_position h.small)

-- what is stated, and that nothing is
pub stated-none : {p : ℕ} → p ≡ 0 → None ≡ stated p
stated-none {p} e = rw (eq-eqb p 0 e)

pub stated-some : {p n : ℕ} → p ≡ n → (n ≡ 0 → ⊥) → Some n ≡ stated p
stated-some {p} {n} e m = rw (e, ne_eqb n 0 m)

pub states-none : {p : ℕ} {x : Option ℕ} → x ≡ stated p → x ≡ None → p ≡ 0
states-none {p} {x} e f = step (eqb p 0) refl e
  where
    step : (b : Bool) → eqb p 0 ≡ b → x ≡ cond b None (Some p) → p ≡ 0
    step true h e = eqb-true p 0 h
    step false h e = absurd (let x : ◌≡◌ {A = ℕ} 0 1 = cc in let y : ⊥ = omega arith in y)

pub states-some : {p r : ℕ} {x : Option ℕ} → x ≡ stated p → x ≡ Some r → r ≡ p
states-some {p} {r} {x} e f = step (eqb p 0) e
  where
    step : (b : Bool) → x ≡ cond b None (Some p) → r ≡ p
    step true e = absurd (let x : ◌≡◌ {A = ℕ} 0 1 = cc in let y : ⊥ = omega arith in y)
    step false e = cc

pub position-small : (s : List ℕ) → position_of s ≤ last_position
unfolding position_of
position-small s = step (every digit s) (leb (decimal 0 s) last_position) (leb-true (decimal 0 s) last_position)
  where
    step : (a b : Bool) → (b ≡ true → decimal 0 s ≤ last_position) → cond (a && b) (decimal 0 s) 0 ≤ last_position
    step true true h = h refl
    step true false h = omega arith
    step false b h = omega arith
