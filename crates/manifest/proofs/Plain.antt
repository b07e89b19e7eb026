-- Which bytes are put: digits, and no line feed inside a line.
use Prim.Native.Nat.{ℕ, zero, suc, ◌+◌, ◌/◌, ◌%◌, ◌≤◌, ◌<◌}
use native.Mathlib.Omega.{arith}
use native.Mathlib.Decide.{dec_lt}
use mathlib.Core.Path.{◌≡◌, refl, sym, ap, ◌∙◌}
use mathlib.Core.Logic.{by_cases}
use mathlib.Core.Bool.{Bool, true, false, not, true≢false}
use mathlib.Core.List.{List, [], ◌∷◌, ◌++◌}
use borrow.Author.Tests.{ne_eqb, le-leb, lt-leb, lt-ltb, le-ltb}
use lib.Dec.{eqb}
use lib.ListN.{length}
use Rattle.text.specs.Letter.{every, first_not}
use Rattle.text.proofs.Letters.{every_append}
use Rattle.text.proofs.Truth.{and_left, and_right, and_both}
use Rattle.digest.specs.Words.{at, low_bytes, first32}
use Rattle.digest.specs.Blake2b.{blake2b256}
use Rattle.lines.specs.Decimal.{digit, digits}
use Rattle.lines.proofs.Digits.{digits-one, digits_more}
use Rattle.manifest.specs.Kinds.{in_line, hex_digit, of_name}
use Rattle.manifest.specs.Written.{glyph, hex_of}

-- what each byte passes that passes another test
every-weaker : (f g : ℕ → Bool) → ((c : ℕ) → f c ≡ true → g c ≡ true) → (s : List ℕ) → every f s ≡ true → every g s ≡ true
unfolding every
every-weaker f g h [] e = refl
every-weaker f g h (c ∷ s) e =
    and_both (g c) (every g s) (h c (and_left (f c) (every f s) e)) (every-weaker f g h s (and_right (f c) (every f s) e))

pub both-every : (f : ℕ → Bool) (s r : List ℕ) → every f s ≡ true → every f r ≡ true → every f (s ++ r) ≡ true
both-every f s r a b = every_append f s r ∙ and_both (every f s) (every f r) a b

-- a byte of another kind is no line feed
plain_byte : (c : ℕ) → (c ≡ 10 → ⊥) → in_line c ≡ true
unfolding in_line hex_digit of_name
plain_byte c h = rw (ne_eqb c 10 h) refl

digit-plain : (c : ℕ) → hex_digit c ≡ true → in_line c ≡ true
unfolding in_line hex_digit of_name
digit-plain c e = plain_byte c (λ h. true≢false (sym e ∙ rw h refl))

name-plain : (c : ℕ) → of_name c ≡ true → in_line c ≡ true
unfolding in_line hex_digit of_name
name-plain c e = plain_byte c (λ h. true≢false (sym e ∙ rw h refl))

pub digits-plain : (s : List ℕ) → every hex_digit s ≡ true → every in_line s ≡ true
digits-plain = every-weaker hex_digit in_line digit-plain

pub names-plain : (s : List ℕ) → every of_name s ≡ true → every in_line s ≡ true
names-plain = every-weaker of_name in_line name-plain

-- a digit is no `#`
pub digit-no-comment : (c : ℕ) → hex_digit c ≡ true → eqb c 0x23 ≡ false
unfolding in_line hex_digit of_name
digit-no-comment c e = ne_eqb c 0x23 (λ h. true≢false (sym e ∙ rw h refl))

-- a byte other than c
abbrev pub other : ℕ → ℕ → Bool
other c d = not (eqb d c)

-- decimal digits are other bytes than any below 48
one-other : (c d : ℕ) → c < 48 → every (other c) (digit d ∷ []) ≡ true
unfolding every
one-other c d l = rw (ne_eqb (48 + d) c (λ h. omega arith)) refl

decimal-below : (c : ℕ) → c < 48 → (k n : ℕ) → n < k → every (other c) (digits n) ≡ true
decimal-below c low zero n l = absurd (let z : ⊥ = omega arith in z)
decimal-below c low (suc k) n l =
    by_cases (dec_lt n 10)
    (λ (few : n < 10). rw (digits-one n few) (one-other c n low))
    (λ (many : n < 10 → ⊥).
    let ten : 10 ≤ n = omega arith in
    let less : n / 10 < k = omega arith in
    rw (digits_more n ten)
    (both-every (other c) (digits (n / 10)) (digit (n % 10) ∷ []) (decimal-below c low k (n / 10) less) (one-other c (n % 10) low)))

pub decimal-other : (c : ℕ) → c < 48 → (n : ℕ) → every (other c) (digits n) ≡ true
decimal-other c low n = decimal-below c low (suc n) n (omega arith)

pub decimal-plain : (n : ℕ) → every in_line (digits n) ≡ true
unfolding in_line hex_digit of_name
decimal-plain n = decimal-other 10 (omega arith) n

-- hex digits of a byte
glyph-digit : (d : ℕ) → d < 16 → hex_digit (glyph d) ≡ true
unfolding in_line hex_digit of_name
glyph-digit d l =
    by_cases (dec_lt d 10)
    (λ (few : d < 10).
    let a : 48 ≤ 48 + d = omega arith in
    let b : 48 + d ≤ 57 = omega arith in
    rw (lt-ltb d 10 few, le-leb 48 (48 + d) a, le-leb (48 + d) 57 b) refl)
    (λ (many : d < 10 → ⊥).
    let ten : 10 ≤ d = omega arith in
    let a : 48 ≤ 87 + d = omega arith in
    let b : 57 < 87 + d = omega arith in
    let e : 97 ≤ 87 + d = omega arith in
    let f : 87 + d ≤ 102 = omega arith in
    rw (le-ltb d 10 ten, le-leb 48 (87 + d) a, lt-leb (87 + d) 57 b, le-leb 97 (87 + d) e, le-leb (87 + d) 102 f) refl)

hex-append : (s r : List ℕ) → hex_of (s ++ r) ≡ hex_of s ++ hex_of r
unfolding hex_of
hex-append [] r = refl
hex-append (b ∷ s) r = ap (λ (t : List ℕ). glyph (b / 16) ∷ glyph (b % 16) ∷ t) (hex-append s r)

hex-low : (n x : ℕ) → every hex_digit (hex_of (low_bytes n x)) ≡ true
unfolding low_bytes hex_of every
hex-low zero x = refl
hex-low (suc n) x =
    let b : ℕ = x % 256 in
    and_both (hex_digit (glyph (b / 16))) _ (glyph-digit (b / 16) (omega arith))
    (and_both (hex_digit (glyph (b % 16))) _ (glyph-digit (b % 16) (omega arith)) (hex-low n (x / 256)))

hex-first : (h : List ℕ) → every hex_digit (hex_of (first32 h)) ≡ true
unfolding first32
hex-first h =
    let a : List ℕ = low_bytes 8 (at h 0) in
    let b : List ℕ = low_bytes 8 (at h 1) in
    let c : List ℕ = low_bytes 8 (at h 2) in
    let d : List ℕ = low_bytes 8 (at h 3) in
    rw (hex-append a (b ++ (c ++ d)), hex-append b (c ++ d), hex-append c d)
    (both-every hex_digit (hex_of a) (hex_of b ++ (hex_of c ++ hex_of d)) (hex-low 8 (at h 0))
    (both-every hex_digit (hex_of b) (hex_of c ++ hex_of d) (hex-low 8 (at h 1))
    (both-every hex_digit (hex_of c) (hex_of d) (hex-low 8 (at h 2)) (hex-low 8 (at h 3)))))

-- the digits of a digest are hex digits
pub digest-digits : (s : List ℕ) → every hex_digit (hex_of (blake2b256 s)) ≡ true
unfolding blake2b256
digest-digits s = hex-first _

-- where the first line feed stands
pub first-feed : (l r : List ℕ) → every in_line l ≡ true → first_not in_line (l ++ (10 ∷ r)) ≡ length l
unfolding first_not every in_line hex_digit of_name
first-feed [] r e = refl
first-feed (c ∷ l) r e =
    rw (and_left (in_line c) (every in_line l) e) (ap suc (first-feed l r (and_right (in_line c) (every in_line l) e)))
