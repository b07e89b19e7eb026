-- Laws of prints: variants that spell the same share one, so a variant whose print is not in the set of those before it repeats none.
use Rattle.std.proofs.Common.{◌≡◌, ℕ, zero, suc, ◌+◌, ◌-◌, ◌*◌, ◌/◌, ◌%◌, ◌^◌, ◌<◌, ◌≤◌, Bool, true, false, cond, ◌&&◌, ◌||◌, eqb, List, [], ◌∷◌, ◌++◌, length, get_or, take, drop, sym, refl, ap, ◌∙◌, ap₂, ⊎_elim, true≢false, mod-eq_of_lt, one-mul, arith, get_or-drop, get_or-take, eq-eqb, ne_eqb, eqb-true, le-leb}
use mathlib.Core.Bool.{false≢true}
use borrow.Author.Tests.{lt-leb, not-false}
use lib.Bits.{bit_and, bit_or}
use lib.Pow.{pow-lt}
use Rattle.text.specs.Letter.{raised, meant}
use Rattle.text.specs.Text.{Variant, Segment}
use Rattle.text.specs.Compare.{same}
use Rattle.text.specs.Bits.{bit, any_of}
use Rattle.text.proofs.Truth.{or_cases, or_left, or_right, not-true-false, any_of-snoc}
use Rattle.text.proofs.Strings.{same-eq}
use Rattle.text.proofs.Likes.{meant-length, meant-at}
use Rattle.text.proofs.Bits.{bit-or, bit-and, bit-zero, bit-single}
use Rattle.layout.specs.Bytes.{word}
use Rattle.layout.specs.Pieces.{letters_at, next_of}
use Rattle.layout.specs.Reading.{among, value_of, values_from}
use Rattle.layout.specs.Prints.{print_of, print_at, suspected_at, Noted}
use Rattle.layout.proofs.Heads.{Whole, whole-letters, value-part}

-- the case of a letter changes neither of the two bits
raised-bits : (c : ℕ) → raised c / 2 % 4 ≡ c / 2 % 4
unfolding raised
raised-bits c =
    step (eqb c 0x61) 0x41 _ (λ e. rw (eqb-true c 0x61 e))
    (step (eqb c 0x63) 0x43 _ (λ e. rw (eqb-true c 0x63 e))
    (step (eqb c 0x67) 0x47 _ (λ e. rw (eqb-true c 0x67 e))
    (step (eqb c 0x74) 0x54 _ (λ e. rw (eqb-true c 0x74 e)) (step (eqb c 0x6E) 0x4E c (λ e. rw (eqb-true c 0x6E e)) refl))))
  where
    step : (b : Bool) (x y : ℕ) → (b ≡ true → x / 2 % 4 ≡ c / 2 % 4) → y / 2 % 4 ≡ c / 2 % 4 → cond b x y / 2 % 4 ≡ c / 2 % 4
    step true x y h k = h refl
    step false x y h k = k

print-meant : (v : Variant) → print_of (meant v) ≡ print_of v
unfolding print_of
print-meant v =
    let last : get_or (meant v) (length (meant v) - 1) 0 ≡ raised (get_or v (length v - 1) 0) =
    ap (λ (n : ℕ). get_or (meant v) (n - 1) 0) (meant-length v) ∙ meant-at v (length v - 1) in
    ap₂ (λ (a b : ℕ). a % 16 * 4 + b / 2 % 4) (meant-length v) last
    ∙ ap (λ (b : ℕ). length v % 16 * 4 + b) (raised-bits (get_or v (length v - 1) 0))

-- the print of a variant that is not alone
print-value : (s : List ℕ) (n at : ℕ) → (n ≡ 1 → ⊥) → next_of s at ≤ length s → print_at s n at ≡ 2 ^ print_of (value_of s at)
unfolding print_at
print-value s n at more inside =
    rw (ne_eqb n 1 more, le-leb (next_of s at) (length s) inside, value-part s at, print-meant (letters_at s at))

-- the print as it is computed: no print of the only one, none of one that is cut off
pub print-lone : (s : List ℕ) (n at : ℕ) → n ≡ 1 → print_at s n at ≡ 0
unfolding print_at
print-lone s n at e = rw (eq-eqb n 1 e)

pub print-cut : (s : List ℕ) (n at : ℕ) → (n ≡ 1 → ⊥) → length s < next_of s at → print_at s n at ≡ 0
unfolding print_at
print-cut s n at more l = rw (ne_eqb n 1 more, lt-leb (next_of s at) (length s) l)

-- the byte before the next variant is the last letter, or 0 where there is none
last_byte : (s : List ℕ) (at n : ℕ) → n ≡ word s at → at + 2 + n ≤ length s
    → get_or s (at + 2 + n - 1) 0 ≡ get_or (take n (drop (at + 2) s)) (n - 1) 0
unfolding word
last_byte s at zero e l =
    let high : get_or s (at + 1) 0 ≡ 0 = omega arith in
    let place : at + 2 + 0 - 1 ≡ at + 1 = omega arith in
    rw place high
last_byte s at (suc n) e l =
    let place : at + 2 + suc n - 1 ≡ at + 2 + n = omega arith in
    let last : suc n - 1 ≡ n = omega arith in
    let near : n < suc n = omega arith in
    rw (place, last) (sym (get_or-take (suc n) (drop (at + 2) s) n 0 near ∙ get_or-drop (at + 2) s n 0))

pub print-whole : (s : List ℕ) (n at start next : ℕ) → (n ≡ 1 → ⊥) → Whole s at start next
    → 1 * 2 ^ ((next - start) % 16 * 4 + get_or s (next - 1) 0 / 2 % 4) % 2 ^ 64 ≡ print_at s n at
unfolding print_at print_of
print-whole s n at start next more w =
    let long : next - start ≡ word s at = omega (arith, w.starts, w.ends) in
    let last : get_or s (next - 1) 0 ≡ get_or (letters_at s at) (word s at - 1) 0 =
    ap (λ (x : ℕ). get_or s (x - 1) 0) w.ends ∙ last_byte s at (word s at) refl w.inside in
    let small : word s at % 16 * 4 + get_or (letters_at s at) (word s at - 1) 0 / 2 % 4 < 64 = omega arith in
    rw (long, last, ne_eqb n 1 more, le-leb (next_of s at) (length s) w.inside, whole-letters s at w.inside)
    (ap (λ (x : ℕ). x % 2 ^ 64) (one-mul (2 ^ (word s at % 16 * 4 + get_or (letters_at s at) (word s at - 1) 0 / 2 % 4)))
    ∙ mod-eq_of_lt (pow-lt small))

-- no variant is passed
pub noted-none : (s : List ℕ) (n first : ℕ) → Noted s n first 0 0
unfolding among any_of values_from
noted-none s n first = record { each = λ l v e. absurd (false≢true e) }

-- one more is passed, and its print goes into the set
pub noted_more :
    (s : List ℕ) (n first k set at : ℕ) (seen : Segment) → Noted s n first k set → next_of s at ≤ length s → seen ≡ values_from s k first
    → seen ++ (value_of s at ∷ []) ≡ values_from s (k + 1) first → Noted s n first (k + 1) (bit_or set (print_at s n at))
unfolding among
noted_more s n first k set at seen noted inside before after = record { each = each }
  where
    each : k + 1 < n → (v : Variant) → among v (values_from s (k + 1) first) ≡ true → bit (bit_or set (print_at s n at)) (print_of v) ≡ true
    each l v t =
        let more : n ≡ 1 → ⊥ = λ e. omega arith in
        let split : (any_of (same v) (values_from s k first) || same v (value_of s at)) ≡ true =
        ap (λ (g : Segment). any_of (same v) g || same v (value_of s at)) (sym before)
        ∙ sym (any_of-snoc (same v) seen (value_of s at)) ∙ ap (any_of (same v)) after ∙ t in
        bit-or set (print_at s n at) (print_of v)
        ∙ ⊎_elim
        (λ (h : any_of (same v) (values_from s k first) ≡ true).
        or_left (bit set (print_of v)) (bit (print_at s n at) (print_of v)) (noted.each (omega arith) v h))
        (λ (h : same v (value_of s at) ≡ true).
        let here : print_of (value_of s at) ≡ print_of v = ap print_of (sym (same-eq v (value_of s at) h)) in
        or_right (bit set (print_of v)) (bit (print_at s n at) (print_of v))
        (ap (λ (x : ℕ). bit x (print_of v)) (print-value s n at more inside)
        ∙ bit-single (print_of (value_of s at)) (print_of v) ∙ eq-eqb (print_of (value_of s at)) (print_of v) here))
        (or_cases (any_of (same v) (values_from s k first)) (same v (value_of s at)) split)

-- the set has not its print: it is none of those passed
pub unsuspected :
    (s : List ℕ) (n first k set at : ℕ) → Noted s n first k set → k < n → next_of s at ≤ length s → suspected_at s n set at ≡ false
    → among (value_of s at) (values_from s k first) ≡ false
unfolding suspected_at among any_of values_from
unsuspected s n first k set at noted l inside none = not-true-false (among (value_of s at) (values_from s k first)) (go k refl)
  where
    clear : bit_and set (print_at s n at) ≡ 0
    clear = eqb-true (bit_and set (print_at s n at)) 0 (not-false (eqb (bit_and set (print_at s n at)) 0) none)

    go : (j : ℕ) → j ≡ k → among (value_of s at) (values_from s k first) ≡ true → ⊥
    go zero e t = false≢true (ap (λ (x : ℕ). among (value_of s at) (values_from s x first)) e ∙ t)
    go (suc j) e t =
        let number = print_of (value_of s at) in
        let more : n ≡ 1 → ⊥ = λ f. omega arith in
        let both : (bit set number && bit (2 ^ number) number) ≡ false =
        sym (bit-and set (2 ^ number) number)
        ∙ ap (λ (x : ℕ). bit (bit_and set x) number) (sym (print-value s n at more inside))
        ∙ ap (λ (x : ℕ). bit x number) clear ∙ bit-zero number in
        let have : bit set number ≡ true = noted.each l (value_of s at) t in
        let own : bit (2 ^ number) number ≡ true = bit-single number number ∙ eq-eqb number number refl in
        true≢false (sym (ap₂ ◌&&◌ have own) ∙ both)
