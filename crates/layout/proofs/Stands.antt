-- Where bytes stand in a list, and numbers of two bytes both ways.
use Rattle.std.proofs.Common.{◌≡◌, ℕ, suc, ◌+◌, ◌*◌, ◌/◌, ◌%◌, ◌<◌, ◌≤◌, false, leb, List, [], ◌∷◌, ◌++◌, length, get_or, take, drop, sym, ap, ◌∙◌, add-zero, mod-eq_of_lt, add-one, arith, length-append, length-drop, length-take, get_or-drop, take_all, drop-cons, get_or-take, take-take, drop-drop, take-add, le-leb}
use mathlib.Core.List.{append_cancel_left}
use lib.Arith.{digits_div, digits_mod}
use lib.Seq.{take-append_seam}
use Rattle.layout.specs.Bytes.{word, word_at, word_bytes, part}

-- a list of bytes
abbrev pub Bytes : List ℕ → Type 0
Bytes s = (i : ℕ) → get_or s i 0 < 256

-- the bytes b stand in s from place `at` on
abbrev pub Stands : List ℕ → ℕ → List ℕ → Type 0
Stands s at b = part s at (length b) ≡ b

module _ (s : List ℕ) (at : ℕ) where
  pub part-add : (n m : ℕ) → part s at (n + m) ≡ part s at n ++ part s (at + n) m
  part-add n m = take-add n m (drop at s) ∙ rw drop-drop

  module _ (a b : List ℕ) where
    pub stands-both : Stands s at a → Stands s (at + length a) b → Stands s at (a ++ b)
    stands-both p q = rw length-append (part-add (length a) (length b) ∙ cc)

    pub stands-front : Stands s at (a ++ b) → Stands s at a
    stands-front h =
        let short : length a ≤ length (a ++ b) = omega (arith, length-append a b) in
        sym (take-take (length a) (length (a ++ b)) (drop at s) short) ∙ ap (take (length a)) h ∙ take-append_seam a b

    pub stands-back : Stands s at (a ++ b) → Stands s (at + length a) b
    stands-back h =
        let p : Stands s at a = stands-front h in
        let e : a ++ part s (at + length a) (length b) ≡ a ++ b =
        ap (λ (x : List ℕ). x ++ part s (at + length a) (length b)) (sym p)
        ∙ sym (part-add (length a) (length b)) ∙ ap (part s at) (sym (length-append a b)) ∙ h in
        append_cancel_left a (part s (at + length a) (length b)) b e

  module _ (b : List ℕ) (h : Stands s at b) where
    pub stands-inside : 0 < length b → at + length b ≤ length s
    stands-inside l = omega (arith, simp (length-take, length-drop) at (ap length h))

    pub stands_at : (i : ℕ) → i < length b → get_or s (at + i) 0 ≡ get_or b i 0
    stands_at i l = sym (get_or-drop at s i 0) ∙ sym (get_or-take (length b) (drop at s) i 0 l) ∙ ap (λ (x : List ℕ). get_or x i 0) h

  pub stands-byte : at < length s → Stands s at (get_or s at 0 ∷ [])
  stands-byte l = rw (drop-cons s at 0)

  -- the number of two bytes, where they are there and where they are not
  pub word-there : at + 2 ≤ length s → word_at s at ≡ word s at
  unfolding word_at
  word-there l = rw (le-leb (at + 2) (length s) l)

  pub word_none : leb (at + 2) (length s) ≡ false → word_at s at ≡ 0
  unfolding word_at
  word_none e = rw e

  -- the number whose two bytes stand there
  pub word_stands : (n : ℕ) → n < 65536 → Stands s at (word_bytes n) → word s at ≡ n
  unfolding word word_bytes
  word_stands n l h =
      let low : get_or s at 0 ≡ n % 256 = rw add-zero at (stands_at (word_bytes n) h 0 (omega arith)) in
      let high : get_or s (at + 1) 0 ≡ n / 256 % 256 = stands_at (word_bytes n) h 1 (omega arith) in
      omega arith

  -- the two bytes that stand there are those of the number
  pub stands_word : Bytes s → at + 2 ≤ length s → Stands s at (word_bytes (word s at))
  unfolding word word_bytes
  stands_word bytes l =
      let first : at < length s = omega arith in
      let second : suc at < length s = omega arith in
      let two : part s at 2 ≡ get_or s at 0 ∷ get_or s (at + 1) 0 ∷ [] = rw (add-one, drop-cons s at 0, drop-cons s (suc at) 0) in
      let digits : word s at ≡ get_or s (at + 1) 0 * 256 + get_or s at 0 = omega arith in
      let low : word s at % 256 ≡ get_or s at 0 = rw digits (digits_mod (get_or s (at + 1) 0) (bytes at)) in
      let high : word s at / 256 % 256 ≡ get_or s (at + 1) 0 =
      rw (digits, digits_div (get_or s (at + 1) 0) (bytes at)) (mod-eq_of_lt (bytes (at + 1))) in
      two ∙ cc

-- bytes that are as long as the list are the list
pub stands-whole : (s b : List ℕ) → length s ≤ length b → Stands s 0 b → b ≡ s
stands-whole s b l h = sym h ∙ take_all (length b) s l
