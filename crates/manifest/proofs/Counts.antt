-- The counts that stand in a manifest are those that were put, and no others.
use Prim.Native.Nat.{ℕ, ◌<◌}
use native.Mathlib.Omega.{arith}
use mathlib.Core.Path.{◌≡◌, refl, sym, ap, ◌∙◌}
use mathlib.Core.Bool.{true, true≢false}
use mathlib.Core.List.{List, [], ◌∷◌, ◌++◌, append_assoc, append_cancel_left}
use borrow.Author.Tests.{eq-eqb}
use lib.ListN.{length, drop, get_or, length-append}
use Rattle.text.specs.Letter.{every}
use Rattle.text.proofs.Truth.{and_left, and_right}
use Rattle.text.proofs.Strings.{suffix-is}
use Rattle.lines.specs.Decimal.{digits}
use Rattle.lines.proofs.Theorems.{value, told}
use Rattle.manifest.specs.Kinds.{in_line, hex_digit, of_name}
use Rattle.manifest.specs.Lines.{Entry}
use Rattle.manifest.specs.Written.{comment_line, stretches_word, segments_word, bytes_word, counts_line, manifest_of}
use Rattle.manifest.specs.Check.{before_seal, counts_stand}
use Rattle.manifest.proofs.Plain.{other, decimal-other}
use Rattle.manifest.proofs.Whole.{counts_words, counts-is, counts-plain, front-ended, counts-there}

-- the first of the bytes, and the others
heads : (c d : ℕ) (x y : List ℕ) → c ∷ x ≡ d ∷ y → (c ≡ d) × (x ≡ y)
heads c d x y e = (ap (λ (l : List ℕ). get_or l 0 0) e, ap (drop 1) e)

never : (c d : ℕ) (s : List ℕ) → every (other c) (d ∷ s) ≡ true → d ≡ c → ⊥
unfolding every
never c d s e h = true≢false (sym (and_left (other c d) (every (other c) s) e) ∙ rw (eq-eqb d c h) refl)

later : (c d : ℕ) (s : List ℕ) → every (other c) (d ∷ s) ≡ true → every (other c) s ≡ true
unfolding every
later c d s e = and_right (other c d) (every (other c) s) e

-- bytes before the first c, and those after it
cut :
    (c : ℕ) (a b x y : List ℕ) → every (other c) a ≡ true → every (other c) b ≡ true → a ++ (c ∷ x) ≡ b ++ (c ∷ y) → (a ≡ b) × (x ≡ y)
cut c [] [] x y p q e = (refl, (heads c c x y e).1)
cut c [] (d ∷ b) x y p q e = absurd (never c d b q (sym (heads c d x (b ++ (c ∷ y)) e).0))
cut c (d ∷ a) [] x y p q e = absurd (never c d a p (heads d c (a ++ (c ∷ x)) y e).0)
cut c (d ∷ a) (f ∷ b) x y p q e =
    let h = heads d f (a ++ (c ∷ x)) (b ++ (c ∷ y)) e in
    let (same, rest) = cut c a b x y (later c d a p) (later c f b q) h.1 in
    (ap (λ (l : List ℕ). d ∷ l) same ∙ ap (λ (k : ℕ). k ∷ b) h.0, rest)

-- bytes with one c, at their end, do not have two
once : (c : ℕ) (k v l : List ℕ) → every (other c) k ≡ true → k ++ (c ∷ []) ≡ v ++ (c ∷ (l ++ (c ∷ []))) → ⊥
once c [] [] l p e =
    let z : 0 ≡ length (l ++ (c ∷ [])) = ap length (heads c c [] (l ++ (c ∷ [])) e).1 in
    omega (arith, length-append l (c ∷ []))
once c [] (d ∷ v) l p e =
    let w : List ℕ = c ∷ (l ++ (c ∷ [])) in
    let z : 0 ≡ length (v ++ w) = ap length (heads c d [] (v ++ w) e).1 in
    omega (arith, length-append v w)
once c (d ∷ k) [] l p e = never c d k p (heads d c (k ++ (c ∷ [])) (l ++ (c ∷ [])) e).0
once c (d ∷ k) (f ∷ v) l p e = once c k v l (later c d k p) (heads d f (k ++ (c ∷ [])) (v ++ (c ∷ (l ++ (c ∷ [])))) e).1

-- the last line of bytes
last_line :
    (c : ℕ) (u v k l : List ℕ) → every (other c) k ≡ true → every (other c) l ≡ true →
    u ++ (c ∷ (k ++ (c ∷ []))) ≡ v ++ (c ∷ (l ++ (c ∷ []))) → k ≡ l
last_line c [] [] k l p q e = (cut c k l [] [] p q (heads c c (k ++ (c ∷ [])) (l ++ (c ∷ [])) e).1).0
last_line c [] (d ∷ v) k l p q e = absurd (once c k v l p (heads c d (k ++ (c ∷ [])) (v ++ (c ∷ (l ++ (c ∷ [])))) e).1)
last_line c (d ∷ u) [] k l p q e = absurd (once c l u k q (sym (heads d c (u ++ (c ∷ (k ++ (c ∷ [])))) (l ++ (c ∷ [])) e).1))
last_line c (d ∷ u) (f ∷ v) k l p q e =
    last_line c u v k l p q (heads d f (u ++ (c ∷ (k ++ (c ∷ [])))) (v ++ (c ∷ (l ++ (c ∷ [])))) e).1

-- one number's digits are no other's
same_number : (n m : ℕ) → digits n ≡ digits m → n ≡ m
same_number n m e = sym (told n) ∙ ap (value 0) e ∙ told m

parted : (w n x s y b : List ℕ) → w ++ n ++ x ++ s ++ y ++ b ≡ w ++ (n ++ (x ++ (s ++ (y ++ b))))
parted w n x s y b = simp append_assoc

-- the same words, the same counts
words_same :
    (n s b i j k : ℕ) → counts_words n s b ≡ counts_words i j k → (n ≡ i) × (s ≡ j) × (b ≡ k)
unfolding counts_words
words_same n s b i j k e =
    let w : List ℕ = drop 1 stretches_word in
    let x : List ℕ = drop 1 segments_word in
    let y : List ℕ = drop 1 bytes_word in
    let a : w ++ (digits n ++ (0x2C ∷ (x ++ (digits s ++ (0x2C ∷ (y ++ digits b))))))
    ≡ w ++ (digits i ++ (0x2C ∷ (x ++ (digits j ++ (0x2C ∷ (y ++ digits k)))))) =
    sym (parted w (digits n) segments_word (digits s) bytes_word (digits b)) ∙ e
    ∙ parted w (digits i) segments_word (digits j) bytes_word (digits k) in
    let low : 0x2C < 48 = omega arith in
    let first =
    cut 0x2C (digits n) (digits i) (x ++ (digits s ++ (0x2C ∷ (y ++ digits b)))) (x ++ (digits j ++ (0x2C ∷ (y ++ digits k))))
    (decimal-other 0x2C low n) (decimal-other 0x2C low i) (append_cancel_left w _ _ a) in
    let second =
    cut 0x2C (digits s) (digits j) (y ++ digits b) (y ++ digits k) (decimal-other 0x2C low s) (decimal-other 0x2C low j)
    (append_cancel_left x _ _ first.1) in
    let third : digits b ≡ digits k = append_cancel_left y (digits b) (digits k) second.1 in
    (same_number n i first.0, same_number s j second.0, same_number b k third)

ours-plain : (n s b : ℕ) → every (other 10) (0x23 ∷ counts_words n s b) ≡ true
unfolding every in_line hex_digit of_name
ours-plain n s b = counts-plain n s b

pub counts-only :
    (cs : List (List ℕ)) (es : List Entry) (n s b i j k : ℕ) → counts_stand (manifest_of cs es n s b) i j k ≡ true →
    (n ≡ i) × (s ≡ j) × (b ≡ k)
unfolding counts_stand comment_line
counts-only cs es n s b i j k e =
    let m : List ℕ = manifest_of cs es n s b in
    let h = suffix-is (10 ∷ counts_line i j k) (before_seal m) e in
    let u : List ℕ = (front-ended cs es).lines in
    let both : u ++ (10 ∷ counts_line n s b) ≡ h.start ++ (10 ∷ counts_line i j k) = sym (counts-there cs es n s b) ∙ h.split in
    let ours : List ℕ = 0x23 ∷ counts_words n s b in
    let theirs : List ℕ = 0x23 ∷ counts_words i j k in
    let lines : u ++ (10 ∷ (ours ++ (10 ∷ []))) ≡ h.start ++ (10 ∷ (theirs ++ (10 ∷ []))) =
    ap (λ (x : List ℕ). u ++ (10 ∷ x)) (sym (counts-is n s b)) ∙ both ∙ ap (λ (x : List ℕ). h.start ++ (10 ∷ x)) (counts-is i j k) in
    let same : ours ≡ theirs = last_line 10 u h.start ours theirs (ours-plain n s b) (ours-plain i j k) lines in
    words_same n s b i j k (ap (drop 1) same)
