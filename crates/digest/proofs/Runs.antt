-- The words of a block and the bytes of the digest, as loops write them.
use Rattle.std.proofs.Common.{◌≡◌, ℕ, suc, zero, ◌+◌, ◌*◌, ◌/◌, ◌%◌, ◌^◌, ◌<◌, ◌≤◌, List, [], ◌∷◌, ◌++◌, length, take, set, refl, sym, ap, ◌∙◌, ap₂, subst, add-one, append_assoc, arith}
use Rattle.std.proofs.Math.Nat.{div-div-eq-div-mul, div-one, pow-zero, pow-suc}
use Rattle.std.proofs.Math.Seq.{take-suc-set}
use Rattle.std.proofs.lemmas.List.{take_all}
use Rattle.std.proofs.lemmas.Slice.{take-put_mid}
use Rattle.std.specs.Int.{w64, byte_at, bytes_low_first, to_le_bytes}
use borrow.Rule.Slice.PartMut.{put_mid}
use Rattle.digest.specs.Words.{at, word_at, block_at, low_bytes, first32}

-- the first n words from place 0 on
abbrev pub words : List ℕ → ℕ → List ℕ
words s zero = []
words s (suc n) = words s n ++ word_at s (n * 8) ∷ []

pub words-more : (s m : List ℕ) (i : ℕ) {x : ℕ} → i < length m → take i m ≡ words s i → x ≡ word_at s (i * 8)
    → take (i + 1) (set m i x) ≡ words s (i + 1)
words-more s m i {x = x} l e w = rw add-one (take-suc-set m i x l ∙ ap₂ (λ (a : List ℕ) (b : ℕ). a ++ b ∷ []) e w)

pub words-all : (s m : List ℕ) (i : ℕ) → i ≡ 16 → length m ≡ 16 → take i m ≡ words s i → m ≡ block_at s 0
unfolding block_at
words-all s m i d l e =
    sym (take_all 16 m (let z : length m ≤ 16 = omega arith in z)) ∙ subst (λ (n : ℕ). take n m ≡ words s n) d e

-- the bytes of the first n words
abbrev pub octets : List ℕ → ℕ → List ℕ
octets h zero = []
octets h (suc n) = octets h n ++ low_bytes 8 (at h n)

-- the bytes of a number from byte i on are those of the number without the bytes below
byte : (i x : ℕ) → byte_at i x ≡ x / 256 ^ i % 256
byte zero x = ap (λ (y : ℕ). y % 256) (sym (ap (λ (y : ℕ). x / y) (pow-zero 256) ∙ div-one x))
byte (suc i) x = refl

low-bytes : (n i x : ℕ) → bytes_low_first i n x ≡ low_bytes n (x / 256 ^ i)
unfolding low_bytes
low-bytes zero i x = refl
low-bytes (suc n) i x =
    let e : x / 256 ^ suc i ≡ x / 256 ^ i / 256 = ap (λ (y : ℕ). x / y) (pow-suc 256 i) ∙ sym (div-div-eq-div-mul x (256 ^ i) 256) in
    ap₂ (λ (y : ℕ) (ys : List ℕ). y ∷ ys) (byte i x) (low-bytes n (suc i) x ∙ ap (low_bytes n) e)

pub octets-more : (h bs ys : List ℕ) (i k : ℕ) → i * 8 ≤ length bs → take (i * 8) bs ≡ octets h i → ys ≡ to_le_bytes w64 (at h i)
    → take ((i + 1) * 8) (put_mid (i * 8) k bs ys) ≡ octets h (i + 1)
octets-more h bs ys i k l e w =
    let long : length ys ≡ 8 = ap length w in
    let end : (i + 1) * 8 ≡ i * 8 + length ys = omega arith in
    let low : ys ≡ low_bytes 8 (at h i) = w ∙ low-bytes 8 0 (at h i) ∙ ap (low_bytes 8) (ap (λ (y : ℕ). at h i / y) (pow-zero 256) ∙ div-one (at h i)) in
    take-put_mid (i * 8) k bs ys ((i + 1) * 8) end l ∙ ap₂ (λ (a b : List ℕ). a ++ b) e low ∙ ap (octets h) (sym (add-one i))

pub octets-all : (h bs : List ℕ) (i : ℕ) → i ≡ 4 → length bs ≡ 32 → take (i * 8) bs ≡ octets h i → bs ≡ first32 h
unfolding first32
octets-all h bs i d l e =
    let b = λ (k : ℕ). low_bytes 8 (at h k) in
    sym (take_all 32 bs (let z : length bs ≤ 32 = omega arith in z)) ∙ subst (λ (n : ℕ). take (n * 8) bs ≡ octets h n) d e
    ∙ append_assoc (b 0 ++ b 1) (b 2) (b 3) ∙ append_assoc (b 0) (b 1) (b 2 ++ b 3)
