-- Numbers put into a block, 8 bytes each, low byte first.
use Rattle.std.proofs.Common.{◌≡◌, ℕ, zero, suc, ◌+◌, ◌-◌, ◌/◌, ◌%◌, ◌^◌, ◌≤◌, List, ◌∷◌, ◌++◌, length, take, drop, refl, sym, ap, ap₂, ◌∙◌, arith, length-append, drop-drop}
use Rattle.std.proofs.Math.Nat.{div-div-eq-div-mul, div-one, pow-zero, pow-suc}
use Rattle.std.specs.Int.{w64, byte_at, bytes_low_first, to_le_bytes}
use borrow.Rule.Slice.PartMut.{put_mid}
use Rattle.layout.specs.Bytes.{over}
use Rattle.layout.proofs.Overs.{over-over}
use Rattle.cerantuh.specs.Forms.{low_first}

pub length-low : (k n : ℕ) → length (low_first k n) ≡ k
unfolding low_first
length-low zero n = refl
length-low (suc k) n = ap suc (length-low k (n / 256))

-- std's bytes of a number from byte i on
low-bytes : (k i n : ℕ) → bytes_low_first i k n ≡ low_first k (n / 256 ^ i)
unfolding low_first
low-bytes zero i n = refl
low-bytes (suc k) i n =
    let next : n / 256 ^ suc i ≡ n / 256 ^ i / 256 = ap (λ (x : ℕ). n / x) (pow-suc 256 i) ∙ sym (div-div-eq-div-mul n (256 ^ i) 256) in
    ap₂ (λ (x : ℕ) (l : List ℕ). x ∷ l) (byte i) (low-bytes k (suc i) n ∙ ap (low_first k) next)
  where
    byte : (i : ℕ) → byte_at i n ≡ n / 256 ^ i % 256
    byte zero = ap (λ (x : ℕ). x % 256) (sym (ap (λ (x : ℕ). n / x) (pow-zero 256) ∙ div-one n))
    byte (suc i) = refl

-- one number put
pub number-put : (d : List ℕ) (at number : ℕ) (ys : List ℕ) → ys ≡ to_le_bytes w64 number
    → put_mid at (at + 8 - at) d ys ≡ over d at (low_first 8 number)
unfolding over
number-put d at number ys e =
    let low : ys ≡ low_first 8 number =
    e ∙ low-bytes 8 0 number ∙ ap (low_first 8) (ap (λ (x : ℕ). number / x) (pow-zero 256) ∙ div-one number) in
    let eight : at + 8 - at ≡ 8 = omega arith in
    ap (λ (k : ℕ). put_mid at k d ys) eight
    ∙ ap₂ (λ (a b : List ℕ). take at d ++ (a ++ b)) low (drop-drop 8 at d ∙ ap (λ (k : ℕ). drop (at + k) d) (sym (length-low 8 number)))

-- bytes put right after the first ones
put-behind :
    (d xs ys : List ℕ) (at : ℕ) → length xs ≡ at → at ≤ length d → over (over d 0 xs) at ys ≡ over d 0 (xs ++ ys)
put-behind d xs ys at e room =
    let place : at ≡ 0 + length xs = omega arith in
    let fits : 0 + length xs ≤ length d = omega arith in
    ap (λ (k : ℕ). over (over d 0 xs) k ys) place ∙ over-over d 0 xs fits ys

-- two numbers, three, and four
pub two-put :
    (d : List ℕ) (a b : ℕ) → 8 ≤ length d → over (over d 0 (low_first 8 a)) 8 (low_first 8 b) ≡ over d 0 (low_first 8 a ++ low_first 8 b)
two-put d a b room = put-behind d (low_first 8 a) (low_first 8 b) 8 (length-low 8 a) room

pub three-put :
    (d : List ℕ) (a b c : ℕ) → 16 ≤ length d →
    over (over (over d 0 (low_first 8 a)) 8 (low_first 8 b)) 16 (low_first 8 c) ≡ over d 0 (low_first 8 a ++ low_first 8 b ++ low_first 8 c)
three-put d a b c room =
    let first : 8 ≤ length d = omega arith in
    let both : List ℕ = low_first 8 a ++ low_first 8 b in
    let long : length both ≡ 16 = length-append (low_first 8 a) (low_first 8 b) ∙ rw (length-low 8 a, length-low 8 b) in
    ap (λ (l : List ℕ). over l 16 (low_first 8 c)) (two-put d a b first) ∙ put-behind d both (low_first 8 c) 16 long room

pub four-put :
    (d : List ℕ) (a b c e : ℕ) → 24 ≤ length d →
    over (over (over (over d 0 (low_first 8 a)) 8 (low_first 8 b)) 16 (low_first 8 c)) 24 (low_first 8 e)
    ≡ over d 0 (low_first 8 a ++ low_first 8 b ++ low_first 8 c ++ low_first 8 e)
four-put d a b c e room =
    let first : 16 ≤ length d = omega arith in
    let three : List ℕ = low_first 8 a ++ low_first 8 b ++ low_first 8 c in
    let two : length (low_first 8 a ++ low_first 8 b) ≡ 16 = length-append (low_first 8 a) (low_first 8 b)
    ∙ rw (length-low 8 a, length-low 8 b) in
    let long : length three ≡ 24 = length-append (low_first 8 a ++ low_first 8 b) (low_first 8 c) ∙ rw (two, length-low 8 c) in
    ap (λ (l : List ℕ). over l 24 (low_first 8 e)) (three-put d a b c first) ∙ put-behind d three (low_first 8 e) 24 long room
