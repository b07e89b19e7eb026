-- Input after the bytes that count changes no line, so that it need not be read.
use Rattle.std.proofs.Common.{◌≡◌, ℕ, zero, suc, ◌+◌, ◌<◌, ◌≤◌, List, [], ◌∷◌, length, get_or, take, drop, sym, refl, ap, ◌∙◌, arith, length-drop, length-take-le, take_all, get_or-take, take-take}
use native.Mathlib.Decide.{dec_lt}
use mathlib.Core.Logic.{by_cases}
use lib.Seq.{take-nil}
use Rattle.layout.specs.Bytes.{greatest_stretch}
use Rattle.layout.specs.Pieces.{most_in_stretch}
use Rattle.layout.proofs.Stretches.{stretch-long}
use Rattle.search.specs.Answers.{into, searching}
use Rattle.lines.specs.Input.{announced, pattern_in, stretch_in, most_read}
use Rattle.lines.specs.Puts.{Put}
use Rattle.lines.specs.Answer.{answer_lines, lines_of, most_bytes}
use Rattle.lines.proofs.Putting.{put_all}
use Rattle.lines.proofs.Enough.{enough}
use Rattle.lines.specs.declared.strands.Strands.{Strands}
use Rattle.screen.specs.Screened.{Read, Screened}

-- how a stretch is searched, if it is too long
long :
    (P s u : List ℕ) (room : ℕ) → greatest_stretch < length s → greatest_stretch < length u → searching P s room ≡ searching P u room
unfolding searching into
long P s u room l k = rw (stretch-long s l, stretch-long u k)

-- after the first byte
cut-behind : (S : Strands) (x : ℕ) (xs : List ℕ) (k : ℕ) → x < 256 → most_read ≤ suc k → lines_of S (x ∷ take k xs) ≡ lines_of S (x ∷ xs)
unfolding announced pattern_in stretch_in lines_of
cut-behind S x xs k small most =
    let pattern : take x (take k xs) ≡ take x xs = take-take x k xs (omega arith) in
    let next : 1 + x ≡ suc x = omega arith in
    by_cases (dec_lt k (length xs))
    (λ (l : k < length xs).
    let read : length (take k xs) ≡ k = length-take-le k xs (omega arith) in
    let one : greatest_stretch < length (drop x (take k xs)) = omega (arith, length-drop x (take k xs)) in
    let all : greatest_stretch < length (drop x xs) = omega (arith, length-drop x xs) in
    rw (pattern, next) (ap (answer_lines S (take x xs)) (long (take x xs) (drop x (take k xs)) (drop x xs) most_in_stretch one all)))
    (λ (l : k < length xs → ⊥). rw (take_all k xs (omega arith)) refl)

-- a front that has the bytes that count
cut : (S : Strands) (k : ℕ) (input : List ℕ) → get_or input 0 0 < 256 → most_read ≤ k → lines_of S (take k input) ≡ lines_of S input
cut S k [] small most = ap (lines_of S) (take-nil k)
cut S zero (x ∷ xs) small most = absurd (let z : ⊥ = omega arith in z)
cut S (suc k) (x ∷ xs) small most = cut-behind S x xs k small most

module _ (S : Strands) (buffer : List ℕ) (n : ℕ) (bytes : (i : ℕ) → get_or buffer i 0 < 256) (most : most_read ≤ length buffer) where
  -- what is read begins with a byte
  first_byte : (n : ℕ) → get_or (take n buffer) 0 0 < 256
  first_byte zero = omega arith
  first_byte (suc n) = rw (get_or-take (suc n) buffer 0 0 (omega arith)) (bytes 0)

  cut-read : (input : List ℕ) → Read input buffer n → lines_of S (take n buffer) ≡ lines_of S input
  cut-read input read =
      let same : get_or input 0 0 ≡ get_or (take n buffer) 0 0 =
      sym (get_or-take (length buffer) input 0 0 (omega arith)) ∙ ap (λ (l : List ℕ). get_or l 0 0) read in
      let small : get_or input 0 0 < 256 = rw same (first_byte n) in
      ap (lines_of S) (sym read) ∙ cut S (length buffer) input small most

  pub screened-is :
      (d out : List ℕ) (r : ℕ) → most_bytes ≤ length d → length out ≡ length d → Put d 0 (lines_of S (take n buffer)) out r →
      Screened S buffer n out r
  screened-is d out r room same p =
      let few : length (lines_of S (take n buffer)) ≤ most_bytes = enough S (take n buffer) in
      let fits : length (lines_of S (take n buffer)) ≤ length d = omega arith in
      let (far, front) = put_all d (lines_of S (take n buffer)) out r p fits in
      let inside : r ≤ length out = omega arith in
      record { counts = (inside, sym (length-take-le r out inside)); lines = λ input read. front ∙ cut-read input read }
