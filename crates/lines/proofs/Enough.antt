-- A buffer of that many bytes has room for the lines of every input.
use Prim.Native.Nat.{ℕ, suc, ◌+◌, ◌*◌, ◌≤◌, ◌<◌}
use native.Mathlib.Omega.{arith}
use mathlib.Core.Path.{◌≡◌, refl, sym, ◌∙◌}
use mathlib.Core.Bool.{Bool, true, false}
use mathlib.Core.List.{List, [], ◌∷◌, ◌++◌}
use borrow.Author.Tests.{leb-true}
use lib.Dec.{leb, ltb, eqb}
use lib.ListN.{length, length-append}
use Rattle.text.specs.Letter.{base, every, first_not}
use Rattle.text.specs.Text.{Text, total, weight, size}
use Rattle.text.specs.Refusal.{Outcome, ok, refused, demand, after, pattern, greatest_pattern, SoundPattern}
use Rattle.text.proofs.Letters.{first-le}
use Rattle.text.proofs.Outcomes.{demand-met, after-met}
use Rattle.text.proofs.Patterns.{pattern-sound, pattern-after}
use Rattle.layout.specs.Bytes.{greatest_stretch}
use Rattle.layout.specs.Pieces.{most_in_stretch}
use Rattle.layout.specs.Reading.{segment_at, stretch_of}
use Rattle.layout.proofs.Walks.{many-steps}
use Rattle.layout.proofs.Rows.{row-many}
use Rattle.layout.proofs.Decoding.{stretch-read}
use Rattle.layout.proofs.Stretches.{segment-steps, stretch-most, stretch-short}
use Rattle.layout.proofs.Refusals.{stretch-low}
use Rattle.search.specs.Answers.{into, stretch_into, searching}
use Rattle.lines.specs.Input.{pattern_in, stretch_in}
use Rattle.lines.specs.Decimal.{digits, line}
use Rattle.lines.specs.Answer.{segments_word, size_word, ends_word, end_word, first_word, at_word, marked_from, end_lines, first_line}
use Rattle.lines.specs.Answer.{text_lines, refusal_line, answer_lines, screening, lines_of, most_bytes}
use Rattle.lines.specs.Screening.{marks_on}
use Rattle.lines.specs.declared.strands.Strands.{Strands}
use Rattle.lines.proofs.Digits.{digits-few}
use Rattle.lines.proofs.Marked.{either}
use Rattle.lines.proofs.Screens.{Row, on-length, on_row, on-sums}

-- what an accepted search has found of its pattern and its stretch
pub searched-sound : (P s : List ℕ) (room : ℕ) (t : Text) → searching P s room ≡ ok t → SoundPattern P × (stretch_of s ≡ ok t)
unfolding searching into
searched-sound P s room t e =
    let (_, f, g) = after-met (pattern P (ok (tt {0}))) (λ _. stretch_into s room) t (sym (pattern-after P _) ∙ e) in
    let (u, h, k) = after-met (stretch_of s) (λ x. demand (leb (length x) room) 10 0 (ok x)) t g in
    let (_, same) = demand-met (leb (length u) room) 10 0 (ok u) t k in
    (pattern-sound P f, h ∙ same)

-- a text has no more letters than its stretch has bytes
stretch-size : (s : List ℕ) (t : Text) → stretch_of s ≡ ok t → size t ≤ greatest_stretch
unfolding size total
stretch-size s t e =
    let r = stretch-read s t e in
    let row = row-many (λ _. segment_at s) t [] 2 (length s) r.row in
    let m = many-steps (λ _. segment_at s) (total weight) (length s) (segment-steps s) (length t) [] 2 _ r.counted row in
    omega (arith, m.0, stretch-short s t e)

-- each mark counts at most 1
ends-few : (marks : List ℕ) → Row marks → total (λ x. x) marks ≤ length marks
unfolding total
ends-few [] r = omega arith
ends-few (x ∷ xs) r = omega (arith, r.0, ends-few xs r.1)

-- a line of a word and a number of at most five digits
line-few : (word : List ℕ) (n : ℕ) → n < 100000 → length (line word n) ≤ length word + 6
unfolding line
line-few word n l = simp length-append (omega (arith, digits-few 4 n l))

ends-long : (j : ℕ) (marks : List ℕ) → j + length marks ≤ 100000 → length (end_lines (marked_from j marks)) ≤ 10 * length marks
unfolding marked_from end_lines
ends-long j [] l = omega arith
ends-long j (x ∷ xs) l =
    let js : List ℕ = marked_from (suc j) xs in
    let rest : length (end_lines js) ≤ 10 * length xs = ends-long (suc j) xs (omega arith) in
    let own : length (line end_word j) ≤ 10 = line-few end_word j (omega arith) in
    let both : length (line end_word j ++ end_lines js) ≤ 10 * suc (length xs) = simp length-append (omega arith) in
    let less : length (end_lines js) ≤ 10 * suc (length xs) = omega arith in
    either (eqb x 1) j js (λ (l : List ℕ). length (end_lines l) ≤ 10 * suc (length xs)) both less

first-long : (j : ℕ) (marks : List ℕ) → j + length marks ≤ 100000 → length (first_line (marked_from j marks)) ≤ 12
unfolding marked_from first_line
first-long j [] l = omega arith
first-long j (x ∷ xs) l =
    let js : List ℕ = marked_from (suc j) xs in
    let rest : length (first_line js) ≤ 12 = first-long (suc j) xs (omega arith) in
    let own : length (line first_word j) ≤ 12 = line-few first_word j (omega arith) in
    either (eqb x 1) j js (λ (l : List ℕ). length (first_line l) ≤ 12) own rest

-- a refusal with a number and a place of at most five digits
abbrev Five : {A : Type 0} → Outcome A → Type 0
Five (ok a) = Unit {0}
Five (refused n p) = (n < 100000) × (p < 100000)

demand-five : {A : Type 0} (t : Bool) (n p : ℕ) (o : Outcome A) → n < 100000 → p < 100000 → (t ≡ true → Five o) → Five (demand t n p o)
demand-five true n p o a b k = k refl
demand-five false n p o a b k = (a, b)

after-five : {A B : Type 0} (o : Outcome A) (f : A → Outcome B) → Five o → ((a : A) → Five (f a)) → Five (after o f)
after-five (ok a) f k h = h a
after-five (refused n p) f k h = k

stretch-five : (s : List ℕ) (o : Outcome Text) → stretch_of s ≡ o → Five o
stretch-five s (ok t) e = tt
stretch-five s (refused n p) e = let low = stretch-low s n p e in (omega (arith, low), omega (arith, low))

searching-five : (P s : List ℕ) (room : ℕ) → Five (searching P s room)
unfolding searching into pattern
searching-five P s room =
    demand-five (ltb 0 (length P)) 1 0 _ (omega arith) (omega arith) λ _.
    demand-five (leb (length P) greatest_pattern) 2 0 _ (omega arith) (omega arith) λ short.
    let m : length P ≤ greatest_pattern = leb-true (length P) greatest_pattern short in
    let place : first_not base P < 100000 = omega (arith, first-le base P) in
    demand-five (every base P) 3 (first_not base P) _ (omega arith) place λ _.
    after-five (stretch_of s) _ (stretch-five s (stretch_of s) refl) λ t.
    demand-five (leb (length t) room) 10 0 (ok t) (omega arith) (omega arith) (λ _. tt)

module _ (S : Strands) (P s : List ℕ) (room : ℕ) where
  answer-long : (o : Outcome Text) → searching P s room ≡ o → Five o → length (answer_lines S P o) ≤ most_bytes
  unfolding text_lines refusal_line
  answer-long (ok t) e f =
      let ms : List ℕ = marks_on S P t in
      let (_, g) = searched-sound P s room t e in
      let few : length t ≤ most_in_stretch = stretch-most s t g in
      let long : length ms ≡ length t = on-length P t S in
      let n = line-few segments_word (length t) (omega arith) in
      let z = line-few size_word (size t) (omega (arith, stretch-size s t g)) in
      let m = line-few ends_word (total (λ x. x) ms) (omega (arith, ends-few ms (on_row P t S))) in
      let all = ends-long 0 ms (omega arith) in
      let first = first-long 0 ms (omega arith) in
      rw (← on-sums P t S) (simp length-append (omega arith))
  answer-long (refused n p) e f =
      let number : length (digits n) ≤ 5 = digits-few 4 n f.0 in
      let place = line-few at_word p f.1 in
      simp length-append (omega arith)

-- the lines of every input, on any strands
pub enough : (S : Strands) (input : List ℕ) → length (lines_of S input) ≤ most_bytes
unfolding lines_of
enough S input =
    let P : List ℕ = pattern_in input in
    let s : List ℕ = stretch_in input in
    answer-long S P s most_in_stretch (screening input) refl (searching-five P s most_in_stretch)
