-- The lines of document 01's program: what a search answers, as bytes.
use Rattle.std.specs.Prelude.{ℕ, suc, ◌+◌, ◌*◌, cond, List, [], ◌∷◌, ◌++◌, eqb}
use Rattle.text.specs.Text.{Text}
use Rattle.text.specs.Refusal.{Outcome, ok, refused}
use Rattle.layout.specs.Pieces.{most_in_stretch}
use Rattle.search.specs.Answers.{Sums, searching}
use Rattle.lines.specs.Input.{pattern_in, stretch_in}
use Rattle.lines.specs.Decimal.{digits, line}
use Rattle.lines.specs.Screening.{sums_on, marks_on}
use Rattle.lines.specs.declared.strands.Strands.{Strands}

-- `segments `
abbrev pub segments_word : List ℕ
segments_word = 0x73 ∷ 0x65 ∷ 0x67 ∷ 0x6D ∷ 0x65 ∷ 0x6E ∷ 0x74 ∷ 0x73 ∷ 0x20 ∷ []

-- `size `
abbrev pub size_word : List ℕ
size_word = 0x73 ∷ 0x69 ∷ 0x7A ∷ 0x65 ∷ 0x20 ∷ []

-- `ends `
abbrev pub ends_word : List ℕ
ends_word = 0x65 ∷ 0x6E ∷ 0x64 ∷ 0x73 ∷ 0x20 ∷ []

-- `end `
abbrev pub end_word : List ℕ
end_word = 0x65 ∷ 0x6E ∷ 0x64 ∷ 0x20 ∷ []

-- `first `
abbrev pub first_word : List ℕ
first_word = 0x66 ∷ 0x69 ∷ 0x72 ∷ 0x73 ∷ 0x74 ∷ 0x20 ∷ []

-- `first none` and the line's end
abbrev pub none_line : List ℕ
none_line = 0x66 ∷ 0x69 ∷ 0x72 ∷ 0x73 ∷ 0x74 ∷ 0x20 ∷ 0x6E ∷ 0x6F ∷ 0x6E ∷ 0x65 ∷ 0x0A ∷ []

-- `refused `
abbrev pub refused_word : List ℕ
refused_word = 0x72 ∷ 0x65 ∷ 0x66 ∷ 0x75 ∷ 0x73 ∷ 0x65 ∷ 0x64 ∷ 0x20 ∷ []

-- ` at `
abbrev pub at_word : List ℕ
at_word = 0x20 ∷ 0x61 ∷ 0x74 ∷ 0x20 ∷ []

-- the numbers of the marked segments, rising; the first of these marks is that of segment j
unfoldable pub marked_from : ℕ → List ℕ → List ℕ
marked_from j [] = []
marked_from j (x ∷ xs) = cond (eqb x 1) (j ∷ marked_from (suc j) xs) (marked_from (suc j) xs)

-- a line for each of these segments
unfoldable pub end_lines : List ℕ → List ℕ
end_lines [] = []
end_lines (j ∷ js) = line end_word j ++ end_lines js

-- the line of the first of these segments
unfoldable pub first_line : List ℕ → List ℕ
first_line [] = none_line
first_line (j ∷ js) = line first_word j

-- the segment count, the size, the number of marked segments, each of them in rising order, and the first one
unfoldable pub text_lines : Sums → List ℕ → List ℕ
text_lines sums marks =
    line segments_word sums.segments
    ++ line size_word sums.size
    ++ line ends_word sums.ends
    ++ end_lines (marked_from 0 marks)
    ++ first_line (marked_from 0 marks)

-- the line of a refusal: its number and its place
unfoldable pub refusal_line : ℕ → ℕ → List ℕ
refusal_line n p = refused_word ++ digits n ++ line at_word p

-- the lines of what a search of the pattern P on these strands answers
abbrev pub answer_lines : Strands → List ℕ → Outcome Text → List ℕ
answer_lines strands P (ok t) = text_lines (sums_on strands P t) (marks_on strands P t)
answer_lines strands P (refused n p) = refusal_line n p

-- a search of the input's pattern in its stretch, with room for the marks of the most segments
abbrev pub screening : List ℕ → Outcome Text
screening input = searching (pattern_in input) (stretch_in input) most_in_stretch

-- the lines that the program prints for an input, screened on these strands
unfoldable pub lines_of : Strands → List ℕ → List ℕ
lines_of strands input = answer_lines strands (pattern_in input) (screening input)

-- the most bytes of them: ten for each `end` line of the most segments, and 49 for the four other lines
abbrev pub most_bytes : ℕ
most_bytes = 10 * most_in_stretch + 49
