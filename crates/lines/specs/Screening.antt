-- The strands that are screened: the words that name them, what a search on them marks and tells, and where occurrences end on them.
use Rattle.std.specs.Prelude.{ℕ, cond, ◌⊎◌, List, [], ◌∷◌, Option, Some, None}
use Rattle.text.specs.Text.{Text}
use Rattle.text.specs.Compare.{same}
use Rattle.text.specs.State.{marks}
use Rattle.text.specs.Occurrence.{EndsIn}
use Rattle.text.specs.Strand.{opposite, on_strand}
use Rattle.text.specs.declared.strand.Strand.TheVariants.{Given, Opposite}
use Rattle.search.specs.Answers.{Sums, sums_of}
use Rattle.search.specs.Either.{either_marks, either_sums}
use Rattle.lines.specs.declared.strands.Strands.{Strands}
use Rattle.lines.specs.declared.strands.Strands.TheVariants.{One, Either}

-- the marks of a text on these strands
abbrev pub marks_on : Strands → List ℕ → Text → List ℕ
marks_on (One strand) P t = marks (on_strand strand P) t
marks_on Either P t = either_marks P t

-- what a search on them tells of a text
abbrev pub sums_on : Strands → List ℕ → Text → Sums
sums_on (One strand) P t = sums_of (on_strand strand P) t
sums_on Either P t = either_sums P t

-- an occurrence of P on one of them ends in segment j
abbrev pub EndsOn : Strands → List ℕ → Text → ℕ → Type 0
EndsOn (One strand) P t j = EndsIn (on_strand strand P) t j
EndsOn Either P t j = EndsIn P t j ⊎ EndsIn (opposite P) t j

-- `given`
abbrev pub given_word : List ℕ
given_word = 0x67 ∷ 0x69 ∷ 0x76 ∷ 0x65 ∷ 0x6E ∷ []

-- `opposite`
abbrev pub opposite_word : List ℕ
opposite_word = 0x6F ∷ 0x70 ∷ 0x70 ∷ 0x6F ∷ 0x73 ∷ 0x69 ∷ 0x74 ∷ 0x65 ∷ []

-- `either`
abbrev pub either_word : List ℕ
either_word = 0x65 ∷ 0x69 ∷ 0x74 ∷ 0x68 ∷ 0x65 ∷ 0x72 ∷ []

-- the strands that a word names
unfoldable pub named_by : List ℕ → Option Strands
named_by w =
    cond (same w given_word) (Some (One Given))
    (cond (same w opposite_word) (Some (One Opposite)) (cond (same w either_word) (Some Either) None))
