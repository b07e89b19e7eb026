-- All lines of a list, its sequences, and what is said of it as a whole.
use Rattle.std.specs.Prelude.{ℕ, zero, suc, ◌-◌, Bool, ◌||◌, true, false, cond, List, [], ◌∷◌, eqb, ltb, length, Option, Some, None, Result, Ok, Err}
use Rattle.text.specs.Compare.{from_to}
use Rattle.desk_list.specs.Line.{Said, line_of}
use Rattle.desk_list.specs.declared.reading.Line.{Line}
use Rattle.desk_list.specs.declared.checking.Unsound.{Unsound}

-- where the next line begins
abbrev pub next_of : Option Line → ℕ
next_of (Some line) = line.next
next_of None = 0

-- a line and those after it; none at the end of the list
abbrev pub then_lines : Option Line → List Line → List Line
then_lines (Some line) rest = line ∷ rest
then_lines None rest = []

-- the lines of a list from a place on, k at most
unfoldable pub lines_from : ℕ → List ℕ → ℕ → List Line
lines_from zero s at = []
lines_from (suc k) s at = then_lines (line_of s at) (lines_from k s (next_of (line_of s at)))

-- all lines from a place on: a line has a byte at least
unfoldable pub rest_of : List ℕ → ℕ → List Line
rest_of s at = lines_from (length s - at) s at

-- all lines of a list
unfoldable pub lines_of : List ℕ → List Line
lines_of s = rest_of s 0

-- a withheld sequence
pub record Sequence : Type 0 where
  pub label : ℕ
  pub bases : List ℕ

-- the sequence that a line says, if it says one, and those after it
abbrev pub then_sequences : List ℕ → Said → List Sequence → List Sequence
then_sequences s (Ok (Some w)) rest = record { label = w.label; bases = from_to s w.start w.end } ∷ rest
then_sequences s (Ok None) rest = rest
then_sequences s (Err fault) rest = rest

-- the sequences of lines of a list, in order
unfoldable pub sequences_in : List ℕ → List Line → List Sequence
sequences_in s [] = []
sequences_in s (line ∷ ls) = then_sequences s line.said (sequences_in s ls)

-- the sequences of a list, in order
unfoldable pub sequences_of : List ℕ → List Sequence
sequences_of s = sequences_in s (lines_of s)

-- a line is wrong, and one of the lines is
abbrev pub is_wrong : Said → Bool
is_wrong (Ok said) = false
is_wrong (Err fault) = true

unfoldable pub wrong_in : List Line → Bool
wrong_in [] = false
wrong_in (line ∷ ls) = is_wrong line.said || wrong_in ls

-- the most sequences of a list
abbrev pub most : ℕ
most = 32

-- a list with right lines and n sequences
unfoldable pub counted : ℕ → Result ℕ Unsound
counted n = cond (eqb n 0) (Err Unsound.Empty) (cond (ltb most n) (Err Unsound.Many) (Ok n))

-- what is said of a list
unfoldable pub checked_of : List ℕ → Result ℕ Unsound
checked_of s = cond (wrong_in (lines_of s)) (Err Unsound.Wrong) (counted (length (sequences_of s)))
