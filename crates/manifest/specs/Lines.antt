-- The lines of a manifest, and the entries that its stretches' lines are.
use Rattle.std.specs.Prelude.{ℕ, zero, suc, ◌-◌, Bool, false, ◌||◌, List, [], ◌∷◌, ◌++◌, length, Option, Some, None, Result, Ok, Err, is_err}
use Rattle.text.specs.Compare.{from_to}
use Rattle.manifest.specs.Line.{line_of}
use Rattle.manifest.specs.declared.reading.Stretch.{Stretch}
use Rattle.manifest.specs.declared.reading.Wrong.{Wrong}
use Rattle.manifest.specs.declared.reading.Line.{Line}

-- a line and those after it; none at the end
abbrev pub then_lines : Option Line → (ℕ → List Line) → List Line
then_lines (Some l) rest = l ∷ rest l.next
then_lines None rest = []

-- the lines from a place on, k of them at most
unfoldable pub lines_from : ℕ → List ℕ → ℕ → List Line
lines_from zero m at = []
lines_from (suc k) m at = then_lines (line_of m at) (λ next. lines_from k m next)

-- all lines from a place on: each has a byte at least
abbrev pub lines_at : List ℕ → ℕ → List Line
lines_at m at = lines_from (length m) m at

-- all lines
abbrev pub lines_of : List ℕ → List Line
lines_of m = lines_at m 0

-- what a stretch's line says: the 64 digits of its digest, and its name
pub record Entry : Type 0 where
  pub digest : List ℕ
  pub name : List ℕ

-- the 64 digits before a name that begins at `start`, and two blanks
abbrev pub digest_at : List ℕ → ℕ → List ℕ
digest_at m start = from_to m (start - 66) (start - 2)

-- the entry whose name stands from `start` to `end`
abbrev pub entry_at : List ℕ → ℕ → ℕ → Entry
entry_at m start end = record { digest = digest_at m start; name = from_to m start end }

-- the entry of a stretch's line; any other has none
abbrev pub entry_in : List ℕ → Result (Option Stretch) Wrong → List Entry
entry_in m (Ok (Some s)) = entry_at m s.start s.end ∷ []
entry_in m (Ok None) = []
entry_in m (Err w) = []

-- the entries of these lines
unfoldable pub entries_in : List ℕ → List Line → List Entry
entries_in m [] = []
entries_in m (l ∷ ls) = entry_in m l.said ++ entries_in m ls

-- the entries of the lines from a place on
unfoldable pub entries_from : List ℕ → ℕ → List Entry
entries_from m at = entries_in m (lines_at m at)

-- the entries of all lines
abbrev pub entries_of : List ℕ → List Entry
entries_of m = entries_from m 0

-- one of these lines is wrong
unfoldable pub wrong_in : List Line → Bool
wrong_in [] = false
wrong_in (l ∷ ls) = is_err l.said || wrong_in ls

-- one of the lines from a place on is wrong
unfoldable pub wrong_from : List ℕ → ℕ → Bool
wrong_from m at = wrong_in (lines_at m at)

-- a line, if it is no comment; else what is found after it
abbrev pub or_other : Line → Result (Option Stretch) Wrong → Option Line → Option Line
or_other l (Ok (Some s)) rest = Some l
or_other l (Ok None) rest = rest
or_other l (Err w) rest = Some l

-- the first of these lines that is no comment
unfoldable pub first_other : List Line → Option Line
first_other [] = None
first_other (l ∷ ls) = or_other l l.said (first_other ls)

-- the first line from a place on that is no comment
unfoldable pub next_of : List ℕ → ℕ → Option Line
next_of m at = first_other (lines_at m at)
