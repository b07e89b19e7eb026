-- What a line of a manifest says.
use Rattle.std.specs.Prelude.{ℕ, ◌+◌, ◌≤◌, ◌<◌, Bool, ◌&&◌, cond, List, [], ◌∷◌, eqb, leb, length, take, drop, get_or, Option, Some, None, Result, Ok, Err}
use Rattle.text.specs.Letter.{every, first_not}
use Rattle.text.specs.Compare.{same, from_to}
use Rattle.manifest.specs.Kinds.{in_line, hex_digit, is_name}
use Rattle.manifest.specs.declared.reading.Stretch.{Stretch}
use Rattle.manifest.specs.declared.reading.Wrong.{Wrong}
use Rattle.manifest.specs.declared.reading.Line.{Line}

-- two blanks
abbrev pub blanks : List ℕ
blanks = 0x20 ∷ 0x20 ∷ []

-- a line that begins with `#`
unfoldable pub is_comment : List ℕ → Bool
is_comment l = eqb (get_or l 0 0) 0x23

-- a stretch's line without its end: 64 digits, two blanks and a name
unfoldable pub is_entry : List ℕ → Bool
is_entry l = every hex_digit (take 64 l) && (same (take 2 (drop 64 l)) blanks && is_name (drop 66 l))

-- a line that says this, before the one that begins at `next`
abbrev pub line : Result (Option Stretch) Wrong → ℕ → Line
line said next = record { said = said; next = next }

-- a comment; a stretch's line, with its name from `start` to `end`; a wrong one
abbrev pub comment : ℕ → Line
comment next = line (Ok None) next

abbrev pub entry : ℕ → ℕ → ℕ → Line
entry start end next = line (Ok (Some (record { start = start; end = end }))) next

abbrev pub wrong : ℕ → Line
wrong next = line (Err (record {})) next

-- what the line l says that stands from `at` to the line feed at `end`
unfoldable pub said_by : ℕ → ℕ → List ℕ → Line
said_by at end l = cond (is_comment l) (comment (end + 1)) (cond (is_entry l) (entry (at + 66) end (end + 1)) (wrong (end + 1)))

-- the line from `at` to the line feed at `end`; where the manifest ends there, the line has none, and is wrong
unfoldable pub line_to : List ℕ → ℕ → ℕ → Line
line_to m at end = cond (leb (length m) end) (wrong end) (said_by at end (from_to m at end))

-- where the line that begins at a place ends: the first line feed, or the end of the manifest
abbrev pub end_from : List ℕ → ℕ → ℕ
end_from m at = at + first_not in_line (drop at m)

-- the line that begins at a place of a manifest
unfoldable pub line_of : List ℕ → ℕ → Option Line
line_of m at = cond (leb (length m) at) None (Some (line_to m at (end_from m at)))

-- a name stands in a manifest of n bytes
abbrev pub Inside : ℕ → Result (Option Stretch) Wrong → Type 0
Inside n (Ok (Some s)) = (s.start ≤ s.end) × (s.end ≤ n)
Inside n (Ok None) = Unit {0}
Inside n (Err w) = Unit {0}

-- a name stands in a manifest of n bytes, and the next line begins after the place `at`, or the manifest ends there
abbrev pub Onward : ℕ → ℕ → Option Line → Type 0
Onward at n (Some l) = Inside n l.said × (at < l.next) × (l.next ≤ n)
Onward at n None = Unit {0}
