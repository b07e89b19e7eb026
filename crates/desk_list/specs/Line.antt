-- What a line of a list says.
use Rattle.std.specs.Prelude.{ℕ, ◌+◌, ◌-◌, ◌≤◌, ◌<◌, Bool, ◌||◌, ◌&&◌, cond, List, eqb, leb, ltb, length, get_or, Option, Some, None, Result, Ok, Err}
use Rattle.text.specs.Compare.{from_to}
use Rattle.text.specs.Refusal.{Outcome, ok, refused, pattern}
use Rattle.desk_list.specs.Kinds.{plain, blank, digit, word, in_line, past}
use Rattle.desk_list.specs.Number.{number_of}
use Rattle.desk_list.specs.declared.reading.Fault.TheVariants.{Byte, NoLabel, LargeLabel, NoSequence, Sequence, More}
use Rattle.desk_list.specs.declared.reading.Fault.{Fault}
use Rattle.desk_list.specs.declared.reading.Withheld.{Withheld}
use Rattle.desk_list.specs.declared.reading.Line.{Line}

-- what a line says: a withheld sequence or nothing, or what is wrong
abbrev pub Said : Type 0
Said = Result (Option Withheld) Fault

abbrev pub withheld : ℕ → ℕ → ℕ → Withheld
withheld label start end = record { label = label; start = start; end = end }

-- nothing stands from a place on: the line ends there, or a comment begins
unfoldable pub ends_at : List ℕ → ℕ → Bool
ends_at l at = leb (length l) at || eqb (get_or l at 0) 35

-- a sequence and what stands after it
unfoldable pub closed_by : List ℕ → ℕ → ℕ → ℕ → Outcome (Unit {0}) → Said
closed_by l label start end (ok _) =
    cond (ends_at l (past blank l end)) (Ok (Some (withheld label start end))) (Err More)
closed_by l label start end (refused n p) = Err (Sequence (record { number = n; place = p }))

-- the sequence from `start` on, after its label
unfoldable pub sequence_of : List ℕ → ℕ → ℕ → Said
sequence_of l label start =
    closed_by l label start (past word l start) (pattern (from_to l start (past word l start)) (ok tt))

-- what stands after the digits of a label
unfoldable pub labelled : List ℕ → ℕ → Option ℕ → Said
labelled l digits None = Err LargeLabel
labelled l digits (Some label) =
    cond (eqb (past blank l digits) digits) (Err NoSequence)
    (cond (ends_at l (past blank l digits)) (Err NoSequence) (sequence_of l label (past blank l digits)))

-- a line that begins to say something at `first`
unfoldable pub label_of : List ℕ → ℕ → Said
label_of l first =
    cond (eqb (past digit l first) first) (Err NoLabel)
    (labelled l (past digit l first) (number_of (from_to l first (past digit l first))))

-- what a line of plain bytes says
unfoldable pub words_of : List ℕ → Said
words_of l = cond (ends_at l (past blank l 0)) (Ok None) (label_of l (past blank l 0))

-- what a line says: before anything else, the first byte that is not plain
unfoldable pub entry_of : List ℕ → Said
entry_of l = cond (ltb (past plain l 0) (length l)) (Err (Byte (past plain l 0))) (words_of l)

-- a line that begins at `at` ends with a carriage return and the line feed at `stop`
abbrev pub returned : List ℕ → ℕ → ℕ → Bool
returned s at stop = ltb stop (length s) && (ltb at stop && eqb (get_or s (stop - 1) 0) 13)

-- where the content of a line ends that begins at `at` and stops at `stop`
unfoldable pub close_of : List ℕ → ℕ → ℕ → ℕ
close_of s at stop = cond (returned s at stop) (stop - 1) stop

-- where the line after one that stops at `stop` begins
unfoldable pub behind : List ℕ → ℕ → ℕ
behind s stop = cond (ltb stop (length s)) (stop + 1) stop

-- what a line says, by places in its list
abbrev pub moved : ℕ → Said → Said
moved at (Ok (Some w)) = Ok (Some (withheld w.label (at + w.start) (at + w.end)))
moved at (Ok None) = Ok None
moved at (Err fault) = Err fault

-- the line that says this, before the one that begins at `next`
abbrev pub placed : ℕ → ℕ → Said → Line
placed at next said = record { said = moved at said; next = next }

-- the line that begins at a place of a list
unfoldable pub line_of : List ℕ → ℕ → Option Line
line_of s at =
    let stop : ℕ = past in_line s at in
    cond (leb (length s) at) None (Some (placed at (behind s stop) (entry_of (from_to s at (close_of s at stop)))))

-- a sequence stands in a line of n bytes
abbrev pub Inside : ℕ → Said → Type 0
Inside n (Ok (Some w)) = (w.start ≤ w.end) × (w.end ≤ n)
Inside n (Ok None) = Unit {0}
Inside n (Err fault) = Unit {0}

-- the next line begins after this one, in a list of n bytes or at its end
abbrev pub Next : ℕ → ℕ → ℕ → Type 0
Next at n next = (at < next) × (next ≤ n)

-- a sequence stands in a list of n bytes, and the next line begins after this one
abbrev pub Onward : ℕ → ℕ → Option Line → Type 0
Onward at n (Some line) = Inside n line.said × Next at n line.next
Onward at n None = Unit {0}
