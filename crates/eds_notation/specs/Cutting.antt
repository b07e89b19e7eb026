-- The cut: what is written of a tape, and what stays.
use Rattle.std.specs.Prelude.{ℕ, ◌-◌, Bool, ◌&&◌, cond, List, leb, length, take}
use Rattle.text.specs.Text.{Text}
use Rattle.text.specs.Refusal.{Outcome, demand}
use Rattle.layout.specs.Bytes.{over}
use Rattle.writer.specs.Writing.{writing}
use Rattle.eds_notation.specs.Filling.{tape_of, open_letters, open_lengths}
use Rattle.eds_notation.specs.declared.filling.Tape.{Tape}

-- the tape lies within buffers of that many letters and lengths, and what stands open within the tape
unfoldable pub within : Tape → ℕ → ℕ → Bool
within t letters lengths =
    leb t.letters letters
    && leb t.lengths lengths
    && leb t.begun.letters t.letters
    && leb t.begun.variants t.lengths

-- a tape, and the letters and lengths that the buffers have
pub record Rest : Type 0 where
  pub tape : Tape
  pub letters : List ℕ
  pub lengths : List ℕ

abbrev pub rest : Tape → List ℕ → List ℕ → Rest
rest t letters lengths = record { tape = t; letters = letters; lengths = lengths }

-- what a cut leaves: what stands open, at the front; a tape that does not lie within its buffers leaves all as it is
unfoldable pub cut_off : Tape → List ℕ → List ℕ → Rest
cut_off t letters lengths =
    cond (within t (length letters) (length lengths))
    (rest (tape_of t.begun.letters t.begun.variants 0 t.begun) (over letters 0 (open_letters t letters))
    (over lengths 0 (open_lengths t lengths)))
    (rest t letters lengths)

-- the letters and lengths of the closed segments
abbrev pub closed_letters : Tape → List ℕ → List ℕ
closed_letters t letters = take (t.letters - t.begun.letters) letters

abbrev pub closed_lengths : Tape → List ℕ → List ℕ
closed_lengths t lengths = take (t.lengths - t.begun.variants) lengths

-- the closed segments, given to a write into `room` bytes; 14 where the tape does not lie within its buffers
unfoldable pub closed_writing : Tape → List ℕ → List ℕ → List ℕ → ℕ → Outcome Text
closed_writing t letters lengths counts room =
    demand (leb t.counts (length counts) && within t (length letters) (length lengths)) 14 0
    (writing (closed_letters t letters) (closed_lengths t lengths) (take t.counts counts) room)
