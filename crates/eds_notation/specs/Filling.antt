-- The buffers of a write while they are filled: what an act comes to, and what the buffers have then.
use Rattle.std.specs.Prelude.{ℕ, ◌+◌, ◌-◌, Bool, false, ◌&&◌, cond, List, [], ◌∷◌, eqb, leb, ltb, length, drop, set, Result, Ok, Err}
use Rattle.text.specs.Bits.{any_of}
use Rattle.text.specs.Compare.{alike}
use Rattle.layout.specs.Bytes.{greatest_stretch, part}
use Rattle.layout.specs.Sizes.{text_bytes}
use Rattle.writer.specs.Cuts.{cut}
use Rattle.eds_notation.specs.Notation.{Doing, nothing, act_of}
use Rattle.eds_notation.specs.declared.notation.Begun.{Begun}
use Rattle.eds_notation.specs.declared.notation.Act.TheVariants.{Pass, Letter, Variant, Segment}
use Rattle.eds_notation.specs.declared.wrong.Wrong.{Wrong}
use Rattle.eds_notation.specs.declared.filling.Tape.{Tape}
use Rattle.eds_notation.specs.declared.filling.Stop.{Stop}
use Rattle.eds_notation.specs.declared.filling.Stop.TheVariants.{Full}
use Rattle.eds_notation.specs.declared.filling.Halt.{Halt}

-- what a byte comes to: the tape after it, or why it is not put
abbrev pub Stepped : Type 0
Stepped = Result Tape Stop

abbrev pub tape_of : ℕ → ℕ → ℕ → Begun → Tape
tape_of letters lengths counts o = record { letters = letters; lengths = lengths; counts = counts; begun = o }

-- nothing is filled, and nothing stands open
abbrev pub empty_tape : Tape
empty_tape = tape_of 0 0 0 nothing

-- three buffers
pub record Buffers : Type 0 where
  pub letters : List ℕ
  pub lengths : List ℕ
  pub counts : List ℕ

abbrev pub buffers : List ℕ → List ℕ → List ℕ → Buffers
buffers letters lengths counts = record { letters = letters; lengths = lengths; counts = counts }

-- the letters of the open segment, and the lengths of its closed variants
abbrev pub open_letters : Tape → List ℕ → List ℕ
open_letters t letters = part letters (t.letters - t.begun.letters) t.begun.letters

abbrev pub open_lengths : Tape → List ℕ → List ℕ
open_lengths t lengths = part lengths (t.lengths - t.begun.variants) t.begun.variants

-- the last n letters of a segment spell what one of its variants of these lengths spells
unfoldable pub stands : List ℕ → List ℕ → ℕ → Bool
stands letters lengths n = any_of (alike (drop (length letters - n) letters)) (cut lengths letters)

-- the open variant is equal to an earlier one of its segment
abbrev pub repeated : Tape → List ℕ → List ℕ → Bool
repeated t letters lengths = stands (open_letters t letters) (open_lengths t lengths) t.begun.spelt

-- what stands open lies within the tape, and is at most variant 255 of its segment
unfoldable pub sound : Tape → Bool
sound t =
    leb t.begun.spelt t.begun.letters
    && leb t.begun.letters t.letters
    && leb t.begun.variants t.lengths
    && leb t.begun.variants 254

-- all that is held, with `more` letters and `another` variants more and the open segment closed, has room in a stretch
unfoldable pub fits : Tape → ℕ → ℕ → Bool
fits t more another =
    sound t && leb (text_bytes (t.letters + more) (t.lengths + 1 + another) (t.counts + 1)) greatest_stretch

-- there is no room: full where a segment is closed, so that a cut gives room; else the open segment is too long
unfoldable pub no_room : Tape → Stop
no_room t = cond (eqb t.counts 0) (Stop.Wrong Wrong.Long) Full

-- an act that leads to tape u: it must have room, and then the variant that ends with it may not be repeated
abbrev pub leads : Tape → Bool → Bool → Tape → Stepped
leads t room again u = cond room (cond again (Err (Stop.Wrong Wrong.Repeated)) (Ok u)) (Err (no_room t))

-- one letter more, where the buffer has this many
unfoldable pub letter_step : Tape → Begun → ℕ → Stepped
letter_step t o size =
    leads t (ltb t.letters size && fits t 1 0) false (tape_of (t.letters + 1) t.lengths t.counts o)

-- the end of the open variant has room, with `another` after it, where the buffers have this many letters and lengths
unfoldable pub end_fits : Tape → ℕ → ℕ → ℕ → Bool
end_fits t another letters lengths = leb t.letters letters && ltb t.lengths lengths && fits t 0 another

-- the open variant ends
unfoldable pub variant_step : Tape → Begun → ℕ → List ℕ → List ℕ → Stepped
variant_step t o another letters lengths =
    leads t (end_fits t another (length letters) (length lengths)) (repeated t letters lengths)
    (tape_of t.letters (t.lengths + 1) t.counts o)

-- the open variant and its segment end
unfoldable pub segment_step : Tape → Begun → Buffers → Stepped
segment_step t o b =
    leads t (ltb t.counts (length b.counts) && end_fits t 0 (length b.letters) (length b.lengths))
    (repeated t b.letters b.lengths) (tape_of t.letters (t.lengths + 1) (t.counts + 1) o)

-- what an act comes to
unfoldable pub step_of : Tape → Doing → Buffers → Stepped
step_of t (Ok (Pass o)) b = Ok (tape_of t.letters t.lengths t.counts o)
step_of t (Ok (Letter o)) b = letter_step t o (length b.letters)
step_of t (Ok (Variant o)) b = variant_step t o 1 b.letters b.lengths
step_of t (Ok (Segment o)) b = segment_step t o b
step_of t (Err w) b = Err (Stop.Wrong w)

-- the lengths with the open variant's, and the counts with the open segment's
abbrev pub length_put : Tape → List ℕ → List ℕ
length_put t lengths = set lengths t.lengths t.begun.spelt

abbrev pub count_put : Tape → List ℕ → List ℕ
count_put t counts = set counts t.counts (t.begun.variants + 1)

-- what an act of the byte x puts into the buffers
unfoldable pub puts : Tape → Doing → ℕ → Buffers → Buffers
puts t (Ok (Pass o)) x b = b
puts t (Ok (Letter o)) x b = buffers (set b.letters t.letters x) b.lengths b.counts
puts t (Ok (Variant o)) x b = buffers b.letters (length_put t b.lengths) b.counts
puts t (Ok (Segment o)) x b = buffers b.letters (length_put t b.lengths) (count_put t b.counts)
puts t (Err w) x b = b

-- what is there after an act: what it puts where it is done, else what was there
unfoldable pub if_done : {A : Type 0} → Stepped → A → A → A
if_done (Ok u) new old = new
if_done (Err stop) new old = old

-- what a piece comes to, and what the buffers have then
pub record Came : Type 0 where
  pub told : Result Tape Halt
  pub left : Buffers

abbrev pub came : Result Tape Halt → Buffers → Came
came r b = record { told = r; left = b }

-- on from the step of the byte at `at`
abbrev pub on_from : Stepped → ℕ → Tape → Buffers → (Tape → Came) → Came
on_from (Ok u) at t b rest = rest u
on_from (Err stop) at t b rest = came (Err (record { at = at; tape = t; stop = stop })) b

-- the bytes of a piece from place `at` on, read onto a tape and its buffers: all of them, or up to one that has no room or is wrong
unfoldable pub read_on : Tape → Buffers → ℕ → List ℕ → Came
read_on t b at [] = came (Ok t) b
read_on t b at (x ∷ s) =
    on_from (step_of t (act_of t.begun x) b) at t b (λ u. read_on u (puts t (act_of t.begun x) x b) (at + 1) s)
