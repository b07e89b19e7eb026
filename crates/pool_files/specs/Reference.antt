-- The sequence of a name in a file in FASTA format, byte by byte.
use Rattle.std.specs.Prelude.{ℕ, ◌+◌, ◌-◌, min, Bool, true, false, cond, ◌||◌, List, [], ◌∷◌, length, ◌==◌, slice_set}
use Rattle.text.specs.Letter.{letter}
use Rattle.pool_files.specs.Words.{go_on}
use Rattle.pool_files.specs.declared.reference.Reading.{Reading}
use Rattle.pool_files.specs.declared.reference.Reading.TheVariants.{Start, Before, Passing, Word, Header, Begun, Inside, Returned, Over}
use Rattle.pool_files.specs.declared.reference.Reading.TheVariants.{Wrong}
use Rattle.pool_files.specs.declared.reference.Taken.{Taken}

-- line feed, carriage carriage, blank, tab, and the byte that a header begins with
abbrev pub feed : ℕ
feed = 0x0A

abbrev pub carriage : ℕ
carriage = 0x0D

-- after a byte of a header or of a line that counts no more; the header is that of the sequence, or not
unfoldable pub in_header : Bool → ℕ → Reading
in_header found b = cond (b == feed) (cond found Begun Before) (cond found Header Passing)

-- what ends the first word of a header
unfoldable pub ends_word : ℕ → Bool
ends_word b = b == feed || b == carriage || b == 0x20 || b == 0x09

unfoldable pub in_word : List ℕ → ℕ → ℕ → Reading
in_word name k b = cond (ends_word b) (in_header (k == length name) b) (Word (go_on name k b))

-- after a byte of a line of the sequence
unfoldable pub in_line : ℕ → Reading
in_line b = cond (b == feed) Begun (cond (b == carriage) Returned (cond (letter b) Inside Wrong))

-- after one byte more
unfoldable pub step_of : List ℕ → Reading → ℕ → Reading
step_of name Start b = cond (b == 0x3E) (Word 0) Wrong
step_of name Before b = cond (b == 0x3E) (Word 0) (in_header false b)
step_of name Passing b = in_header false b
step_of name (Word k) b = in_word name k b
step_of name Header b = in_header true b
step_of name Begun b = cond (b == 0x3E) Over (in_line b)
step_of name Inside b = in_line b
step_of name Returned b = cond (b == feed) Begun Wrong
step_of name Over b = Over
step_of name Wrong b = Wrong

-- what a byte has led to: a base, nothing, or an end
pub data Led : Type 0 where
  Base : Led
  Nothing : Led
  End : Led

unfoldable pub led_to : Reading → Led
led_to Start = Nothing
led_to Before = Nothing
led_to Passing = Nothing
led_to (Word k) = Nothing
led_to Header = Nothing
led_to Begun = Nothing
led_to Inside = Base
led_to Returned = Nothing
led_to Over = End
led_to Wrong = End

-- by what was led to
abbrev pub by_led : {A : Type 0} → Led → A → A → A → A
by_led Base a b c = a
by_led Nothing a b c = b
by_led End a b c = c

-- the bases of the sequence in these bytes, up to its end or a wrong byte
unfoldable pub bases_from : List ℕ → Reading → List ℕ → List ℕ
bases_from name r [] = []
bases_from name r (b ∷ s) =
    let rest : List ℕ = bases_from name (step_of name r b) s in
    by_led (led_to (step_of name r b)) (b ∷ rest) rest []

-- how far a piece was read, and the buffer then
pub record Filled : Type 0 where
  pub taken : Taken
  pub buffer : List ℕ

abbrev pub filled : Reading → ℕ → ℕ → List ℕ → Filled
filled r at n d = record { taken = record { reading = r; at = at; count = n }; buffer = d }

-- these bytes, which stand from place `at` on, are read, and at most `left` bases put into the buffer d from place n on
unfoldable pub taking : List ℕ → Reading → ℕ → List ℕ → ℕ → ℕ → List ℕ → Filled
taking name r left [] at n d = filled r at n d
taking name r left (b ∷ s) at n d =
    let more : Filled = taking name (step_of name r b) (left - 1) s (at + 1) (n + 1) (slice_set d n b) in
    let on : Filled = taking name (step_of name r b) left s (at + 1) n d in
    cond (left == 0) (filled r at n d) (by_led (led_to (step_of name r b)) more on (filled (step_of name r b) at n d))

-- how many bases more are wanted and have room, where `most` are wanted in all
unfoldable pub wanted : ℕ → ℕ → ℕ → ℕ
wanted size count most = min most size - count
