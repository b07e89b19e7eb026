-- What the answers of the calls say, in document 01's numbers and values, and what they are to say.
use Rattle.std.specs.Prelude.{ℕ, ◌+◌, ◌≡◌, Bool, true, false, List, length}
use Rattle.text.specs.Text.{Text, total, weight, size}
use Rattle.text.specs.Refusal.{Outcome, ok, refused, after, Answer, answer}
use Rattle.layout.specs.Reading.{segment_at, stretch_of}
use Rattle.layout.specs.Bytes.{word}
use Rattle.layout.specs.Sizes.{first_variant, first_letter}
use Rattle.stretch.specs.Places.{Found, found, end, Reading}
use Rattle.layout.specs.Skips.{behind_variants}
use Rattle.stretch.specs.declared.segment.Walked.{Walked}
use Rattle.stretch.specs.declared.checking.Checked.{Checked}
use Rattle.stretch.specs.declared.checking.Sum.{Sum}
use Rattle.stretch.specs.declared.checking.Checked.TheVariants.{Sound}
use Rattle.stretch.specs.declared.reading.Got.{Got}
use Rattle.stretch.specs.declared.reading.Got.TheVariants.{End}
use Rattle.stretch.specs.declared.writing.Written.{Written}
use Rattle.stretch.specs.declared.writing.Written.TheVariants.{Bytes}

-- how far a walk over a segment has come, and the segment's size
unfoldable pub walked_segment : List ℕ → ℕ → Outcome Walked
walked_segment s at = after (segment_at s at) λ x. ok (record { next = x.next; size = total weight x.value })

-- the segment count and the size of a sound stretch
abbrev pub told_checked : Checked → Outcome Sum
told_checked (Sound segments size) = ok (record { segments = segments; size = size })
told_checked (Checked.Refused r) = refused r.number r.place

-- the same in numbers
abbrev pub zero_sum : Sum
zero_sum = record { segments = 0; size = 0 }

abbrev pub answer_checked : Checked → Answer Sum
answer_checked r = answer zero_sum (told_checked r)

unfoldable pub checking : List ℕ → Outcome Sum
checking s = after (stretch_of s) λ t. ok (record { segments = length t; size = size t })

-- a stretch that was found sound, with its segment count
pub record Accepted (s : List ℕ) (segments : ℕ) : Type 0 where
  pub text : Text
  pub means : stretch_of s ≡ ok text
  pub count : segments ≡ length text

-- what a read finds, and the place that goes with it
abbrev pub told_got : Got → Reading
told_got (Got.Variant start len segment variant) = record { answer = ok (found start len); segment = segment; variant = variant }
told_got (End segment variant) = record { answer = ok end; segment = segment; variant = variant }
told_got (Got.Refused r segment variant) = record { answer = refused r.number r.place; segment = segment; variant = variant }

-- the same in numbers: where the part starts, its length, the end flag, and the place that goes with it
pub record Handed : Type 0 where
  pub start : ℕ
  pub len : ℕ
  pub ended : Bool
  pub segment : ℕ
  pub variant : ℕ

abbrev pub handed_out : Found → ℕ → ℕ → Handed
handed_out (found start len) j v = record { start = start; len = len; ended = false; segment = j; variant = v }
handed_out end j v = record { start = 0; len = 0; ended = true; segment = j; variant = v }

-- no end flag and an empty part; the place is kept
abbrev pub zero_handed : ℕ → ℕ → Handed
zero_handed j v = record { start = 0; len = 0; ended = false; segment = j; variant = v }

abbrev pub answer_reading : Reading → Answer Handed
answer_reading x =
    answer (zero_handed x.segment x.variant) (after x.answer λ f. ok (handed_out f x.segment x.variant))

abbrev pub answer_got : Got → Answer Handed
answer_got r = answer_reading (told_got r)

-- variant v of segment j, whose count stands at `at`
abbrev pub handed_at : List ℕ → ℕ → ℕ → ℕ → Reading
handed_at s at j v =
    let place : ℕ = behind_variants s v (at + first_variant) in
    record { answer = ok (found (place + first_letter) (word s place)); segment = j; variant = v + 1 }

-- the bytes that a write has written
abbrev pub told_written : Written → Outcome ℕ
told_written (Bytes n) = ok n
told_written (Written.Refused r) = refused r.number r.place

-- the same in numbers
abbrev pub answer_written : Written → Answer ℕ
answer_written r = answer 0 (told_written r)
