-- What is proved about the calls of this crate and of the writer, by name. The contracts in src/ say what each call answers by the
-- definitions of specs/; here stands what these answers come to together. A hypothesis that begins with `told`, or says what a buffer
-- holds, is a call's contract word by word.
use Prim.Native.Nat.{ℕ, ◌<◌, ◌≤◌}
use mathlib.Core.Path.{◌≡◌, sym, ap, ◌∙◌}
use mathlib.Core.List.{List}
use lib.ListN.{length, get_or, take}
use Rattle.text.specs.Text.{Text, segment}
use Rattle.text.specs.Refusal.{ok}
use Rattle.text.proofs.Outcomes.{refused-ok}
use Rattle.layout.specs.Bytes.{over, left_by}
use Rattle.layout.specs.Reading.{stretch_of}
use Rattle.layout.specs.Encoding.{encode, raised_text}
use Rattle.layout.specs.Standing.{standing}
use Rattle.layout.proofs.Stands.{Bytes}
use Rattle.layout.proofs.Decoding.{stretch-means}
use Rattle.layout.proofs.Encoding.{standing-encoded}
use Rattle.layout.proofs.Theorems.{accepted-bytes, accepted-writable}
use Rattle.writer.specs.Writing.{given, writing, letters_of, lengths_of, counts_of}
use Rattle.stretch.specs.Answers.{told_written}
use Rattle.writer.specs.Answers.{written}
use Rattle.stretch.specs.declared.writing.Written.{Written}
use Rattle.stretch.specs.declared.writing.Written.TheVariants.{Bytes as Count}
use Rattle.writer.proofs.Rewriting.{Typed}
use Rattle.writer.proofs.Theorems.{written-accepted, apart-can-be-given, apart-written}
use Rattle.stretch.specs.Places.{variant, reading, part_of}
use Rattle.stretch.specs.Onward.{Handed, ReadOn, gathered, ReadsAs}
use Rattle.stretch.proofs.ReadsOnward.{read_letters, reads_as, read-accepted}

-- An accepted stretch is read on, from the first place to the end, as its text stands: letters are handed on in their own case.
pub accepted-reads : (s : List ℕ) (t : Text) → stretch_of s ≡ ok t → ReadsAs s (standing s)
accepted-reads = reads_as

-- At a place that has a variant, `letters` hands out its letters.
pub accepted-letters :
    (s : List ℕ) (t : Text) → stretch_of s ≡ ok t → (j v : ℕ) → v < length (segment (standing s) j) →
    part_of s (reading s j v).answer ≡ variant (standing s) j v
accepted-letters = read_letters

-- What was read on to the end is an accepted stretch: its bytes are those of the segments that were read, and it means them raised.
pub read-is-accepted : (s : List ℕ) (l : List Handed) → ReadOn s 0 0 l
    → (gathered l ≡ standing s) × (stretch_of s ≡ ok (raised_text (gathered l)))
read-is-accepted s l r =
    let (t, e) = read-accepted s l r in
    let a = reads_as s t e in
    let is : gathered l ≡ standing s = ap gathered (a.once l r) ∙ a.is in
    (is, rw is (e ∙ ap ok (sym (stretch-means s t e))))

-- They can be given to a write: letters and counts are bytes, lengths are below 65,536.
pub read-can-be-given :
    (s : List ℕ) → Bytes s → (l : List Handed) → ReadOn s 0 0 l →
    Typed (letters_of (gathered l)) (lengths_of (gathered l)) (counts_of (gathered l))
read-can-be-given s bytes l r =
    apart-can-be-given (gathered l) (accepted-writable s bytes (raised_text (gathered l)) (read-is-accepted s l r).1)

-- An accepted stretch, read and written again, is its bytes with the letters raised to upper case: the segments that were read, whose
-- bytes are s, given to a write into a buffer d that has room, are written raised over the front of d. Lengths and counts are untouched.
pub read-written-again :
    (s : List ℕ) → Bytes s → (l : List Handed) → ReadOn s 0 0 l → (d : List ℕ) → length s ≤ length d → (r : Written) (out : List ℕ) →
    told_written r ≡ written (writing (letters_of (gathered l)) (lengths_of (gathered l)) (counts_of (gathered l)) (length d)) →
    out ≡ left_by encode (writing (letters_of (gathered l)) (lengths_of (gathered l)) (counts_of (gathered l)) (length d)) d →
    (encode (gathered l) ≡ s) × (r ≡ Count (length s)) × (out ≡ over d 0 (encode (raised_text (gathered l))))
read-written-again s bytes l read d room r out told left =
    let (is, e) = read-is-accepted s l read in
    let t : Text = raised_text (gathered l) in
    let same : encode (gathered l) ≡ s = ap encode is ∙ accepted-bytes s bytes t e in
    let (count, over) = apart-written (gathered l) (accepted-writable s bytes t e) d (rw same room) (told_written r) out told left in
    (same, counted r (rw same at count), over)
  where
    counted : {n : ℕ} (r : Written) → told_written r ≡ ok n → r ≡ Count n
    counted (Count m) e = cc
    counted {n} (Written.Refused f) e = absurd (refused-ok f.number f.place n e)

-- What the writer writes reads back: the n bytes that an accepted write has left are read on as exactly the segments that were given, their
-- letters raised to upper case.
pub written-read-back :
    (letters lengths counts : List ℕ) → ((k : ℕ) → get_or counts k 0 < 256) → (d : List ℕ) (n : ℕ) (out : List ℕ) →
    told_written (Count n) ≡ written (writing letters lengths counts (length d)) →
    out ≡ left_by encode (writing letters lengths counts (length d)) d →
    ReadsAs (take n out) (raised_text (given letters lengths counts))
written-read-back letters lengths counts bytes d n out told left =
    let t : Text = raised_text (given letters lengths counts) in
    let (front, w, e) = written-accepted letters lengths counts bytes d n out told left in
    let stands : standing (take n out) ≡ t = ap standing front ∙ standing-encoded t w in
    rw stands at (reads_as (take n out) t e)
