-- What is proved about the calls of this crate, by name. The contracts in src/ say what each call leaves by the definitions of specs/; here
-- stands what they come to together. `read_on`, `step_of`, `cut_off` and `closed_writing` are what the calls answer and leave.
use Prim.Native.Nat.{ℕ, ◌-◌, ◌<◌, ◌≤◌}
use native.Mathlib.Omega.{arith}
use mathlib.Core.Path.{◌≡◌, refl, sym, ap, ◌∙◌}
use mathlib.Core.Bool.{true}
use mathlib.Core.List.{List, append-nil}
use Rattle.std.proofs.Common.{Ok, Err}
use lib.ListN.{length, take, drop}
use Rattle.text.specs.Text.{Text}
use Rattle.text.specs.Refusal.{ok}
use Rattle.layout.specs.Reading.{stretch_of}
use Rattle.text.specs.Letter.{meant}
use Rattle.layout.specs.Encoding.{encode, raised_text, writable}
use Rattle.layout.proofs.Encoding.{stretch-of, standing-encoded}
use Rattle.layout.proofs.Decoding.{stretch-means}
use Rattle.writer.specs.Writing.{letters_of, lengths_of, counts_of}
use Rattle.layout.proofs.Stands.{Bytes}
use Rattle.layout.proofs.Theorems.{accepted-writable}
use Rattle.writer.proofs.RoundTrips.{written-again, letters-of-raised}
use Rattle.eds_notation.specs.Notation.{Doing, nothing}
use Rattle.eds_notation.specs.Reading.{Read, rests, reads}
use Rattle.eds_notation.specs.Filling.{Buffers, buffers, empty_tape, step_of, came, read_on}
use Rattle.eds_notation.specs.Cutting.{within, cut_off, closed_writing}
use Rattle.eds_notation.specs.Braces.{in_braces}
use Rattle.eds_notation.specs.declared.notation.Begun.{Begun}
use Rattle.eds_notation.specs.declared.filling.Tape.{Tape}
use Rattle.eds_notation.specs.declared.filling.Stop.TheVariants.{Full}
use Rattle.eds_notation.proofs.ReadsBack.{whole, reads-back}
use Rattle.eds_notation.proofs.ReadsWhole.{Whole, read_whole}
use Rattle.eds_notation.proofs.Kept.{held_in, PieceKept, Inside, read_kept, read-inside, full-closed}
use Rattle.eds_notation.proofs.Cuts.{NothingLost, cut-kept, within_none, closed-given}

-- What the buffers hold, with what the rest of a piece puts after it, is what it was before `read_on`: nothing is lost, put twice or put
-- elsewhere, wherever the reading stops; and it stops before the end only at a byte whose step is full or wrong.
pub nothing-lost :
    (piece : List ℕ) (t : Tape) (from : ℕ) (b : Buffers) →
    let x = read_on t b from (drop from piece) in PieceKept t piece from b x.told x.left
nothing-lost piece t from b = read_kept piece (drop from piece) t from b refl

-- Nothing is lost at a cut of a tape that lies within its buffers.
pub cut-loses-nothing :
    (t : Tape) (letters lengths : List ℕ) → within t (length letters) (length lengths) ≡ true →
    NothingLost t letters lengths (cut_off t letters lengths)
cut-loses-nothing = cut-kept

-- A stretch is full only where a segment is closed, so that a cut takes something away; and after a cut no byte is told to be full, so
-- that the text goes on or is wrong.
pub full-cuts : (t : Tape) (a : Doing) (b : Buffers) → step_of t a b ≡ Err Full → 0 < t.counts
full-cuts = full-closed

pub cut-goes-on :
    (t : Tape) (letters lengths : List ℕ) → within t (length letters) (length lengths) ≡ true → (a : Doing) (b : Buffers) →
    step_of (cut_off t letters lengths).tape a b ≡ Err Full → ⊥
cut-goes-on t letters lengths w a b e =
    omega (arith, full-closed (cut_off t letters lengths).tape a b e, (cut-kept t letters lengths w).counts-none)

-- The notation of a text that can be written reads back as the text: its letters, lengths and counts, nothing open and nothing wrong.
pub notation-reads-back : (t : Text) → writable t ≡ true → reads nothing (in_braces t) ≡ whole t
notation-reads-back = reads-back

-- So does the notation of the text that an accepted stretch means. `put_braces` puts it with the letters in their own case, and a write
-- raises them.
pub braces-read-back : (s : List ℕ) → Bytes s → (t : Text) → stretch_of s ≡ ok t → reads nothing (in_braces t) ≡ whole t
braces-read-back s bytes t e = reads-back t (accepted-writable s bytes t e)

-- `read_on` reads the notation of a text that can be written whole, where the buffers have room for it: no byte of it is told to be full, to
-- repeat a variant or to be too much.
pub notation-read-whole :
    (t : Text) → writable t ≡ true → (letters lengths counts : List ℕ) → length (letters_of t) ≤ length letters →
    length (lengths_of t) ≤ length lengths → length (counts_of t) ≤ length counts →
    Whole (read_on empty_tape (buffers letters lengths counts) 0 (in_braces t))
notation-read-whole = read_whole

-- Then `write_closed` is given exactly that text, so that it writes it.
module _
    (t : Text) (w : writable t ≡ true) (b c : Buffers) (u : Tape) (read : read_on empty_tape b 0 (in_braces t) ≡ came (Ok u) c) where
  held : held_in u c (rests u.begun 0) ≡ whole t
  unfolding PieceKept
  held = (rw read at (read_kept (in_braces t) (in_braces t) empty_tape 0 b refl)) ∙ reads-back t w

  inside : Inside u c
  inside =
      read-inside (in_braces t) empty_tape 0 b u c (record { letters-in = omega arith; lengths-in = omega arith; counts-in = omega arith }) read

  open_none : u.begun ≡ nothing
  open_none = ap (λ (r : Read). r.begun) held

  letters-are : take u.letters c.letters ≡ letters_of t
  letters-are = sym (append-nil (take u.letters c.letters)) ∙ ap (λ (r : Read). r.letters) held

  lengths-are : take u.lengths c.lengths ≡ lengths_of t
  lengths-are = sym (append-nil (take u.lengths c.lengths)) ∙ ap (λ (r : Read). r.lengths) held

  counts-are : take u.counts c.counts ≡ counts_of t
  counts-are = sym (append-nil (take u.counts c.counts)) ∙ ap (λ (r : Read). r.counts) held

  pub notation-written :
      (room : ℕ) → length (encode t) ≤ room → closed_writing u c.letters c.lengths c.counts room ≡ ok t
  notation-written room fits =
      let none : u.letters - 0 ≡ u.letters = omega arith in
      let a : u.letters - u.begun.letters ≡ u.letters = ap (λ (o : Begun). u.letters - o.letters) open_none ∙ none in
      let also : u.lengths - 0 ≡ u.lengths = omega arith in
      let d : u.lengths - u.begun.variants ≡ u.lengths = ap (λ (o : Begun). u.lengths - o.variants) open_none ∙ also in
      let raised : raised_text t ≡ t = ap raised_text (sym (standing-encoded t w)) ∙ stretch-means (encode t) t (stretch-of t w) in
      let upper : meant (letters_of t) ≡ letters_of t = sym (letters-of-raised t) ∙ ap letters_of raised in
      closed-given u c.letters c.lengths c.counts room inside.counts-in
      (within_none u (length c.letters) (length c.lengths) inside.letters-in inside.lengths-in open_none)
      ∙ rw (a, d, letters-are, lengths-are, counts-are, upper) (written-again t room w fits)

-- So the way from a text to its notation and back through `read_on` and `write_closed` gives the text.
pub notation-round-trip :
    (t : Text) (w : writable t ≡ true) (letters lengths counts : List ℕ) (a : length (letters_of t) ≤ length letters)
    (b : length (lengths_of t) ≤ length lengths) (c : length (counts_of t) ≤ length counts) (room : ℕ) → length (encode t) ≤ room →
    let x = read_whole t w letters lengths counts a b c in
    closed_writing x.tape x.left.letters x.left.lengths x.left.counts room ≡ ok t
notation-round-trip t w letters lengths counts a b c room fits =
    let x = read_whole t w letters lengths counts a b c in
    notation-written t w (buffers letters lengths counts) x.left x.tape x.is room fits
