-- What is proved about the writer, by name. Its contract in src/ says what it answers by the definitions of specs/; here stands what
-- that comes to. A hypothesis on what is told, or on what a buffer holds, is the call's contract word by word.
use Prim.Native.Nat.{ℕ, ◌<◌, ◌≤◌}
use mathlib.Core.Path.{◌≡◌, sym, ap, ◌∙◌}
use mathlib.Core.Bool.{true}
use mathlib.Core.List.{List}
use lib.ListN.{length, get_or, take}
use Rattle.text.specs.Letter.{meant}
use Rattle.text.specs.Text.{Text}
use Rattle.text.specs.Refusal.{Outcome, ok}
use Rattle.text.proofs.Outcomes.{told-met}
use Rattle.layout.specs.Bytes.{over, left_by}
use Rattle.layout.specs.Reading.{stretch_of}
use Rattle.layout.specs.Encoding.{encode, raised_text, writable}
use Rattle.layout.proofs.Overs.{over-front}
use Rattle.layout.proofs.Standing.{raised-bytes}
use Rattle.layout.proofs.Theorems.{writable-accepted}
use Rattle.writer.specs.Writing.{given, writing, letters_of, lengths_of, counts_of}
use Rattle.writer.specs.Answers.{written}
use Rattle.writer.proofs.GivenRaised.{given-raised}
use Rattle.writer.proofs.Writable.{writing-writable}
use Rattle.writer.proofs.RoundTrips.{written-raised}
use Rattle.writer.proofs.Rewriting.{Typed, apart-typed}

-- What is written is accepted: the n bytes that an accepted write has left are those of exactly the segments that were given, their
-- letters raised to upper case, which can be written; and they mean these.
module _ (letters lengths counts : List ℕ) (bytes : (k : ℕ) → get_or counts k 0 < 256) (d : List ℕ) (n : ℕ) (out : List ℕ) where
  abbrev gave : Text
  gave = raised_text (given letters lengths counts)

  pub written-accepted :
      ok n ≡ written (writing letters lengths counts (length d)) →
      out ≡ left_by encode (writing letters lengths counts (length d)) d →
      (take n out ≡ encode gave) × (writable gave ≡ true) × (stretch_of (take n out) ≡ ok gave)
  written-accepted told left =
      let (t, e, size) = told-met (writing letters lengths counts (length d)) (λ t. length (encode t)) n (sym told) in
      let (is, w) = writing-writable (meant letters) lengths counts bytes (length d) t e in
      let text : t ≡ gave = is ∙ given-raised letters lengths counts in
      let front : take n out ≡ encode t =
      ap (take n) (left ∙ ap (λ (o : Outcome Text). left_by encode o d) e) ∙ over-front d (encode t) n size in
      rw (← text) (front, w, rw front (writable-accepted t w))

-- A text that can be written once its letters are raised to upper case can be given to a write: letters and counts are bytes, lengths
-- are below 65,536.
pub apart-can-be-given : (T : Text) → writable (raised_text T) ≡ true → Typed (letters_of T) (lengths_of T) (counts_of T)
apart-can-be-given = apart-typed

-- Given to a write into a buffer d that has room, it is written raised over the front of d.
pub apart-written :
    (T : Text) → writable (raised_text T) ≡ true → (d : List ℕ) → length (encode T) ≤ length d → (told : Outcome ℕ) (out : List ℕ) →
    told ≡ written (writing (letters_of T) (lengths_of T) (counts_of T) (length d)) →
    out ≡ left_by encode (writing (letters_of T) (lengths_of T) (counts_of T) (length d)) d →
    (told ≡ ok (length (encode T))) × (out ≡ over d 0 (encode (raised_text T)))
apart-written T w d room told out is left =
    let size : length (encode (raised_text T)) ≡ length (encode T) = raised-bytes T in
    let fits : length (encode (raised_text T)) ≤ length d = rw size room in
    let e : writing (letters_of T) (lengths_of T) (counts_of T) (length d) ≡ ok (raised_text T) = written-raised T (length d) w fits in
    (is ∙ rw e (ap ok size), left ∙ rw e)
