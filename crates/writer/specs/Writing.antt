-- Writing: letters in a row, variant lengths and variant counts, cut into segments and checked.
use Rattle.std.specs.Prelude.{ℕ, ◌+◌, ◌≡◌, not, ◌&&◌, leb, ltb, eqb, length, get_or}
use mathlib.Core.List.{List, [], map, flatten}
use Rattle.text.specs.Letter.{capital, meant, every, first_not}
use Rattle.text.specs.Text.{Variant, Segment, Text}
use Rattle.text.specs.Refusal.{Outcome, ok, demand, after}
use Rattle.layout.specs.Bytes.{greatest_stretch, part}
use Rattle.layout.specs.Reading.{Taken, among, many}
use Rattle.layout.specs.Sizes.{text_bytes}
use Rattle.writer.specs.Cuts.{cut, sum}

-- the segments that a call gives: the letters cut by the lengths, and those variants by the counts
unfoldable pub given : List ℕ → List ℕ → List ℕ → Text
given letters lengths counts = cut counts (cut lengths letters)

-- the counts sum to the number of lengths, and the lengths to the number of letters
pub record Matching (letters lengths counts : List ℕ) : Type 0 where
  pub listed : sum counts ≡ length lengths
  pub spelt : sum lengths ≡ length letters

-- how far a write has come, counted over the whole call: the next variant's number and its first letter's
pub record Spot : Type 0 where
  pub variant : ℕ
  pub letter : ℕ

abbrev pub spot : ℕ → ℕ → Spot
spot v at = record { variant = v; letter = at }

-- one variant of a write, its letters raised, after those seen of its segment: 7 at its letter's number, 8 at its own
unfoldable pub variant_given : List ℕ → List ℕ → Segment → Spot → Outcome (Taken Variant Spot)
variant_given letters lengths seen at =
    let n : ℕ = get_or lengths at.variant 0 in
    let v : Variant = part letters at.letter n in
    demand (every capital v) 7 (at.letter + first_not capital v)
    (demand (not (among v seen)) 8 at.variant
    (ok (record { value = v; next = spot (at.variant + 1) (at.letter + n) })))

-- segment j of a write: 6 at its number, then its variants
unfoldable pub segment_given : List ℕ → List ℕ → List ℕ → ℕ → Spot → Outcome (Taken Segment Spot)
segment_given letters lengths counts j at =
    demand (ltb 0 (get_or counts j 0)) 6 j
    (many (variant_given letters lengths) (get_or counts j 0) [] at)

-- all segments of a write; each one's number is how many were seen before it
unfoldable pub segments_given : List ℕ → List ℕ → List ℕ → Outcome (Taken Text Spot)
segments_given letters lengths counts =
    many (λ seen. segment_given letters lengths counts (length seen)) (length counts) [] (spot 0 0)

-- the bytes that a write needs
unfoldable pub needed : List ℕ → List ℕ → List ℕ → ℕ
needed letters lengths counts = text_bytes (length letters) (length lengths) (length counts)

-- a write of letters in upper case into a buffer of `room` bytes: the text to write
unfoldable pub writing_capitals : List ℕ → List ℕ → List ℕ → ℕ → Outcome Text
writing_capitals letters lengths counts room =
    demand (eqb (sum counts) (length lengths) && eqb (sum lengths) (length letters)) 14 0
    (demand (leb (needed letters lengths counts) greatest_stretch) 4 0
    (after (segments_given letters lengths counts) λ x.
    (demand (leb (needed letters lengths counts) room) 15 0
    (ok x.value))))

-- a write: its letters are raised to upper case
abbrev pub writing : List ℕ → List ℕ → List ℕ → ℕ → Outcome Text
writing letters lengths counts room = writing_capitals (meant letters) lengths counts room

-- a text taken apart: the letters of all its variants in a row
unfoldable pub letters_of : Text → List ℕ
letters_of T = flatten (flatten T)

-- the length of each of its variants
unfoldable pub lengths_of : Text → List ℕ
lengths_of T = map length (flatten T)

-- the variant count of each of its segments
unfoldable pub counts_of : Text → List ℕ
counts_of T = map length T
