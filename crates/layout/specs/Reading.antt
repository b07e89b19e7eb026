-- What bytes mean: a text, or a refusal with its place. Places count in the whole list.
use Rattle.std.specs.Prelude.{◌≡◌, ℕ, zero, suc, ◌+◌, Bool, not, List, [], ◌∷◌, ◌++◌}
use Rattle.text.specs.Letter.{letter, meant, every}
use Rattle.text.specs.Text.{Variant, Segment, Text}
use Rattle.text.specs.Compare.{same}
use Rattle.text.specs.Bits.{any_of}
use Rattle.text.specs.Refusal.{Outcome, ok, demand, after}
use Rattle.layout.specs.Pieces.{fits, open_at, variants_at, letters_at, next_of, head_at, wrong_place, closed_at}

-- what the variant whose length stands at `at` spells: its letters, in upper case
unfoldable pub value_of : List ℕ → ℕ → Variant
value_of s at = meant (letters_at s at)

-- what it may refuse by itself, before o: 5 where it is cut off, 7
unfoldable pub formed : {A : Type 0} → List ℕ → ℕ → Outcome A → Outcome A
formed s at o = after (head_at s at) λ _. demand (every letter (letters_at s at)) 7 (wrong_place s at) o

-- something that was read, and the place after it
pub record Taken (A B : Type 0) : Type 0 where
  pub value : A
  pub next : B

-- a variant equal to one of those seen
unfoldable pub among : Variant → Segment → Bool
among v seen = any_of (same v) seen

-- one variant, after those seen of its segment: 5, 7, then 8
unfoldable pub variant_at : List ℕ → Segment → ℕ → Outcome (Taken Variant ℕ)
variant_at s seen at =
    formed s at (demand (not (among (value_of s at) seen)) 8 at (ok (record { value = value_of s at; next = next_of s at })))

-- what the k variants from `at` on spell
unfoldable pub values_from : List ℕ → ℕ → ℕ → Segment
values_from s zero at = []
values_from s (suc k) at = value_of s at ∷ values_from s k (next_of s at)

-- n things one after another, each read by f after those seen
unfoldable pub many : {A B : Type 0} → (List A → B → Outcome (Taken A B)) → ℕ → List A → B → Outcome (Taken (List A) B)
many f zero seen at = ok (record { value = seen; next = at })
many f (suc n) seen at = after (f seen at) (λ x. many f n (seen ++ (x.value ∷ [])) x.next)

-- one segment: 5 where its count is cut off, 6, then its variants
unfoldable pub segment_at : List ℕ → ℕ → Outcome (Taken Segment ℕ)
segment_at s at = after (variants_at s at) λ n. many (variant_at s) n [] (at + 1)

-- a segment can be read at `at`
pub record Readable (s : List ℕ) (at : ℕ) : Type 0 where
  pub read : Taken Segment ℕ
  pub is : segment_at s at ≡ ok read

-- the text of n segments that stand from `from` on, and nothing after them: 5 to 8, then 9, 16
unfoldable pub segments_of : List ℕ → ℕ → ℕ → Outcome Text
segments_of s n from =
    after (many (λ _. segment_at s) n [] from) λ x.
    after (closed_at s x.next n) λ _.
    ok x.value

-- the text that a stretch encodes, its length apart: its count, its segments, and nothing after them
unfoldable pub whole_stretch : List ℕ → Outcome Text
whole_stretch s = after (open_at s) λ n. segments_of s n 2

-- the text that a stretch encodes
unfoldable pub stretch_of : List ℕ → Outcome Text
stretch_of s = fits s (whole_stretch s)

-- the segment that a lone segment encodes, its length apart
unfoldable pub lone_segment : List ℕ → Outcome Segment
lone_segment s =
    after (segment_at s 0) λ x.
    after (closed_at s x.next 1) λ _.
    ok x.value

-- the segment that a lone segment encodes
unfoldable pub segment_of : List ℕ → Outcome Segment
segment_of s = fits s (lone_segment s)
