-- The text as it stands in the bytes of a stretch: its letters in their own case.
use Rattle.std.specs.Prelude.{ℕ, zero, suc, ◌+◌, List, [], ◌∷◌, slice_index}
use Rattle.text.specs.Text.{Segment, Text}
use Rattle.layout.specs.Bytes.{word}
use Rattle.layout.specs.Pieces.{letters_at, next_of}
use Rattle.layout.specs.Skips.{behind_segment}

-- the letters of the k variants from `at` on
unfoldable pub letters_from : List ℕ → ℕ → ℕ → Segment
letters_from s zero at = []
letters_from s (suc k) at = letters_at s at ∷ letters_from s k (next_of s at)

-- those of the segment at `at`
abbrev pub standing_segment : List ℕ → ℕ → Segment
standing_segment s at = letters_from s (slice_index s at) (at + 1)

-- those of the n segments from `at` on
unfoldable pub segments_from : List ℕ → ℕ → ℕ → Text
segments_from s zero at = []
segments_from s (suc n) at = standing_segment s at ∷ segments_from s n (behind_segment s at)

-- those of all its segments
unfoldable pub standing : List ℕ → Text
standing s = segments_from s (word s 0) 2
