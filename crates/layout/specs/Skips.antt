-- Stepping over what stands one after another, without reading it again.
use Rattle.std.specs.Prelude.{◌≡◌, ℕ, zero, suc, ◌+◌, ◌≤◌, List, length, slice_index}
use Rattle.layout.specs.Pieces.{next_of}

-- the place after k steps
unfoldable pub stepped : (ℕ → ℕ) → ℕ → ℕ → ℕ
stepped step zero at = at
stepped step (suc k) at = stepped step k (step at)

-- the place after the k variants from `at` on
abbrev pub behind_variants : List ℕ → ℕ → ℕ → ℕ
behind_variants s k at = stepped (next_of s) k at

-- the k variants from `first` on are whole and end at `at`
pub record UpTo (s : List ℕ) (first k at : ℕ) : Type 0 where
  pub ends : behind_variants s k first ≡ at
  pub inside : at ≤ length s

-- the place after the segment at `at`: its count and its variants
abbrev pub behind_segment : List ℕ → ℕ → ℕ
behind_segment s at = behind_variants s (slice_index s at) (at + 1)

-- the place of segment k of a stretch, after the segment count and the k segments before it
abbrev pub segment_place : List ℕ → ℕ → ℕ
segment_place s k = stepped (behind_segment s) k 2
