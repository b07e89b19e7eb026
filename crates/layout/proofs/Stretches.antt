-- A walk over the segments of a stretch: what the walk has read is what `stretch_of` reads.
use Rattle.std.proofs.Common.{◌≡◌, ℕ, ◌+◌, ◌<◌, ◌≤◌, List, [], ◌∷◌, ◌++◌, length, arith}
use borrow.Author.Tests.{lt-leb}
use Rattle.text.specs.Text.{Variant, Segment, Text, weight, total}
use Rattle.text.specs.Refusal.{ok, refused}
use Rattle.text.proofs.Sizes.{total-each}
use Rattle.layout.specs.Bytes.{greatest_stretch}
use Rattle.layout.specs.Pieces.{most_in_stretch}
use Rattle.layout.specs.Reading.{Taken, variant_at, many, segment_at, whole_stretch, stretch_of}
use Rattle.layout.proofs.Walks.{Step, walk_refused, walk-length, Summed, summed-none, summed-more, many-steps, many-length}
use Rattle.layout.proofs.Frames.{segment-met, whole-met, stretch-whole}
use Rattle.layout.proofs.Units.{variant-read}
use Rattle.layout.proofs.Segments.{variant-steps}

-- a segment counts no more than its bytes
pub segment-steps :
    (s : List ℕ) (seen : List Segment) (at : ℕ) (x : Taken Segment ℕ) → segment_at s at ≡ ok x → Step (total weight) (length s) at x
unfolding total
segment-steps s seen at x e =
    let t = segment-met s at x e in
    let inside : at + 1 ≤ length s = omega (arith, t.counts.inside) in
    let m = many-steps (variant_at s) weight (length s) (variant-steps s) t.count [] (at + 1) x inside t.all in
    record { counts = omega (arith, m.0); inside = m.1 }

-- the segments that stand one after another from `from` on, walked and summed up
abbrev pub InStretch : List ℕ → ℕ → ℕ → Text → ℕ → ℕ → Type 0
InStretch s from k seen at size = Summed (λ _. segment_at s) (total weight) (length s) (segment-steps s) from k seen at size

pub through-none : (s : List ℕ) (from : ℕ) → from ≤ length s → InStretch s from 0 [] from 0
through-none s from l = summed-none (λ _. segment_at s) (total weight) (length s) (segment-steps s) from l

module _ (s : List ℕ) (from k : ℕ) (seen : Text) (at size : ℕ) (m : InStretch s from k seen at size) where
  pub through-more : (g : Segment) (next more : ℕ) → segment_at s at ≡ ok (record { value = g; next = next }) → total weight g ≡ more
      → InStretch s from (k + 1) (seen ++ (g ∷ [])) next (size + more)
  through-more g next more e sum =
      let x : Taken Segment ℕ = record { value = g; next = next } in
      rw (← sum) (summed-more (λ _. segment_at s) (total weight) (length s) (segment-steps s) from k seen at size m x e)

  pub through-refused : (n : ℕ) → k < n → (j p : ℕ) → segment_at s at ≡ refused j p → many (λ _. segment_at s) n [] from ≡ refused j p
  through-refused n l j p e = walk_refused (λ _. segment_at s) from k seen at m.walk n l j p e

  pub through-all : (n : ℕ) → k ≡ n → many (λ _. segment_at s) n [] from ≡ ok (record { value = seen; next = at })
  through-all n done = rw (← done) m.walk

-- a segment takes at least three bytes
pub segment-bytes : (s : List ℕ) (at : ℕ) (x : Taken Segment ℕ) → segment_at s at ≡ ok x → at + 3 ≤ x.next
unfolding total
segment-bytes s at x e =
    let t = segment-met s at x e in
    let n = t.count in
    let m = many-steps (variant_at s) (λ v. 2) (length s) two n [] (at + 1) x (omega (arith, t.counts.inside)) t.all in
    omega (arith, m.0, total-each 2 x.value, many-length (variant_at s) n [] (at + 1) x t.all, t.counts.some)
  where
    two : (seen : Segment) (at : ℕ) (x : Taken Variant ℕ) → variant_at s seen at ≡ ok x → Step (λ v. 2) (length s) at x
    two seen at x e = let r = variant-read s seen at x e in rw r.is (record { counts = omega arith; inside = r.inside })

-- a stretch of more than 32,768 bytes is refused
pub stretch-long : (s : List ℕ) → greatest_stretch < length s → stretch_of s ≡ refused 4 0
unfolding stretch_of
stretch-long s l = rw (lt-leb (length s) greatest_stretch l)

-- an accepted stretch has at most 32,768 bytes and 10,922 segments
pub stretch-short : (s : List ℕ) (t : Text) → stretch_of s ≡ ok t → length s ≤ greatest_stretch
stretch-short s t e = (stretch-whole s t e).0

pub whole-most : (s : List ℕ) (t : Text) → whole_stretch s ≡ ok t → length t ≤ most_in_stretch
whole-most s t e =
    let m = whole-met s t e in
    omega (arith, m.few, walk-length (λ _. segment_at s) 2 m.count t (length s) m.all)

pub stretch-most : (s : List ℕ) (t : Text) → stretch_of s ≡ ok t → length t ≤ most_in_stretch
stretch-most s t e = whole-most s t (stretch-whole s t e).1
