-- What a check tells of a segment and of a whole stretch: each answer follows from the tests that lead there.
use Prim.Native.Nat.{ℕ}
use mathlib.Core.Path.{◌≡◌, ap, ◌∙◌}
use mathlib.Core.List.{List}
use lib.ListN.{length}
use Rattle.text.specs.Text.{Segment, Text, total, weight, size}
use Rattle.text.specs.Refusal.{ok, refused}
use Rattle.text.proofs.Outcomes.{told-met, told-refused}
use Rattle.layout.specs.Reading.{Taken, segment_at, stretch_of}
use Rattle.stretch.specs.Answers.{walked_segment, checking}
use Rattle.stretch.specs.declared.segment.Walked.{Walked}

-- what is told of a segment, and what was read where it is told
abbrev summed : Taken Segment ℕ → Walked
summed x = record { next = x.next; size = total weight x.value }

module _ (s : List ℕ) (at : ℕ) where
  pub walked-refused : (j p : ℕ) → segment_at s at ≡ refused j p → walked_segment s at ≡ refused j p
  unfolding walked_segment
  walked-refused j p e = rw e

  pub walked-done :
      (next size : ℕ) (g : Segment) → segment_at s at ≡ ok (record { value = g; next = next }) → size ≡ total weight g →
      walked_segment s at ≡ ok (record { next = next; size = size })
  unfolding walked_segment
  walked-done next size g e sum = rw (e, sum)

  pub walked-met :
      (next size : ℕ) → walked_segment s at ≡ ok (record { next = next; size = size }) →
      (g : Segment) × (segment_at s at ≡ ok (record { value = g; next = next })) × (total weight g ≡ size)
  unfolding walked_segment
  walked-met next size e =
      let (x, read, is) = told-met (segment_at s at) summed (record { next = next; size = size }) e in
      let ends : x.next ≡ next = ap (λ (y : Walked). y.next) is in (
        x.value,
        read ∙ ap (λ (n : ℕ). ok (record { value = x.value; next = n })) ends,
        ap (λ (y : Walked). y.size) is,
      )

  pub walked-not : (j p : ℕ) → walked_segment s at ≡ refused j p → segment_at s at ≡ refused j p
  unfolding walked_segment
  walked-not j p e = told-refused (segment_at s at) summed j p e

-- what a check tells
pub check-refused : (s : List ℕ) (j p : ℕ) → stretch_of s ≡ refused j p → checking s ≡ refused j p
unfolding checking
check-refused s j p e = rw e

pub check_sound :
    (s : List ℕ) (t : Text) (n sum : ℕ) → stretch_of s ≡ ok t → length t ≡ n → sum ≡ total (total weight) t →
    checking s ≡ ok (record { segments = n; size = sum })
unfolding checking size
check_sound s t n sum e count whole = rw (e, whole) (ap (λ (j : ℕ). ok (record { segments = j; size = total (total weight) t })) count)
