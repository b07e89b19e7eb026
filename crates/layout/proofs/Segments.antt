-- A walk over the variants of a segment: the unit answers what reading a variant after those seen answers, and what the walk has
-- read is what `segment_at` reads.
use Rattle.std.proofs.Common.{◌≡◌, ℕ, zero, suc, ◌+◌, ◌<◌, ◌≤◌, List, [], ◌∷◌, ◌++◌, length, sym, ap, ◌∙◌, append_assoc, append-nil, arith}
use Rattle.text.specs.Text.{Variant, Segment, weight}
use Rattle.text.specs.Refusal.{ok, refused}
use Rattle.text.proofs.Sizes.{counted-le}
use Rattle.text.proofs.Outcomes.{ok-inj, after-met}
use Rattle.layout.specs.Bytes.{word}
use Rattle.layout.specs.Pieces.{next_of}
use Rattle.layout.specs.Reading.{Taken, value_of, variant_at, values_from, many}
use Rattle.layout.specs.Skips.{stepped, behind_variants, UpTo}
use Rattle.layout.proofs.Heads.{value-length}
use Rattle.layout.proofs.Units.{variant-read}
use Rattle.layout.proofs.Walks.{Step, walk_refused, Summed, summed-none, summed-more}

-- what a walk has read are the values from its start on
many-values :
    (s : List ℕ) (k : ℕ) (seen : Segment) (at : ℕ) (x : Taken Segment ℕ) → many (variant_at s) k seen at ≡ ok x →
    x.value ≡ seen ++ values_from s k at
unfolding many values_from
many-values s zero seen at x e = ap (λ (y : Taken Segment ℕ). y.value) (sym (ok-inj e)) ∙ sym (append-nil seen)
many-values s (suc k) seen at x e =
    let t = after-met (variant_at s seen at) (λ y. many (variant_at s) k (seen ++ (y.value ∷ [])) y.next) x e in
    let r = variant-read s seen at t.0 t.1 in
    many-values s k (seen ++ (value_of s at ∷ [])) (next_of s at) x (rw r.is at t.2)
    ∙ append_assoc seen (value_of s at ∷ []) (values_from s k (next_of s at))

-- variants that were read are stepped over
many-behind :
    (s : List ℕ) (k : ℕ) (seen : Segment) (at : ℕ) (x : Taken Segment ℕ) → many (variant_at s) k seen at ≡ ok x →
    behind_variants s k at ≡ x.next
unfolding many stepped
many-behind s zero seen at x e = ap (λ (y : Taken Segment ℕ). y.next) (ok-inj e)
many-behind s (suc k) seen at x e =
    let t = after-met (variant_at s seen at) (λ y. many (variant_at s) k (seen ++ (y.value ∷ [])) y.next) x e in
    let r = variant-read s seen at t.0 t.1 in
    many-behind s k (seen ++ (value_of s at ∷ [])) (next_of s at) x (rw r.is at t.2)

-- a variant counts no more than its bytes
pub variant-steps : (s : List ℕ) (seen : Segment) (at : ℕ) (x : Taken Variant ℕ) → variant_at s seen at ≡ ok x → Step weight (length s) at x
unfolding weight
variant-steps s seen at x e =
    let r = variant-read s seen at x e in
    let long : length (value_of s at) ≡ word s at = value-length s at r.inside in
    rw r.is (record { counts = omega (arith, counted-le (length (value_of s at))); inside = r.inside })

-- the variants of a segment, walked and summed up
abbrev pub InSegment : List ℕ → ℕ → ℕ → Segment → ℕ → ℕ → Type 0
InSegment s first k seen at size = Summed (variant_at s) weight (length s) (variant-steps s) first k seen at size

pub in-none : (s : List ℕ) (first : ℕ) → first ≤ length s → InSegment s first 0 [] first 0
in-none s first l = summed-none (variant_at s) weight (length s) (variant-steps s) first l

module _ (s : List ℕ) (first k : ℕ) (seen : Segment) (at size : ℕ) (m : InSegment s first k seen at size) where
  -- those seen are the values from `first` on, and they end at `at`
  pub in-values : seen ≡ values_from s k first
  in-values = many-values s k [] first (record { value = seen; next = at }) m.walk

  pub in_whole : UpTo s first k at
  in_whole = record { ends = many-behind s k [] first (record { value = seen; next = at }) m.walk; inside = m.inside }

  -- the next variant, read after them
  pub in-next : (x : Taken Variant ℕ) (more : ℕ) → variant_at s (values_from s k first) at ≡ ok x → more ≡ weight x.value
      → InSegment s first (k + 1) (seen ++ (x.value ∷ [])) x.next (size + more)
  in-next x more e count =
      rw count (summed-more (variant_at s) weight (length s) (variant-steps s) first k seen at size m x (rw in-values e))

  pub in-not :
      (n : ℕ) → k < n → (j p : ℕ) → variant_at s (values_from s k first) at ≡ refused j p → many (variant_at s) n [] first ≡ refused j p
  in-not n l j p e = walk_refused (variant_at s) first k seen at m.walk n l j p (rw in-values e)

  pub in_all : (n : ℕ) → k ≡ n → many (variant_at s) n [] first ≡ ok (record { value = seen; next = at })
  in_all n done = rw (← done) m.walk
