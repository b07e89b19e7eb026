-- Places in an accepted stretch: its segments and variants stand where stepping over those before them leads, and there they
-- are read; so what the code hands out by stepping is what the definition hands out by counting bytes.
use Prim.Native.Nat.{ℕ, zero, suc, ◌+◌, ◌≤◌, ◌<◌}
use native.Mathlib.Omega.{arith}
use mathlib.Core.Path.{◌≡◌, sym, ap, ◌∙◌}
use mathlib.Core.List.{List, [], ◌∷◌, ◌++◌}
use lib.ListN.{length, get_or, take}
use Rattle.text.specs.Text.{Variant, Segment, Text, segment, total}
use Rattle.text.specs.Refusal.{Outcome, ok}
use Rattle.layout.specs.Bytes.{word, part}
use Rattle.layout.specs.Pieces.{letters_at, next_of}
use Rattle.layout.specs.Reading.{Taken, value_of, variant_at, segment_at}
use Rattle.layout.specs.Encoding.{encode_variant, encode_segment}
use Rattle.layout.specs.Skips.{stepped, behind_variants, behind_segment, segment_place}
use Rattle.stretch.specs.Places.{variant, start_of, handed}
use Rattle.stretch.specs.Answers.{handed_at}
use Rattle.layout.proofs.Heads.{value-length}
use Rattle.layout.proofs.Units.{variant-read}
use Rattle.layout.proofs.Rows.{Row}
use Rattle.layout.proofs.Decoding.{variant-bytes, SegmentRead, segment-read, segment-bytes, StretchRead}

-- a row whose members are stepped over
module _ {A : Type 0} (f : List A → ℕ → Outcome (Taken A ℕ)) (step : ℕ → ℕ)
    (steps : (seen : List A) (at : ℕ) (x : Taken A ℕ) → f seen at ≡ ok x → x.next ≡ step at)
  where
    row-end : (l seen : List A) (at next : ℕ) → Row f seen at l next → stepped step (length l) at ≡ next
    unfolding Row stepped
    row-end [] seen at next r = r
    row-end (a ∷ l) seen at next r =
        ap (stepped step (length l)) (sym (steps seen at (record { value = a; next = r.0 }) r.1))
        ∙ row-end l (seen ++ (a ∷ [])) r.0 next r.2

    -- member k is read after k steps
    record Member (l : List A) (at k : ℕ) (d : A) : Type 0 where
      seen : List A
      read : f seen (stepped step k at) ≡ ok (record { value = get_or l k d; next = step (stepped step k at) })

    row-member : (l seen : List A) (at next k : ℕ) (d : A) → Row f seen at l next → k < length l → Member l at k d
    unfolding Row stepped
    row-member [] seen at next k d r h = absurd (let z : ⊥ = omega arith in z)
    row-member (a ∷ l) seen at next zero d r h =
        let e : r.0 ≡ step at = steps seen at (record { value = a; next = r.0 }) r.1 in
        record { seen = seen; read = r.1 ∙ rw e }
    row-member (a ∷ l) seen at next (suc k) d r h =
        let e : r.0 ≡ step at = steps seen at (record { value = a; next = r.0 }) r.1 in
        let m = row-member l (seen ++ (a ∷ [])) r.0 next k d r.2 (omega arith) in
        record { seen = m.seen; read = rw (← e) m.read }

    -- the place after k steps, counted in bytes
    row-place :
        (e : A → List ℕ) → ((seen : List A) (at : ℕ) (x : Taken A ℕ) → f seen at ≡ ok x → x.next ≡ at + length (e x.value)) →
        (l seen : List A) (at next k : ℕ) → Row f seen at l next → k ≤ length l →
        stepped step k at ≡ at + total (λ a. length (e a)) (take k l)
    unfolding Row stepped total
    row-place e ends [] seen at next zero r h = omega arith
    row-place e ends [] seen at next (suc k) r h = absurd (let z : ⊥ = omega arith in z)
    row-place e ends (a ∷ l) seen at next zero r h = omega arith
    row-place e ends (a ∷ l) seen at next (suc k) r h =
        let x : Taken A ℕ = record { value = a; next = r.0 } in
        let p : step at ≡ r.0 = sym (steps seen at x r.1) in
        let q = row-place e ends l (seen ++ (a ∷ [])) r.0 next k r.2 (omega arith) in
        ap (stepped step k) p ∙ omega (arith, q, ends seen at x r.1)

-- the place of variant v of segment j
abbrev pub variant_place : List ℕ → ℕ → ℕ → ℕ
variant_place s j v = behind_variants s v (segment_place s j + 1)

-- a variant whose length stands at `at`
record VariantThere (s : List ℕ) (at : ℕ) (v : Variant) : Type 0 where
  letters : v ≡ value_of s at
  long : length v ≡ word s at
  inside : next_of s at ≤ length s

module _ (s : List ℕ) where
  variant_ends : (seen : Segment) (at : ℕ) (x : Taken Variant ℕ) → variant_at s seen at ≡ ok x → x.next ≡ next_of s at
  variant_ends seen at x e = ap (λ (y : Taken Variant ℕ). y.next) (variant-read s seen at x e).is

  segment-ends : (seen : Text) (at : ℕ) (x : Taken Segment ℕ) → segment_at s at ≡ ok x → x.next ≡ behind_segment s at
  segment-ends seen at x e =
      let r = segment-read s at x e in
      sym (row-end (variant_at s) (next_of s) variant_ends x.value [] (at + 1) x.next r.row)
      ∙ ap (λ (n : ℕ). behind_variants s n (at + 1)) (sym r.count)

  module _ (t : Text) (r : StretchRead s t) (j : ℕ) (h : j < length t) where
    -- segment j is read at its place
    pub segment-there : SegmentRead s (segment_place s j) (record { value = segment t j; next = behind_segment s (segment_place s j) })
    segment-there =
        segment-read s (segment_place s j) _
        (row-member (λ _. segment_at s) (behind_segment s) segment-ends t [] 2 (length s) j [] r.row h).read

    -- and variant v of it at its own
    module _ (v : ℕ) (l : v < length (segment t j)) where
      variant-there : VariantThere s (variant_place s j v) (variant t j v)
      variant-there =
          let m = row-member (variant_at s) (next_of s) variant_ends (segment t j) [] (segment_place s j + 1) _ v [] segment-there.row l in
          let p = variant-read s m.seen (variant_place s j v) _ m.read in
          let w : variant t j v ≡ value_of s (variant_place s j v) = ap (λ (y : Taken Variant ℕ). y.value) p.is in
          record { letters = w; long = ap length w ∙ value-length s (variant_place s j v) p.inside; inside = p.inside }

      pub variant-inside : next_of s (variant_place s j v) ≤ length s
      variant-inside = variant-there.inside

      letters-there : variant_place s j v + 2 ≡ start_of t j v
      unfolding start_of
      letters-there =
          let p = row-place (λ _. segment_at s) (behind_segment s) segment-ends encode_segment (λ _ at x e. segment-bytes s at x e)
          t [] 2 (length s) j r.row (omega arith) in
          let q = row-place (variant_at s) (next_of s) variant_ends encode_variant (variant-bytes s)
          (segment t j) [] (segment_place s j + 1) _ v segment-there.row (omega arith) in
          omega (arith, p, q)

      pub letters-inside : start_of t j v + length (variant t j v) ≤ length s
      letters-inside = omega (arith, letters-there, variant-there.long, variant-there.inside)

      -- the part of the stretch where a variant's letters stand
      pub part-there : part s (start_of t j v) (length (variant t j v)) ≡ letters_at s (variant_place s j v)
      part-there = rw (← letters-there, variant-there.long)

      -- what is handed out by the place is what is handed out by the text
      pub handed-there : handed_at s (segment_place s j) j v ≡ handed t j v
      handed-there = rw (letters-there, variant-there.long)
