-- What an accepted reading says: the bytes are those of what was read, and what was read can be written.
use Rattle.std.proofs.Common.{◌≡◌, ℕ, ◌+◌, ◌*◌, ◌<◌, ◌≤◌, true, not, leb, List, [], ◌∷◌, ◌++◌, map, length, get_or, sym, refl, ap, ◌∙◌, ap₂, arith, length-append, lt-ltb, le-leb, leb-true}
use Rattle.text.specs.Letter.{capital, meant, every}
use Rattle.text.specs.Text.{Variant, Segment, Text}
use Rattle.text.specs.Refusal.{ok}
use Rattle.text.proofs.Truth.{and_both}
use Rattle.text.proofs.Meanings.{letters-capital}
use Rattle.text.proofs.Outcomes.{ok-inj, demand-met, after-met}
use Rattle.layout.specs.Bytes.{greatest_stretch, word, word_bytes}
use Rattle.layout.specs.Pieces.{letters_at, next_of, closed_at}
use Rattle.layout.specs.Reading.{Taken, value_of, among, many, variant_at, segment_at, whole_stretch, stretch_of, lone_segment, segment_of}
use Rattle.layout.specs.Encoding.{bytes_of, encode_variant, encode_segment, encode, raised_text, distinct, all, writable_segment}
use Rattle.layout.specs.Encoding.{writable}
use Rattle.layout.specs.Skips.{stepped, behind_segment}
use Rattle.layout.specs.Standing.{letters_from, standing_segment, segments_from, standing}
use Rattle.layout.proofs.Heads.{whole-letters, value-part}
use Rattle.layout.proofs.Frames.{Opens, segment-met, whole-met, stretch-whole, closed-met}
use Rattle.layout.proofs.Units.{variant-read}
use Rattle.layout.proofs.Stands.{Bytes, stands-both, stands-byte, stands_word, stands-whole}
use Rattle.layout.proofs.Lengths.{filled, filled-lengths}
use Rattle.layout.proofs.Rows.{Row, Parts, many-row, row-all}
use Rattle.layout.proofs.Standing.{raised-variant, raised-segment, raised-segments, raised-bytes, letters-count, segments-count}

module _ (s : List ℕ) where
  -- a variant that was read has the bytes from its length on, its letters in their own case
  pub variant-spans :
      (seen : Segment) (at : ℕ) (x : Taken Variant ℕ) → variant_at s seen at ≡ ok x → Parts s at x.next (encode_variant (letters_at s at))
  unfolding encode_variant word_bytes
  variant-spans seen at x e =
      let r = variant-read s seen at x e in
      let v : Variant = letters_at s at in
      let n : length v ≡ word s at = whole-letters s at r.inside in
      rw r.is
      (record {
        ends = omega arith;
        stands = λ bytes. stands-both s at (word_bytes (length v)) v (rw n (stands_word s at bytes (omega arith))) (rw n);
      })

  -- it ends as many bytes on as what it spells takes
  pub variant-bytes :
      (seen : Segment) (at : ℕ) (x : Taken Variant ℕ) → variant_at s seen at ≡ ok x → x.next ≡ at + length (encode_variant x.value)
  variant-bytes seen at x e =
      let r = variant-read s seen at x e in
      let same : x.value ≡ meant (letters_at s at) = ap (λ (y : Taken Variant ℕ). y.value) r.is ∙ value-part s at in
      rw same (omega (arith, (variant-spans seen at x e).ends, raised-variant (letters_at s at)))

  variant-letters : (seen : Segment) (at : ℕ) (x : Taken Variant ℕ) → variant_at s seen at ≡ ok x → every capital x.value ≡ true
  variant-letters seen at x e =
      let r = variant-read s seen at x e in
      rw (r.is, value-part s at) (letters-capital (letters_at s at) r.letters)

  -- a row of variants: they are what stands there raised, and have its bytes
  record Letters (l : Segment) (at next : ℕ) : Type 0 where
    means : l ≡ map meant (letters_from s (length l) at)
    spans : Parts s at next (bytes_of encode_variant (letters_from s (length l) at))

  row-letters : (l seen : Segment) (at next : ℕ) → Row (variant_at s) seen at l next → Letters l at next
  unfolding Row letters_from bytes_of
  row-letters [] seen at next r = record { means = refl; spans = record { ends = omega arith; stands = λ _. refl } }
  row-letters (v ∷ l) seen at next r =
      let x : Taken Variant ℕ = record { value = v; next = r.0 } in
      let is = (variant-read s seen at x r.1).is in
      let own : v ≡ meant (letters_at s at) = ap (λ (y : Taken Variant ℕ). y.value) is ∙ value-part s at in
      let place : r.0 ≡ next_of s at = ap (λ (y : Taken Variant ℕ). y.next) is in
      let p = variant-spans seen at x r.1 in
      let q = rw place at (row-letters l (seen ++ (v ∷ [])) r.0 next r.2) in
      let more : List ℕ = bytes_of encode_variant (letters_from s (length l) (next_of s at)) in
      record {
        means = ap₂ ◌∷◌ own q.means;
        spans = record {
          ends = rw length-append (omega (arith, p.ends, q.spans.ends, place));
          stands = λ bytes. stands-both s at (encode_variant (letters_at s at)) more (p.stands bytes)
              (rw (← p.ends, place) (q.spans.stands bytes));
        };
      }

  -- a row of variants has none twice
  row-distinct : (l seen : Segment) (at next : ℕ) → Row (variant_at s) seen at l next → distinct seen l ≡ true
  unfolding Row distinct
  row-distinct [] seen at next r = refl
  row-distinct (v ∷ l) seen at next r =
      let p = variant-read s seen at (record { value = v; next = r.0 }) r.1 in
      let w : v ≡ value_of s at = ap (λ (y : Taken Variant ℕ). y.value) p.is in
      and_both (not (among v seen)) (distinct (seen ++ (v ∷ [])) l) (rw w p.new) (row-distinct l (seen ++ (v ∷ [])) r.0 next r.2)

  -- it ends where stepping over its variants leads
  row-behind : (l seen : Segment) (at next : ℕ) → Row (variant_at s) seen at l next → next ≡ stepped (next_of s) (length l) at
  unfolding Row stepped
  row-behind [] seen at next r = sym r
  row-behind (v ∷ l) seen at next r =
      let place : r.0 ≡ next_of s at =
      ap (λ (y : Taken Variant ℕ). y.next) (variant-read s seen at (record { value = v; next = r.0 }) r.1).is in
      row-behind l (seen ++ (v ∷ [])) r.0 next r.2 ∙ ap (stepped (next_of s) (length l)) place

  -- a segment that was read: its count and the row of its variants
  pub record SegmentRead (at : ℕ) (x : Taken Segment ℕ) : Type 0 where
    pub inside : at < length s
    pub some : 0 < length x.value
    pub count : get_or s at 0 ≡ length x.value
    pub row : Row (variant_at s) [] (at + 1) x.value x.next

  pub segment-read : (at : ℕ) (x : Taken Segment ℕ) → segment_at s at ≡ ok x → SegmentRead at x
  segment-read at x e =
      let t = segment-met s at x e in
      let m = many-row (variant_at s) t.count [] (at + 1) x t.all in
      let n : length x.value ≡ t.count = ap length m.value ∙ m.count in
      record {
        inside = t.counts.inside;
        some = omega (arith, t.counts.some);
        count = sym (n ∙ t.counts.count);
        row = rw m.value m.row;
      }

  -- it is what stands there raised, and has its bytes
  module _ (at : ℕ) (x : Taken Segment ℕ) (e : segment_at s at ≡ ok x) where
    segment-letters : Letters x.value (at + 1) x.next
    segment-letters = let r = segment-read at x e in row-letters x.value [] (at + 1) x.next r.row

    pub segment-means : x.value ≡ map meant (standing_segment s at)
    segment-means = rw (segment-read at x e).count segment-letters.means

    pub segment-spans : Parts s at x.next (encode_segment (standing_segment s at))
    unfolding encode_segment
    segment-spans =
        let r = segment-read at x e in
        let p = segment-letters.spans in
        let n : length x.value ≡ get_or s at 0 = sym r.count in
        let l : Segment = letters_from s (length x.value) (at + 1) in
        rw r.count
        (record {
          ends = omega (arith, p.ends);
          stands = λ bytes. stands-both s at (length l ∷ []) (bytes_of encode_variant l)
              (rw (letters-count s (length x.value) (at + 1), n) (stands-byte s at r.inside))
              (p.stands bytes);
        })

    -- it ends as many bytes on as what it spells takes
    pub segment-bytes : x.next ≡ at + length (encode_segment x.value)
    segment-bytes = rw segment-means (omega (arith, segment-spans.ends, raised-segment (standing_segment s at)))

    pub segment-behind : x.next ≡ behind_segment s at
    segment-behind = row-behind x.value [] (at + 1) x.next (segment-read at x e).row ∙ rw (segment-read at x e).count

  -- a segment that was read can be written
  pub segment-writable : Bytes s → (at : ℕ) (x : Taken Segment ℕ) → segment_at s at ≡ ok x → writable_segment x.value ≡ true
  unfolding writable_segment
  segment-writable bytes at x e =
      let r = segment-read at x e in
      let few : length x.value ≤ 255 = omega (arith, bytes at) in
      rw (
        lt-ltb 0 (length x.value) r.some,
        le-leb (length x.value) 255 few,
        row-all (variant_at s) (every capital) variant-letters x.value [] (at + 1) x.next r.row,
      )
      (row-distinct x.value [] (at + 1) x.next r.row)

  -- a row of segments: they are what stands there raised, and have its bytes
  record Segments (l : Text) (at next : ℕ) : Type 0 where
    means : l ≡ map (map meant) (segments_from s (length l) at)
    spans : Parts s at next (bytes_of encode_segment (segments_from s (length l) at))

  row-segments : (l seen : Text) (at next : ℕ) → Row (λ _. segment_at s) seen at l next → Segments l at next
  unfolding Row segments_from bytes_of
  row-segments [] seen at next r = record { means = refl; spans = record { ends = omega arith; stands = λ _. refl } }
  row-segments (g ∷ l) seen at next r =
      let x : Taken Segment ℕ = record { value = g; next = r.0 } in
      let place : r.0 ≡ behind_segment s at = segment-behind at x r.1 in
      let p = segment-spans at x r.1 in
      let q = rw place at (row-segments l (seen ++ (g ∷ [])) r.0 next r.2) in
      let more : List ℕ = bytes_of encode_segment (segments_from s (length l) (behind_segment s at)) in
      record {
        means = ap₂ ◌∷◌ (segment-means at x r.1) q.means;
        spans = record {
          ends = rw length-append (omega (arith, p.ends, q.spans.ends, place));
          stands = λ bytes. stands-both s at (encode_segment (standing_segment s at)) more (p.stands bytes)
              (rw (← p.ends, place) (q.spans.stands bytes));
        };
      }

  -- a stretch that was read: its count and the row of its segments, up to the end
  pub record StretchRead (t : Text) : Type 0 where
    pub counted : 2 ≤ length s
    pub count : word s 0 ≡ length t
    pub row : Row (λ _. segment_at s) [] 2 t (length s)

  -- the segments were read up to the end
  pub segments-read :
      (n : ℕ) (t : Text) → Opens s n → many (λ _. segment_at s) n [] 2 ≡ ok (record { value = t; next = length s }) → StretchRead t
  segments-read n t o e =
      let m = many-row (λ _. segment_at s) n [] 2 _ e in
      record {
        counted = o.counted;
        count = sym o.count ∙ sym m.count ∙ ap length (sym m.value);
        row = rw m.value m.row;
      }

  pub whole-read : (t : Text) → whole_stretch s ≡ ok t → StretchRead t
  whole-read t e = let m = whole-met s t e in segments-read m.count t m.opens m.all

  pub stretch-read : (t : Text) → stretch_of s ≡ ok t → StretchRead t
  stretch-read t e = whole-read t (stretch-whole s t e).1

  module _ (t : Text) (r : StretchRead t) where
    -- each segment has variants
    pub stretch-filled : all filled t ≡ true
    stretch-filled =
        row-all (λ _. segment_at s) filled (λ _ at x d. lt-ltb 0 (length x.value) (segment-read at x d).some) t [] 2 (length s) r.row

    -- its segments are what stands there raised, and have its bytes
    stretch-letters : Segments t 2 (length s)
    stretch-letters = row-segments t [] 2 (length s) r.row

    -- so it takes 3 bytes at least
    pub stretch-room : 2 + 3 * length t ≤ length s
    stretch-room = omega (
      arith,
      stretch-letters.spans.ends,
      ap (λ (u : Text). length (bytes_of encode_segment u)) stretch-letters.means,
      raised-segments (segments_from s (length t) 2),
      filled-lengths t stretch-filled,
    )

  -- the bytes are those of the text as it stands
  pub stretch-bytes : Bytes s → (t : Text) → stretch_of s ≡ ok t → encode (standing s) ≡ s
  unfolding encode word_bytes standing
  stretch-bytes bytes t e =
      let r = stretch-read t e in
      let p = (stretch-letters t r).spans in
      let T : Text = segments_from s (length t) 2 in
      rw r.count
      (stands-whole s (encode T) (omega (arith, p.ends))
      (stands-both s 0 (word_bytes (length T)) (bytes_of encode_segment T)
      (rw (segments-count s (length t) 2, ← r.count) (stands_word s 0 bytes r.counted))
      (p.stands bytes)))

  -- and this raised is the text that they mean
  pub stretch-means : (t : Text) → stretch_of s ≡ ok t → raised_text (standing s) ≡ t
  unfolding raised_text standing
  stretch-means t e = let r = stretch-read t e in rw r.count (sym (stretch-letters t r).means)

  -- and the text can be written
  pub stretch-writable : Bytes s → (t : Text) → stretch_of s ≡ ok t → writable t ≡ true
  unfolding writable
  stretch-writable bytes t e =
      let r = stretch-read t e in
      let same : length (encode t) ≡ length s =
      ap (λ (u : Text). length (encode u)) (sym (stretch-means t e)) ∙ raised-bytes (standing s) ∙ ap length (stretch-bytes bytes t e) in
      let short : length (encode t) ≤ greatest_stretch = rw same (stretch-whole s t e).0 in
      and_both (all writable_segment t) (leb (length (encode t)) greatest_stretch)
      (row-all (λ _. segment_at s) writable_segment (λ _. segment-writable bytes) t [] 2 (length s) r.row)
      (le-leb (length (encode t)) greatest_stretch short)

  -- a lone segment is a segment at place 0, up to the end
  pub lone-read :
      (g : Segment) → segment_of s ≡ ok g →
      (length s ≤ greatest_stretch) × (segment_at s 0 ≡ ok (record { value = g; next = length s }))
  unfolding segment_of lone_segment
  lone-read g e =
      let (a, b) = demand-met (leb (length s) greatest_stretch) 4 0 _ g e in
      let (x, read, f) = after-met (segment_at s 0) _ g b in
      let (_, c, h) = after-met (closed_at s x.next 1) (λ _. ok x.value) g f in
      let end = (closed-met s x.next 1 c).0 in
      (leb-true (length s) greatest_stretch a, read ∙ (λ i. ok (record { value = ok-inj h i; next = end i })))

  pub lone-bytes : Bytes s → (g : Segment) → segment_of s ≡ ok g → encode_segment (standing_segment s 0) ≡ s
  lone-bytes bytes g e =
      let p = segment-spans 0 (record { value = g; next = length s }) (lone-read g e).1 in
      stands-whole s (encode_segment (standing_segment s 0)) (omega (arith, p.ends)) (p.stands bytes)

  pub lone-means : (g : Segment) → segment_of s ≡ ok g → map meant (standing_segment s 0) ≡ g
  lone-means g e = sym (segment-means 0 (record { value = g; next = length s }) (lone-read g e).1)

  pub lone-writable : Bytes s → (g : Segment) → segment_of s ≡ ok g → writable_segment g ≡ true
  lone-writable bytes g e = segment-writable bytes 0 (record { value = g; next = length s }) (lone-read g e).1
