-- Laws of the second pass: pieces of the text are put one after another.
use Prim.Native.Nat.{ℕ, suc, ◌+◌, ◌-◌, ◌<◌, ◌≤◌}
use native.Mathlib.Omega.{arith}
use mathlib.Core.Path.{◌≡◌, refl, sym, ap, ◌∙◌}
use mathlib.Core.Logic.{by_cases}
use native.Mathlib.Decide.{dec_lt}
use mathlib.Core.Bool.{true, false}
use mathlib.Core.List.{List, [], ◌∷◌, ◌++◌, append-nil}
use lib.ListN.{length, drop, length-append, length-take, length-drop}
use borrow.Author.Tests.{le-ltb, lt-ltb}
use Rattle.text.specs.Text.{Variant}
use Rattle.text.specs.Letter.{meant}
use Rattle.text.proofs.Likes.{meant-length}
use Rattle.layout.specs.Bytes.{over, put, part}
use Rattle.layout.proofs.Raised.{part-meant}
use Rattle.layout.proofs.Lengths.{length-variant}
use Rattle.layout.specs.Encoding.{bytes_of, encode_variant, encode_segment}
use Rattle.layout.specs.Sizes.{segment_bytes, after_variant, count_bytes}
use Rattle.layout.proofs.Overs.{Emitted, emitted-none, emitted-length, emitted-room, emitted-more, emitted-end}
use Rattle.layout.proofs.Overs.{over_none, length_over, over-over, put-over, count-over}
use Rattle.vcf.specs.Pieces.{pieces, end_of, Ends}
use Rattle.vcf.specs.Records.{none, alternates}
use Rattle.vcf.specs.Emission.{gap_of}
use Rattle.vcf.proofs.Marks.{cut-next, cut-last}
use Rattle.vcf.proofs.Meant.{comma-ends, comma-count, none-meant}

-- a piece is put whole: where the next one begins
pub emitted-place :
    {d : List ℕ} {from : ℕ} {all out : List ℕ} {at : ℕ} {rest : List ℕ} → Emitted d from all out at rest → rest ≡ [] → at
    ≡ from + length all
emitted-place {all = all} e n =
    let s : all ≡ e.done = e.split ∙ rw n (append-nil e.done) in
    omega (arith, e.place, ap length s)

-- bases between records
module _ (v : List ℕ) (d : List ℕ) (at : ℕ) where
  abbrev bytes : List ℕ
  bytes = bytes_of encode_segment (gap_of (meant v))

  pub gap-nothing : length v ≡ 0 → (at ≡ at + length bytes) × (d ≡ over d at bytes)
  unfolding gap_of bytes_of
  gap-nothing e = rw (meant-length v, le-ltb 0 (length v) (omega arith)) (omega arith, sym (over_none d at))

  module _ (some : length v ≡ 0 → ⊥) where
    gap_is : bytes ≡ (1 ∷ []) ++ encode_variant (meant v)
    unfolding gap_of bytes_of encode_segment
    gap_is =
        let own : List ℕ = encode_variant (meant v) in
        rw (meant-length v, lt-ltb 0 (length v) (omega (arith, some)))
        (ap (λ (x : List ℕ). 1 ∷ x) (append-nil (own ++ []) ∙ append-nil own))

    pub gap-size : length bytes ≡ segment_bytes (length v) 1
    gap-size = ap length gap_is ∙ omega (arith, length-variant (meant v), meant-length v)

    pub gap-put :
        at + length bytes ≤ length d → (y x : List ℕ) → y ≡ put d at (count_bytes 1) → x ≡ put y (at + 1) (encode_variant (meant v)) →
        x ≡ over d at bytes
    gap-put l y x c e =
        let one : List ℕ = 1 ∷ [] in
        let own : List ℕ = encode_variant (meant v) in
        let here : at < length d = omega (arith, gap-size) in
        let rest : at + length one ≤ length d = omega (arith, gap-size) in
        let counted : y ≡ over d at one = count-over d at (omega arith) here c in
        let kept : length y ≡ length d = ap length counted ∙ length_over d at one rest in
        let fits : at + 1 + length own ≤ length y = omega (arith, gap-size, length-variant (meant v), meant-length v) in
        e ∙ put-over y (at + 1) own fits ∙ rw (counted, gap_is) (over-over d at one rest own)

-- the alleles of ALT, as they are meant
pub record Alleles (d : List ℕ) (at : ℕ) (a out : List ℕ) (next from : ℕ) : Type 0 where
  pub inside : from ≤ length a
  pub emitted :
      Emitted d at (bytes_of encode_variant (pieces 0x2C (meant a))) out next (bytes_of encode_variant (pieces 0x2C (drop from (meant a))))

pub alleles-none :
    (d : List ℕ) (at : ℕ) (a : List ℕ) → at + length (bytes_of encode_variant (pieces 0x2C (meant a))) ≤ length d → Alleles d at a d at 0
alleles-none d at a l =
    record { inside = omega arith; emitted = emitted-none d at (bytes_of encode_variant (pieces 0x2C (meant a))) l }

module _ {d : List ℕ} {at : ℕ} {a out : List ℕ} {next from end : ℕ} (h : Alleles d at a out next from) (e : Ends 0x2C a from end) where
  ends : Ends 0x2C (meant a) from end
  ends = comma-ends e

  abbrev here : Variant
  here = part (meant a) from (end - from)

  here-size : length here ≡ end - from
  here-size = simp (length-take, length-drop) (omega (arith, meant-length a))

  abbrev more : List (List ℕ) → List ℕ
  more ps = bytes_of encode_variant ps

  alleles-next :
      (end ≡ length a → ⊥) → more (pieces 0x2C (drop from (meant a))) ≡ encode_variant here ++ more (pieces 0x2C (drop (end + 1) (meant a)))
  unfolding bytes_of
  alleles-next n =
      let m : end_of 0x2C (meant a) from < length (meant a) = omega (arith, n, ends, meant-length a) in
      rw (cut-next 0x2C (meant a) from ([] ∷ []) m, ← ends.is)

  alleles-last : end ≡ length a → more (pieces 0x2C (drop from (meant a))) ≡ encode_variant here ++ []
  unfolding bytes_of
  alleles-last n =
      let m : end_of 0x2C (meant a) from ≡ length (meant a) = omega (arith, ends, meant-length a) in
      let inside : from ≤ length (meant a) = omega (arith, ends) in
      rw (cut-last 0x2C (meant a) from inside m, ← ends.is)

  alleles-size : length (encode_variant here) ≤ length (more (pieces 0x2C (drop from (meant a))))
  alleles-size =
      by_cases (dec_lt end (length a))
      (λ (l : end < length a).
      let n : (end ≡ length a → ⊥) = λ (z : end ≡ length a). omega arith in
      omega (arith, ap length (alleles-next n), length-append (encode_variant here) (more (pieces 0x2C (drop (end + 1) (meant a))))))
      (λ (l : ¬ (end < length a)).
      let n : end ≡ length a = omega arith in
      omega (arith, ap length (alleles-last n), length-append (encode_variant here) []))

  pub alleles-room : after_variant next (end - from) ≤ length out
  alleles-room = omega (arith, emitted-room h.emitted, alleles-size, length-variant here, here-size)

  pub alleles-kept : length out ≡ length d
  alleles-kept = emitted-length h.emitted

  module _ {after : List ℕ} (w : after ≡ put out next (encode_variant (meant (part a from (end - from))))) where
    written : after ≡ over out next (encode_variant here)
    written =
        let fits : next + length (encode_variant here) ≤ length out = omega (arith, alleles-room, length-variant here, here-size) in
        w ∙ rw (part-meant a from (end - from)) (put-over out next (encode_variant here) fits)

    module _ {then : ℕ} (p : then ≡ after_variant next (end - from)) where
      step : then ≡ next + length (encode_variant here)
      step = p ∙ omega (arith, length-variant here, here-size)

      pub alleles-more : (end ≡ length a → ⊥) → Alleles d at a after then (end + 1)
      alleles-more n =
          let rest : List ℕ = more (pieces 0x2C (drop (end + 1) (meant a))) in
          record { inside = omega (arith, n); emitted = emitted-more h.emitted (encode_variant here) rest (alleles-next n) written step }

      pub alleles-end :
          end ≡ length a → (then ≡ at + length (more (pieces 0x2C (meant a)))) × (after ≡ over d at (more (pieces 0x2C (meant a))))
      alleles-end n =
          let e = emitted-more h.emitted (encode_variant here) [] (alleles-last n) written step in
          (emitted-place e refl, emitted-end e refl)

-- a record's segment: its REF and the alleles of its ALT, as they are meant
abbrev pub segment_of : List ℕ → List ℕ → List ℕ
segment_of ref a = encode_segment (meant ref ∷ alternates (meant a))

-- the bytes of the alleles
abbrev pub alleles_of : List ℕ → List ℕ
alleles_of a = bytes_of encode_variant (alternates (meant a))

module _ (ref a : List ℕ) where
  own : List ℕ
  own = encode_variant (meant ref)

  own-size : length own ≡ 2 + length ref
  unfolding own
  own-size = omega (arith, length-variant (meant ref), meant-length ref)

  segment-is : segment_of ref a ≡ (suc (length (alternates (meant a))) ∷ []) ++ (own ++ alleles_of a)
  unfolding encode_segment bytes_of own
  segment-is = refl

  pub segment-size : length (segment_of ref a) ≡ segment_bytes (length ref) 1 + length (alleles_of a)
  segment-size = ap length segment-is ∙ omega (arith, length-append own (alleles_of a), own-size)

  -- put piece by piece
  module _ (d : List ℕ) (at : ℕ) (room : at + length (segment_of ref a) ≤ length d) (k : ℕ) (count : k ≡ suc (length (alternates (meant a))))
      (few : k ≤ 255) (y : List ℕ) (head : y ≡ put d at (count_bytes k)) (x : List ℕ)
      (first : x ≡ put y (at + 1) (encode_variant (meant ref))) where
    begun : x ≡ over d at ((k ∷ []) ++ own)
    unfolding own
    begun =
        let one : List ℕ = k ∷ [] in
        let here : at < length d = omega (arith, segment-size) in
        let rest : at + length one ≤ length d = omega (arith, segment-size) in
        let counted : y ≡ over d at one = count-over d at few here head in
        let kept : length y ≡ length d = ap length counted ∙ length_over d at one rest in
        let fits : at + 1 + length own ≤ length y = omega (arith, segment-size, own-size) in
        first ∙ put-over y (at + 1) own fits ∙ rw counted (over-over d at one rest own)

    pub segment-put :
        (z : List ℕ) → z ≡ over x (after_variant (at + 1) (length ref)) (alleles_of a) → z ≡ over d at (segment_of ref a)
    segment-put z e =
        let front : List ℕ = (k ∷ []) ++ own in
        let place : after_variant (at + 1) (length ref) ≡ at + length front = omega (arith, own-size) in
        let s : at + length front ≤ length d = omega (arith, segment-size, own-size) in
        e ∙ rw (begun, place, segment-is, ← count) (over-over d at front s (alleles_of a))

    pub segment-put-none : none a ≡ true → x ≡ over d at (segment_of ref a)
    unfolding alternates bytes_of
    segment-put-none n = segment-put x (rw (none-meant a, n) (sym (over_none x (after_variant (at + 1) (length ref)))))

pub some-alternates : (a : List ℕ) → none a ≡ false → alternates (meant a) ≡ pieces 0x2C (meant a)
unfolding alternates
some-alternates a e = rw (none-meant a, e)

no-alternates : (a : List ℕ) → none a ≡ true → alternates (meant a) ≡ []
unfolding alternates
no-alternates a e = rw (none-meant a, e)

pub none-size : (ref a : List ℕ) → none a ≡ true → length (segment_of ref a) ≡ segment_bytes (length ref) 1
unfolding bytes_of
none-size ref a e =
    let z : length (alleles_of a) ≡ 0 = rw (no-alternates a e) in
    omega (arith, segment-size ref a)

pub one_more : (a : List ℕ) → none a ≡ true → 1 ≡ suc (length (alternates (meant a)))
one_more a e = rw (no-alternates a e)

pub few-pieces : (a : List ℕ) → none a ≡ false → length (alternates (meant a)) ≤ 254 → length (pieces 0x2C a) ≤ 254
few-pieces a e l = rw (some-alternates a e, comma-count a) at l

pub counted-all :
    (a : List ℕ) → none a ≡ false → (n : ℕ) → n ≡ length (pieces 0x2C a) → 1 + n ≡ suc (length (alternates (meant a)))
counted-all a e n f = rw (some-alternates a e, comma-count a, ← f) (omega arith)

pub alleles-bytes : (a : List ℕ) → none a ≡ false → bytes_of encode_variant (pieces 0x2C (meant a)) ≡ alleles_of a
alleles-bytes a e = rw (some-alternates a e)
