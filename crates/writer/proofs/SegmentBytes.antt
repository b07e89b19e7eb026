-- Laws of writing the bytes of a segment: its variant count, then its variants one after another.
use Prim.Native.Nat.{ℕ, ◌+◌, ◌-◌, ◌<◌, ◌≤◌}
use native.Mathlib.Omega.{arith}
use mathlib.Core.Path.{◌≡◌, sym, ap, ◌∙◌}
use mathlib.Core.List.{List, [], ◌∷◌, ◌++◌}
use lib.ListN.{length, get_or, take, drop, length-append}
use Rattle.text.specs.Text.{Segment}
use Rattle.layout.specs.Bytes.{part, over, put}
use Rattle.layout.specs.Encoding.{bytes_of, encode_variant, encode_segment}
use Rattle.layout.specs.Sizes.{after_variant, count_bytes}
use Rattle.writer.specs.Cuts.{sum_from, pieces, Within}
use Rattle.writer.proofs.Cuts.{Passing, passing-none, passing-number, passing-inside, passing-more}
use Rattle.writer.proofs.Cuts.{part_slice, length_part, pieces-rest, pieces-over, length-pieces}
use Rattle.layout.proofs.Lengths.{variant_ends}
use Rattle.layout.proofs.Overs.{put-over, count-over, segment-over, Emitted, emitted-none, emitted-room, emitted-more, emitted-end}

-- the bytes of n variants, from variant `first` on and letter `from` on
abbrev pub variant_bytes : List ℕ → List ℕ → ℕ → ℕ → ℕ → List ℕ
variant_bytes letters lengths first from n = bytes_of encode_variant (pieces letters lengths first from n)

-- k of n variants are written over d from place `to` on; the next one's letters start at `start`, and its bytes come to `next`
pub record VariantsPut (letters lengths : List ℕ) (first from n : ℕ) (d : List ℕ) (to : ℕ) (out : List ℕ) (next start k : ℕ) : Type 0 where
  pub passing : Passing (length letters) lengths first from n k start
  pub emitted : Emitted d to (variant_bytes letters lengths first from n) out next (variant_bytes letters lengths (first + k) start (n - k))

variants-none :
    {letters lengths : List ℕ} {first from n : ℕ} (d : List ℕ) (to : ℕ) → Within (length letters) lengths first from n →
    to + length (variant_bytes letters lengths first from n) ≤ length d → VariantsPut letters lengths first from n d to d to from 0
variants-none {letters} {lengths} {first} {from} {n} d to w l =
    let e : first + 0 ≡ first = omega arith in
    let f : n - 0 ≡ n = omega arith in
    record { passing = passing-none w; emitted = rw (e, f) (emitted-none d to (variant_bytes letters lengths first from n) l) }

module _
    {letters lengths : List ℕ} {first from n : ℕ} {d : List ℕ} {to : ℕ} {out : List ℕ} {next start k : ℕ}
    (v : VariantsPut letters lengths first from n d to out next start k) where
  -- the next variant, of m letters
  module _ (l : k < n) {m : ℕ} (e : m ≡ get_or lengths (first + k) 0) where
    abbrev own : List ℕ
    own = encode_variant (part letters start m)

    abbrev behind : List ℕ
    behind = variant_bytes letters lengths (first + (k + 1)) (start + m) (n - (k + 1))

    splits : variant_bytes letters lengths (first + k) start (n - k) ≡ own ++ behind
    unfolding bytes_of
    splits = rw (pieces-rest letters lengths first start n k l (passing-number v.passing l), e)

    ends : next + length own ≡ after_variant next m
    ends =
        variant_ends next (part letters start m)
        ∙ ap (after_variant next) (length_part letters start m (passing-inside v.passing l e))

    pub variants-room : after_variant next m ≤ length out
    variants-room = omega (arith, ends, emitted-room v.emitted, ap length splits, length-append own behind)

    pub variants-more :
        {after : List ℕ} {place : ℕ} → place ≡ after_variant next m →
        after ≡ put out next (encode_variant (take (start + m - start) (drop start letters))) →
        VariantsPut letters lengths first from n d to after place (start + m) (k + 1)
    variants-more {after} p w =
        let room : next + length own ≤ length out = omega (arith, ends, variants-room) in
        let written : after ≡ over out next own = w ∙ rw (part_slice letters start m) (put-over out next own room) in
        record { passing = passing-more v.passing l e; emitted = emitted-more v.emitted own behind splits written (p ∙ sym ends) }

  variants-end : n ≤ k → (start ≡ from + sum_from lengths first n) × (out ≡ over d to (variant_bytes letters lengths first from n))
  unfolding bytes_of
  variants-end l =
      let e : k ≡ n = omega (arith, v.passing.most) in
      let none = pieces-over letters lengths (first + k) start n k l in
      (v.passing.begins ∙ rw e, emitted-end v.emitted (ap (bytes_of encode_variant) none))

-- a segment is its variant count, put at place `at`, and then its variants, of which k are written
module _
    (letters : List ℕ) {lengths : List ℕ} {first from count : ℕ} (d : List ℕ) (at : ℕ)
    (w : Within (length letters) lengths first from count)
    (room : at + length (encode_segment (pieces letters lengths first from count)) ≤ length d) where
  pub segment-room : at + 1 + length (variant_bytes letters lengths first from count) ≤ length d
  unfolding encode_segment
  segment-room = omega arith

  pub segment-none :
      {n : ℕ} {mid : List ℕ} → n ≡ count → length mid ≡ length d →
      VariantsPut letters lengths first from n mid (at + 1) mid (at + 1) from 0
  segment-none {n} {mid} e s = rw e (variants-none mid (at + 1) w (rw s segment-room))

  pub segment-end :
      {n : ℕ} {mid out : List ℕ} {next start k : ℕ} → (n ≡ count) × (n < 256) → mid ≡ put d at (count_bytes n) →
      VariantsPut letters lengths first from n mid (at + 1) out next start k → n ≤ k →
      (start ≡ from + sum_from lengths first count) × (out ≡ over d at (encode_segment (pieces letters lengths first from count)))
  segment-end {n} {mid} e p v l =
      let (s, o) = variants-end v l in
      let g : Segment = pieces letters lengths first from count in
      let here : at < length d = omega (arith, segment-room) in
      let small : n ≤ 255 = omega (arith, e.1) in
      let size : length g ≡ count = length-pieces letters lengths first from count w.listed in
      let counted : mid ≡ over d at (length g ∷ []) =
      count-over d at small here p ∙ ap (λ (m : ℕ). over d at (m ∷ [])) (e.0 ∙ sym size) in (
        s ∙ ap (λ (m : ℕ). from + sum_from lengths first m) e.0,
        segment-over d at g here counted (o ∙ ap (λ (m : ℕ). over mid (at + 1) (variant_bytes letters lengths first from m)) e.0),
      )
