-- The text as it stands in the bytes, and the text that they mean: the one raised is the other, and both take as many bytes.
use Rattle.std.proofs.Common.{◌≡◌, ℕ, zero, suc, ◌<◌, ◌&&◌, ltb, List, [], ◌∷◌, map, length, get_or, sym, refl, ap, ap₂, arith, length-append}
use lib.ListN.{length-map}
use Rattle.text.specs.Letter.{meant}
use Rattle.text.specs.Text.{Variant, Segment, Text}
use Rattle.text.proofs.Likes.{meant-length}
use Rattle.layout.specs.Bytes.{word_bytes}
use Rattle.layout.specs.Pieces.{letters_at, next_of}
use Rattle.layout.specs.Encoding.{bytes_of, encode_variant, encode_segment, encode, raised_text, all}
use Rattle.layout.specs.Skips.{stepped, behind_segment}
use Rattle.layout.proofs.Lengths.{filled}
use Rattle.layout.specs.Standing.{letters_from, standing_segment, segments_from}

-- raised letters take as many bytes
pub raised-variant : (v : Variant) → length (encode_variant (meant v)) ≡ length (encode_variant v)
unfolding encode_variant word_bytes
raised-variant v = omega (arith, meant-length v)

pub raised-variants : (g : Segment) → length (bytes_of encode_variant (map meant g)) ≡ length (bytes_of encode_variant g)
unfolding bytes_of
raised-variants [] = refl
raised-variants (v ∷ g) =
    omega (
      arith,
      length-append (encode_variant (meant v)) (bytes_of encode_variant (map meant g)),
      length-append (encode_variant v) (bytes_of encode_variant g),
      raised-variant v,
      raised-variants g,
    )

pub raised-segment : (g : Segment) → length (encode_segment (map meant g)) ≡ length (encode_segment g)
unfolding encode_segment
raised-segment g = ap suc (raised-variants g)

pub raised-segments : (T : Text) → length (bytes_of encode_segment (map (map meant) T)) ≡ length (bytes_of encode_segment T)
unfolding bytes_of
raised-segments [] = refl
raised-segments (g ∷ T) =
    omega (
      arith,
      length-append (encode_segment (map meant g)) (bytes_of encode_segment (map (map meant) T)),
      length-append (encode_segment g) (bytes_of encode_segment T),
      raised-segment g,
      raised-segments T,
    )

pub raised-bytes : (T : Text) → length (encode (raised_text T)) ≡ length (encode T)
unfolding encode raised_text word_bytes
raised-bytes T = ap (λ (n : ℕ). suc (suc n)) (raised-segments T)

-- how many stand there, and which
pub letters-count : (s : List ℕ) (k at : ℕ) → length (letters_from s k at) ≡ k
unfolding letters_from
letters-count s zero at = refl
letters-count s (suc k) at = ap suc (letters-count s k (next_of s at))

pub segments-count : (s : List ℕ) (n at : ℕ) → length (segments_from s n at) ≡ n
unfolding segments_from
segments-count s zero at = refl
segments-count s (suc n) at = ap suc (segments-count s n (behind_segment s at))

pub letters-at : (s : List ℕ) (k at v : ℕ) → v < k → get_or (letters_from s k at) v [] ≡ letters_at s (stepped (next_of s) v at)
unfolding letters_from stepped
letters-at s zero at v l = absurd (let z : ⊥ = omega arith in z)
letters-at s (suc k) at zero l = refl
letters-at s (suc k) at (suc v) l = letters-at s k (next_of s at) v (omega arith)

pub segments-at : (s : List ℕ) (n at j : ℕ) → j < n → get_or (segments_from s n at) j [] ≡ standing_segment s (stepped (behind_segment s) j at)
unfolding segments_from stepped
segments-at s zero at j l = absurd (let z : ⊥ = omega arith in z)
segments-at s (suc n) at zero l = refl
segments-at s (suc n) at (suc j) l = segments-at s n (behind_segment s at) j (omega arith)

-- raised segments have variants where these have
pub filled-raised : (u : Text) → all filled u ≡ all filled (map (map meant) u)
unfolding all
filled-raised [] = refl
filled-raised (g ∷ u) = ap₂ ◌&&◌ (ap (ltb 0) (sym (length-map g meant))) (filled-raised u)
