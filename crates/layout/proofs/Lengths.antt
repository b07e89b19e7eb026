-- How many bytes encodings have, by their numbers of segments, variants and letters.
use Rattle.std.proofs.Common.{◌≡◌, ℕ, ◌+◌, ◌*◌, ◌≤◌, Bool, true, ltb, [], ◌∷◌, length, refl, arith, length-append, ltb-true}
use Rattle.text.specs.Text.{Variant, Segment, Text, total}
use Rattle.text.proofs.Truth.{and_left, and_right}
use Rattle.layout.specs.Bytes.{word_bytes}
use Rattle.layout.specs.Encoding.{bytes_of, encode_variant, encode_segment, encode, all}
use Rattle.layout.specs.Sizes.{least_segment, first_letter, segment_bytes, text_bytes, after_variant}
use Rattle.layout.specs.Sizes.{letters_of, variants_in, letters_in}

pub length-variant : (v : Variant) → length (encode_variant v) ≡ first_letter + length v
unfolding encode_variant word_bytes
length-variant v = omega arith

-- a variant's bytes end at the place after it
pub variant_ends : (at : ℕ) (v : Variant) → at + length (encode_variant v) ≡ after_variant at (length v)
variant_ends at v = omega (arith, length-variant v)

pub length-variants : (g : Segment) → length (bytes_of encode_variant g) ≡ first_letter * length g + letters_of g
unfolding bytes_of total
length-variants [] = refl
length-variants (v ∷ g) =
    omega (arith, length-append (encode_variant v) (bytes_of encode_variant g), length-variant v, length-variants g)

pub length-segment : (g : Segment) → length (encode_segment g) ≡ segment_bytes (letters_of g) (length g)
unfolding encode_segment
length-segment g = omega (arith, length-variants g)

pub length-segments : (T : Text) → length (bytes_of encode_segment T) ≡ length T + first_letter * variants_in T + letters_in T
unfolding bytes_of total
length-segments [] = refl
length-segments (g ∷ T) =
    omega (arith, length-append (encode_segment g) (bytes_of encode_segment T), length-segment g, length-segments T)

pub length-text : (T : Text) → length (encode T) ≡ text_bytes (letters_in T) (variants_in T) (length T)
unfolding encode word_bytes
length-text T = omega (arith, length-segments T)

-- a segment that has variants, as each of an accepted stretch
abbrev pub filled : Segment → Bool
filled g = ltb 0 (length g)

filled-length : (g : Segment) → filled g ≡ true → least_segment ≤ length (encode_segment g)
filled-length g f = omega (arith, ltb-true 0 (length g) f, length-segment g)

pub filled-lengths : (t : Text) → all filled t ≡ true → least_segment * length t ≤ length (bytes_of encode_segment t)
unfolding bytes_of all
filled-lengths [] f = omega arith
filled-lengths (g ∷ t) f =
    let first : least_segment ≤ length (encode_segment g) = filled-length g (and_left (filled g) (all filled t) f) in
    let rest : least_segment * length t ≤ length (bytes_of encode_segment t) = filled-lengths t (and_right (filled g) (all filled t) f) in
    omega (arith, length-append (encode_segment g) (bytes_of encode_segment t))
