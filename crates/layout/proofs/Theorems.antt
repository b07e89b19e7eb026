-- What is proved about the bytes of a stretch and of a lone segment, by name. The contracts in src/ say what each call answers by the
-- definitions of specs/; here stands what these definitions come to together.
use Rattle.std.proofs.Common.{◌≡◌, ℕ, ◌+◌, ◌≤◌, true, List, map, length}
use Rattle.text.specs.Letter.{meant}
use Rattle.text.specs.Text.{Variant, Segment, Text}
use Rattle.text.specs.Refusal.{ok, refused}
use Rattle.layout.specs.Bytes.{greatest_stretch}
use Rattle.layout.specs.Reading.{stretch_of, segment_of}
use Rattle.layout.specs.Encoding.{encode_variant, encode_segment, encode, raised_text, writable_segment, writable}
use Rattle.layout.specs.Sizes.{segment_bytes, text_bytes, after_variant, letters_of, variants_in, letters_in}
use Rattle.layout.specs.Standing.{standing_segment, standing}
use Rattle.layout.proofs.Stands.{Bytes}
use Rattle.layout.proofs.Decoding.{stretch-bytes, stretch-means, stretch-writable, lone-bytes, lone-means, lone-writable}
use Rattle.layout.proofs.Encoding.{stretch-of, segment-of}
use Rattle.layout.proofs.Lengths.{variant_ends, length-segment, length-text}
use Rattle.layout.proofs.Refusals.{Low, stretch-low, segment-low, stretch-never-16}

-- A stretch is accepted exactly when it is the bytes of a text that, its letters raised to upper case, can be written; and it means that
-- raised text.
module _ (s : List ℕ) (bytes : Bytes s) (t : Text) (e : stretch_of s ≡ ok t) where
  pub accepted-bytes : encode (standing s) ≡ s
  accepted-bytes = stretch-bytes s bytes t e

  pub accepted-means : raised_text (standing s) ≡ t
  accepted-means = stretch-means s t e

  pub accepted-writable : writable t ≡ true
  accepted-writable = stretch-writable s bytes t e

pub writable-accepted : (t : Text) → writable t ≡ true → stretch_of (encode t) ≡ ok t
writable-accepted = stretch-of

-- So is a lone segment.
module _ (s : List ℕ) (bytes : Bytes s) (g : Segment) (e : segment_of s ≡ ok g) where
  pub accepted-lone-bytes : encode_segment (standing_segment s 0) ≡ s
  accepted-lone-bytes = lone-bytes s bytes g e

  pub accepted-lone-means : map meant (standing_segment s 0) ≡ g
  accepted-lone-means = lone-means s g e

  pub accepted-lone-writable : writable_segment g ≡ true
  accepted-lone-writable = lone-writable s bytes g e

pub writable-lone-accepted :
    (g : Segment) → writable_segment g ≡ true → length (encode_segment g) ≤ greatest_stretch → segment_of (encode_segment g) ≡ ok g
writable-lone-accepted = segment-of

-- A refusal of a stretch or a lone segment has a number from 4 to 9 and a place up to 32,768. Refusal 16 cannot arise.
pub refused-low : (s : List ℕ) (n p : ℕ) → stretch_of s ≡ refused n p → Low n p
refused-low = stretch-low

pub refused-lone-low : (s : List ℕ) (n p : ℕ) → segment_of s ≡ refused n p → Low n p
refused-lone-low = segment-low

pub never-16 : (s : List ℕ) (p : ℕ) → stretch_of s ≡ refused 16 p → ⊥
never-16 = stretch-never-16

-- The sizes that are computed from numbers are those of the bytes.
pub text-bytes : (T : Text) → length (encode T) ≡ text_bytes (letters_in T) (variants_in T) (length T)
text-bytes = length-text

pub segment-bytes : (g : Segment) → length (encode_segment g) ≡ segment_bytes (letters_of g) (length g)
segment-bytes = length-segment

pub variant-bytes : (at : ℕ) (v : Variant) → at + length (encode_variant v) ≡ after_variant at (length v)
variant-bytes = variant_ends
