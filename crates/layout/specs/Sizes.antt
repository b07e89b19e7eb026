-- How many bytes a text and its parts take, and places that follow from that.
use Rattle.std.specs.Prelude.{ℕ, ◌+◌, ◌*◌, ◌%◌, min, List, [], ◌∷◌, length}
use Rattle.text.specs.Text.{Segment, Text, total}

-- the first segment stands after the segment count
abbrev pub first_segment : ℕ
first_segment = 2

-- a segment's first variant stands after the variant count
abbrev pub first_variant : ℕ
first_variant = 1

-- a variant's first letter stands after its length
abbrev pub first_letter : ℕ
first_letter = 2

-- the least segment: a count and one empty variant
abbrev pub least_segment : ℕ
least_segment = 3

-- a segment of that many variants, with that many letters in all
abbrev pub segment_bytes : ℕ → ℕ → ℕ
segment_bytes letters variants = first_variant + first_letter * variants + letters

-- a text of that many segments, with that many variants and letters in all
abbrev pub text_bytes : ℕ → ℕ → ℕ → ℕ
text_bytes letters variants segments = first_segment + segments + first_letter * variants + letters

-- the place after a variant of that many letters that stands at `at`
abbrev pub after_variant : ℕ → ℕ → ℕ
after_variant at letters = at + first_letter + letters

-- a sum as a word of 64 bits holds it: the greatest number where it is more
abbrev pub saturated : ℕ → ℕ
saturated n = min 18446744073709551615 n

-- the letters of all variants of a segment; the variants and the letters of a text
abbrev pub letters_of : Segment → ℕ
letters_of g = total length g

abbrev pub variants_in : Text → ℕ
variants_in T = total length T

abbrev pub letters_in : Text → ℕ
letters_in T = total letters_of T

-- a variant count as a byte
unfoldable pub count_bytes : ℕ → List ℕ
count_bytes n = n % 256 ∷ []
