-- The bytes of a text.
use Rattle.std.specs.Prelude.{ℕ, Bool, true, not, ◌&&◌, List, [], ◌∷◌, ◌++◌, map, length, nat_le, nat_lt}
use Rattle.text.specs.Letter.{capital, meant, every}
use Rattle.text.specs.Text.{Variant, Segment, Text}
use Rattle.layout.specs.Bytes.{greatest_stretch, word_bytes}
use Rattle.layout.specs.Reading.{among}

-- the bytes of the members of a list, one after another
unfoldable pub bytes_of : {A : Type 0} → (A → List ℕ) → List A → List ℕ
bytes_of f [] = []
bytes_of f (a ∷ l) = f a ++ bytes_of f l

-- a variant: its length, then its letters
unfoldable pub encode_variant : Variant → List ℕ
encode_variant v = word_bytes (length v) ++ v

-- a segment: its variant count, then its variants
unfoldable pub encode_segment : Segment → List ℕ
encode_segment g = length g ∷ bytes_of encode_variant g

-- a stretch: its segment count, then its segments
unfoldable pub encode : Text → List ℕ
encode T = word_bytes (length T) ++ bytes_of encode_segment T

-- a text with its letters raised to upper case
unfoldable pub raised_text : Text → Text
raised_text T = map (map meant) T

-- no variant twice
unfoldable pub distinct : Segment → Segment → Bool
distinct seen [] = true
distinct seen (v ∷ g) = not (among v seen) && distinct (seen ++ (v ∷ [])) g

-- every member passes the test
unfoldable pub all : {A : Type 0} → (A → Bool) → List A → Bool
all f [] = true
all f (a ∷ l) = f a && all f l

-- a segment that can be written: 1 to 255 variants of letters in upper case, none twice
unfoldable pub writable_segment : Segment → Bool
writable_segment g = nat_lt 0 (length g) && nat_le (length g) 255 && all (every capital) g && distinct [] g

-- a text that can be written: such segments, in at most 32,768 bytes
unfoldable pub writable : Text → Bool
writable T = all writable_segment T && nat_le (length (encode T)) greatest_stretch
