-- Strands: a sequence as given, and as the opposite strand reads it: A with T, C with G, the order reversed.
use Rattle.std.specs.Prelude.{ℕ, ◌-◌, cond, List, map, reverse, eqb, leb, length, take}
use Rattle.text.specs.Text.{Segment, Text}
use Rattle.text.specs.Refusal.{greatest_pattern}
use Rattle.text.specs.Card.{padded}
use Rattle.text.specs.declared.strand.Strand.{Strand}
use Rattle.text.specs.declared.strand.Strand.TheVariants.{Given, Opposite}

-- the base that stands opposite: A with T, C with G; a byte that is no base is its own complement
unfoldable pub complement : ℕ → ℕ
complement c = cond (eqb c 0x41) 0x54 (cond (eqb c 0x54) 0x41 (cond (eqb c 0x43) 0x47 (cond (eqb c 0x47) 0x43 c)))

-- the opposite of a string: the reverse complement
unfoldable pub opposite : List ℕ → List ℕ
opposite P = reverse (map complement P)

-- the opposite of a segment: that of each variant
abbrev pub opposite_segment : Segment → Segment
opposite_segment g = map opposite g

-- the opposite of a text: the segments in reverse order, each variant reverse-complemented
unfoldable pub opposite_text : Text → Text
opposite_text T = reverse (map opposite_segment T)

-- where the opposite text has segment i of n: at n - 1 - i
abbrev pub facing : Text → ℕ → ℕ
facing T i = length T - 1 - i

-- the pattern as a strand reads it
abbrev pub on_strand : Strand → List ℕ → List ℕ
on_strand Given P = P
on_strand Opposite P = opposite P

-- the pattern as a strand reads it in 64 bytes, then zeros; of over 64 bytes the first 64, as they stand
unfoldable pub read_on : Strand → List ℕ → List ℕ
read_on strand P = padded (cond (leb (length P) greatest_pattern) (on_strand strand P) (take greatest_pattern P))
