-- A record by itself: where it stands, and the bytes of its segment.
use Rattle.std.specs.Prelude.{ℕ, List, [], ◌∷◌, length}
use Rattle.text.specs.Letter.{letter, every, first_not}
use Rattle.text.specs.Refusal.{Outcome, ok, demand, after}
use Rattle.layout.specs.Bytes.{greatest_stretch}
use Rattle.layout.specs.Encoding.{encode_segment}
use Rattle.writer.specs.Putting.{putting}
use Rattle.vcf.specs.Records.{field, position, reference, alts, is_record, placed}
use Rattle.vcf.specs.declared.measuring.Measured.{Measured}

-- the measures of a line: its segment is REF and the alleles of ALT
abbrev pub measure_of : List ℕ → Measured
measure_of l =
    record { position = position l; bases = length (reference l); bytes = length (encode_segment (reference l ∷ alts l)) }

-- the record of a line: 28 where it has no position or a base beyond the last one, 7 at the first byte of REF that is no letter, 19
-- where it is no sound record of the chromosome, then 4 and 8 of a text of its segment alone
unfoldable pub measuring : List ℕ → List ℕ → Outcome Measured
measuring name l =
    demand (placed (field l 3) (position l)) 28 0
    (demand (every letter (field l 3)) 7 (first_not letter (field l 3))
    (demand (is_record name l) 19 0
    (after (putting ((reference l ∷ alts l) ∷ []) greatest_stretch) λ _.
    (ok (measure_of l)))))
