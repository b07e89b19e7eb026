-- The starred examples of document 01 hold, by computing every row of the table.
use Rattle.std.proofs.Common.{◌≡◌, true, refl}
use Rattle.text.specs.Compare.{same, prefix, suffix, inside}
use Rattle.text.specs.Bits.{bit, from_bits, any_below, any_of}
use Rattle.text.specs.Letter.{base, letter, every, first_not}
use Rattle.text.specs.Text.{total, counted, weight, size}
use Rattle.text.specs.State.{brings, sends, carries, next_bit, next, ends_at, ends, run, marks_from, marks}
use Rattle.text.specs.Card.{later, first_end, tabulate, padded, ran, rows_of, card_of, is_row, are_rows, well_formed, earliest, union, follow}
use Rattle.text.specs.Card.{onward, joined, same_pattern, join}
use Rattle.layout.specs.Bytes.{word, word_bytes}
use Rattle.layout.specs.Pieces.{fits_at, open_at, variants_at, head_at, closed_at}
use Rattle.layout.specs.Reading.{among, value_of, formed, variant_at, many, segment_at, segments_of, whole_stretch, stretch_of}
use Rattle.layout.specs.Encoding.{bytes_of, encode_variant, encode_segment, encode, all}
use Rattle.judged.specs.Examples.{table}

-- the theorem
pub examples : all (λ b. b) table ≡ true
unfolding all table same prefix suffix inside bit from_bits any_below any_of base letter every first_not total counted weight size brings
    sends carries next_bit next ends_at ends run marks_from marks later first_end tabulate padded ran rows_of card_of is_row are_rows
    well_formed earliest union follow onward joined same_pattern join word word_bytes fits_at open_at variants_at head_at closed_at among value_of
    formed variant_at many segment_at segments_of whole_stretch stretch_of bytes_of encode_variant encode_segment encode
examples = refl
