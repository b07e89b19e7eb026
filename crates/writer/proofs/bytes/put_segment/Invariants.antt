-- `writer::bytes::put_segment` meets its contract. The loop's invariant, `VariantsPut`: k variants stand after the count, and the
-- others come next. The measure is the number of variants left.
use Rattle.text.specs.Letter.{meant}
use Rattle.writer.proofs.SegmentBytes.{VariantsPut}
use Rattle.writer.proofs.bytes.put_segment.Given as goal

abbrev pub invariant-loop-k : goal.invariant-loop-k
invariant-loop-k l =
    VariantsPut (meant l.parts.letters.now) l.parts.lengths.now l.first l.from l.variants l.initial.out l.initial.next l.out l.next l.start l.k
