-- `writer::bytes::put_text` meets its contract. The loop's invariant, `SegmentsPut`: that many segments stand after the
-- segment count, and the others come next. The measure is the number of segments left.
use Rattle.text.specs.Letter.{meant}
use Rattle.writer.proofs.TextBytes.{SegmentsPut}
use Rattle.writer.proofs.bytes.put_text.Given as goal

abbrev pub invariant-loop-segment : goal.invariant-loop-segment
invariant-loop-segment l =
    SegmentsPut (meant l.parts.letters.now) l.parts.lengths.now l.parts.counts.now l.initial.out l.out l.variant l.letter l.segment
