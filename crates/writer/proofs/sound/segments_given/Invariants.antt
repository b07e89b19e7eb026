-- `writer::sound::segments_given` meets its contract. The loop's invariant, `SegmentsAccepted`: a walk over the segments
-- has accepted that many of them. The measure is the number of segments left.
use Rattle.text.specs.Letter.{meant}
use Rattle.writer.proofs.GivenText.{SegmentsAccepted}
use Rattle.writer.proofs.sound.segments_given.Given as goal

abbrev pub invariant-loop-segment : goal.invariant-loop-segment
invariant-loop-segment l =
    SegmentsAccepted (meant l.parts.letters.now) l.parts.lengths.now l.parts.counts.now l.variant l.at l.segment
