-- `writer::sound::segment_given` meets its contract. The loop's invariant, `VariantsAccepted`: a walk over the segment's
-- variants has accepted k of them. The measure is the number of variants left.
use Rattle.text.specs.Letter.{meant}
use Rattle.writer.proofs.GivenSegment.{VariantsAccepted}
use Rattle.writer.proofs.sound.segment_given.Given as goal

abbrev pub invariant-loop-k : goal.invariant-loop-k
invariant-loop-k l =
    VariantsAccepted (meant l.parts.letters.now) l.parts.lengths.now l.parts.counts.now l.segment l.first l.from l.count l.at l.k
