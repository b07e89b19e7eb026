-- `writer::sound::repeated` meets its contract. The loop's invariant, `Compared`: the variant is equal to none of the
-- first i, and is compared on from there. The measure is the number of variants left.
use Rattle.text.specs.Letter.{meant}
use Rattle.writer.proofs.RepeatsInWrite.{Compared}
use Rattle.writer.proofs.sound.repeated.Given as goal

abbrev pub invariant-loop-i : goal.invariant-loop-i
invariant-loop-i l =
    Compared (meant l.parts.letters.now) l.parts.lengths.now l.first l.from l.k (meant l.variant) l.start l.i
