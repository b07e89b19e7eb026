-- `vcf::records::position::position` meets its contract. The loop's invariant, `Digits`: the first i bytes are digits and write n.
use Rattle.vcf.proofs.Digits.{Digits}
use Rattle.vcf.proofs.records.position.position.Given as goal

abbrev pub invariant-loop-byte : goal.invariant-loop-byte
invariant-loop-byte l = Digits l.field l.n l.byte-index
