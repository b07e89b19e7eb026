-- `vcf::records::pieces::is_clear` meets its contract. The loop's invariant, `Clearing`: a mark was found among the bytes before i, or none.
use Rattle.vcf.proofs.Marks.{Clearing}
use Rattle.vcf.proofs.records.pieces.is_clear.Given as goal

abbrev pub invariant-loop-byte : goal.invariant-loop-byte
invariant-loop-byte l = Clearing l.mark l.part l.found l.byte-index
