-- `vcf::records::pieces::find` meets its contract. The loop's invariant, `Passed`: the bytes before i are others.
use Rattle.text.proofs.Letters.{Passed}
use Rattle.vcf.specs.Pieces.{other}
use Rattle.vcf.proofs.records.pieces.find.Given as goal

abbrev pub invariant-loop-i : goal.invariant-loop-i
invariant-loop-i l = Passed (other l.mark) l.s l.i
