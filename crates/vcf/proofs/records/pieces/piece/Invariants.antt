-- `vcf::records::pieces::piece` meets its contract. The loop's invariant, `Sought`: i pieces are passed.
use Rattle.vcf.proofs.Marks.{Sought}
use Rattle.vcf.proofs.records.pieces.piece.Given as goal

abbrev pub invariant-loop-i : goal.invariant-loop-i
invariant-loop-i l = Sought l.mark l.s l.k l.from l._i
