-- `vcf::records::pieces::more_than` meets its contract. The loop's invariant, `Counted`: i pieces are passed.
use Rattle.vcf.proofs.Marks.{Counted}
use Rattle.vcf.proofs.records.pieces.more_than.Given as goal

abbrev pub invariant-loop-i : goal.invariant-loop-i
invariant-loop-i l = Counted l.mark l.s l.n l.from l._i
