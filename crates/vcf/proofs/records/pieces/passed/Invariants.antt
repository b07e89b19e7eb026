-- `vcf::records::pieces::passed` meets its contract. The loop's invariant, `Skipping`: no mark stands before `at`, and that many bytes are
-- left. They are the measure.
use Rattle.vcf.proofs.Marks.{Skipping}
use Rattle.vcf.proofs.records.pieces.passed.Given as goal

abbrev pub invariant-loop-left : goal.invariant-loop-left
invariant-loop-left l = Skipping l.mark l.s l.from l.at l.left

abbrev pub decreases-loop-left : goal.decreases-loop-left
decreases-loop-left l = l.left
