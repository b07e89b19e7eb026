-- `vcf::records::pieces::end_of` meets its contract.
use native.Mathlib.Omega.{arith}
use Rattle.vcf.proofs.Marks.{ends_is, ends-behind, ends-inside}
use Rattle.vcf.proofs.records.pieces.end_of.Goals as goal

pub returns-then-s-from : goal.returns-then-s-from
returns-then-s-from c = ends-behind _ _ _ c.if-s-from.true

pub overflow_add-result : goal.overflow_add-result
overflow_add-result c =
    omega (
      arith,
      ends-inside (ends_is c.args.mark c.args.s.now c.args.from c.find-skipped.result c.if-s-from.false c.find-skipped.ensures)
          c.if-s-from.false,
    )

pub returns : goal.returns
returns c =
    ends_is _ _ c.args.from _ c.if-s-from.false c.find-skipped.ensures
