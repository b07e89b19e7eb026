-- `eds_notation::filling::put_segment` meets its contract.
use native.Mathlib.Omega.{arith}
use borrow.Author.Rules.{rules}
use Rattle.std.proofs.Common.{◌≡◌, Err}
use Rattle.eds_notation.proofs.Fillings.{stop-leaves, done-leaves, left_as, left-done}
use Rattle.eds_notation.proofs.Fillings.{segment-many, segment-few, segment-stop, segment-done}
use Rattle.eds_notation.proofs.filling.put_segment.Goals as goal

pub returns-then-counts-at : goal.returns-then-counts-at
returns-then-counts-at c =
    rw c.full.ensures
    (record {
      value = segment-many _ _ _ _ _ c.if-counts-at.true;
      lengths_after = stop-leaves _ _ _;
      counts_after = stop-leaves _ _ _;
    })

-- the count is a byte
pub overflow_add-counts : goal.overflow_add-counts
overflow_add-counts c = omega (arith, segment-few _ _ _ _ _ _ c.put_variant.ensures.value _ c.in_ok-next.was)

pub overflow_cast-counts : goal.overflow_cast-counts
overflow_cast-counts c = omega (arith, segment-few _ _ _ _ _ _ c.put_variant.ensures.value _ c.in_ok-next.was)

pub returns-in_err-next : goal.returns-in_err-next
returns-in_err-next c =
    let stopped : c.from_residual.result ≡ Err c.in_err-next.field-0.0 = search rules in
    let e = c.in_err-next.was in
    rw stopped
    (record {
      value = segment-stop _ _ _ _ _ _ c.put_variant.ensures.value c.if-counts-at.false _ e;
      lengths_after = left_as _ _ _ _ c.put_variant.ensures.lengths_after _ e;
      counts_after = stop-leaves _ _ _;
    })

pub returns : goal.returns
returns c =
    let e = c.in_ok-next.was in
    record {
      value = segment-done _ _ _ _ _ _ c.put_variant.ensures.value c.if-counts-at.false _ e;
      lengths_after = left-done _ _ _ _ c.put_variant.ensures.lengths_after _ _ e;
      counts_after = done-leaves _ _ _;
    }
