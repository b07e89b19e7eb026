use native.Mathlib.Omega.{arith}
use mathlib.Core.Path.{refl}
use Rattle.search.proofs.BitScans.{turning-start, turning-more, turning-all, scanning-wrong}
use Rattle.search.proofs.Pairs.{evens_at, odds-at}
use Rattle.search.proofs.both.words.scan_both.Goals as goal

pub loop-letter-init : goal.loop-letter-init
loop-letter-init c = (
  λ st is P y. turning-start P _ _ _ _ _ (omega arith) y _ is,
  λ st is P y. turning-start P _ _ _ _ _ (omega arith) y _ is,
)

pub loop-letter-preserved : goal.loop-letter-preserved
loop-letter-preserved c = (
  λ st is P y.
      turning-more P _ _ _ _ _ _ _ _ _ y (c.loop-letter.invariant.0 st is P y) c.loop-letter-test.true _ refl (omega (arith, c.type_inv.variant c.loop-letter.letter-index)) _ (evens_at _ _),
  λ st is P y.
      turning-more P _ _ _ _ _ _ _ _ _ y (c.loop-letter.invariant.1 st is P y) c.loop-letter-test.true _ refl (omega (arith, c.type_inv.variant c.loop-letter.letter-index)) _ (odds-at _ _),
)

pub returns : goal.returns
returns c =
    let end = c.loop-letter-test.false in
    let i = c.loop-letter.invariant in record {
      scanned_by = λ P y.
          let t = i.0 _ refl P y in
          (turning-all P _ _ _ _ _ _ _ t end, scanning-wrong P _ _ _ _ _ _ t.scanning end);
      scanned_by_2 = λ P y.
          let t = i.1 _ refl P y in
          (turning-all P _ _ _ _ _ _ _ t end, scanning-wrong P _ _ _ _ _ _ t.scanning end);
    }
