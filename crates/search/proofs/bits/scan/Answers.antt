use native.Mathlib.Omega.{arith}
use mathlib.Core.Path.{refl}
use Rattle.search.proofs.BitScans.{turning-none, turning-more, turning-all, scanning-wrong}
use Rattle.search.proofs.bits.scan.Goals as goal

pub loop-letter-init : goal.loop-letter-init
loop-letter-init c P y = turning-none P _ _ _ _ _ (omega arith) y

pub loop-letter-preserved : goal.loop-letter-preserved
loop-letter-preserved c P y =
    turning-more P _ _ _ _ _ _ _ _ _ y (c.loop-letter.invariant P y) c.loop-letter-test.true _ refl (omega (arith, c.type_inv.variant c.loop-letter.letter-index)) _ refl

pub returns : goal.returns
returns c P y =
    let d = c.loop-letter.invariant P y in
    (turning-all P _ _ _ _ _ _ _ d c.loop-letter-test.false, scanning-wrong P _ _ _ _ _ _ d.scanning c.loop-letter-test.false)
