use native.Mathlib.Omega.{arith}
use mathlib.Core.Path.{refl}
use Rattle.watch.proofs.Sights.{scanning-none, scanning-more, scanning-all}
use Rattle.watch.proofs.sight.scan.Goals as goal

pub loop-letter-init : goal.loop-letter-init
loop-letter-init c P y = scanning-none P _ _ _ _ (omega arith) y

pub loop-letter-preserved : goal.loop-letter-preserved
loop-letter-preserved c P y =
    scanning-more P _ _ _ _ _ _ _ y (c.loop-letter.invariant P y) c.loop-letter-test.true _ refl (omega (arith, c.type_inv.variant c.loop-letter.letter-index)) _ refl

pub returns : goal.returns
returns c P y = scanning-all P _ _ _ _ _ _ (c.loop-letter.invariant P y) c.loop-letter-test.false
