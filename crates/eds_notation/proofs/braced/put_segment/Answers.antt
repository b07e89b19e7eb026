use native.Mathlib.Omega.{arith}
use Rattle.eds_notation.proofs.Shows.{showing-none, showing-over, showing-last, showing-length, showing-more}
use Rattle.eds_notation.proofs.braced.put_segment.Goals as goal

pub loop-variant-init : goal.loop-variant-init
loop-variant-init c = showing-none _ _ _ _

pub shape_of-out-then-not-is_there : goal.shape_of-out-then-not-is_there
shape_of-out-then-not-is_there c =
    showing-length c.loop-variant.invariant c.put_bytes.ensures

pub returns-then-not-is_there : goal.returns-then-not-is_there
returns-then-not-is_there c =
    showing-over c.loop-variant.invariant c.put_bytes.ensures _ c.is_there.ensures
    c.if-not-is_there.true

pub loop-variant-preserved : goal.loop-variant-preserved
loop-variant-preserved c =
    showing-more c.loop-variant.invariant _ c.is_there.ensures c.if-not-is_there.false
    c.put_bytes-start.ensures _ c.letters.ensures c.put_bytes-next.ensures

pub shape_of-out : goal.shape_of-out
shape_of-out c = showing-length c.loop-variant.invariant c.put_bytes-2.ensures

pub returns : goal.returns
returns c =
    showing-last c.loop-variant.invariant c.put_bytes-2.ensures
    (λ i. omega (arith, c.type_inv.stretch i)) c.loop-variant-test.false
