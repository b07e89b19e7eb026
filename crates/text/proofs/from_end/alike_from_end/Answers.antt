use Prim.Native.Nat.{◌+◌, ◌-◌}
use native.Mathlib.Omega.{arith}
use mathlib.Core.Path.{◌≡◌, sym}
use Rattle.text.proofs.Likes.{like-lengths}
use Rattle.text.proofs.FromEnd.{from-meant, from-letter, letter-differs, from_all}
use Rattle.text.proofs.from_end.alike_from_end.Goals as goal

pub returns-then-a-b : goal.returns-then-a-b
returns-then-a-b c = sym (like-lengths _ _ c.if-a-b.true)

pub loop-i-init : goal.loop-i-init
loop-i-init c =
    from-meant c.args.a.now c.args.b.now _ c.same_from-i.ensures

pub returns-then-differ : goal.returns-then-differ
returns-then-differ c = sym (letter-differs _ _ _ c.differ.ensures c.if-differ.true)

pub loop-i-preserved : goal.loop-i-preserved
loop-i-preserved c =
    let i = c.loop-i.i in
    let far : i ≡ i - 1 + 1 = omega (arith, c.loop-i-test.true) in
    from-letter c.args.a.now c.args.b.now (i - 1) c.differ.ensures (rw far at c.loop-i.invariant) c.if-differ.false

pub returns : goal.returns
returns c =
    let none : c.loop-i.i ≡ 0 = omega (arith, c.loop-i-test.false) in
    sym (from_all _ _ (rw none at c.loop-i.invariant))
