use Prim.Native.Nat.{◌+◌, ◌-◌}
use native.Mathlib.Omega.{arith}
use mathlib.Core.Path.{◌≡◌, sym, ◌∙◌}
use Rattle.text.proofs.FromEnd.{from-none, from-eight, from_first}
use Rattle.text.proofs.from_end.same_from.Goals as goal

pub loop-i-init : goal.loop-i-init
loop-i-init c = from-none _ _ c.requires

pub eight-requires-in-loop-i : goal.eight-requires-in-loop-i
eight-requires-in-loop-i c = let q = c.loop-i.invariant in omega (arith, c.loop-i-test.true, q.even, q.inside)

pub returns-then-eight : goal.returns-then-eight
returns-then-eight c = c.loop-i.invariant

pub loop-i-preserved : goal.loop-i-preserved
loop-i-preserved c =
    let i = c.loop-i.i in
    let far : i ≡ i - 8 + 8 = omega (arith, c.loop-i-test.true) in
    let equal = sym c.eight.ensures ∙ c.if-eight.false ∙ c.eight-in-loop-i.ensures in
    from-eight _ _
    (λ j. omega (arith, c.shared_slice_known-1.given j))
    (λ j. omega (arith, c.shared_slice_known-2-1.given j))
    (i - 8) (rw far at c.loop-i.invariant) equal

pub returns-then-a-lt8 : goal.returns-then-a-lt8
returns-then-a-lt8 c = c.loop-i.invariant

pub eight-requires-3 : goal.eight-requires-3
eight-requires-3 c = let q = c.loop-i.invariant in omega (arith, c.if-a-lt8.false, q.even)

pub returns-then-eight-2 : goal.returns-then-eight-2
returns-then-eight-2 c = c.loop-i.invariant

pub returns : goal.returns
returns c =
    let equal = sym c.eight-2.ensures ∙ c.if-eight-2.false ∙ c.eight-3.ensures in
    from_first _ _
    (λ j. omega (arith, c.shared_slice_known-1.given j))
    (λ j. omega (arith, c.shared_slice_known-2-1.given j))
    _ c.loop-i.invariant c.loop-i-test.false c.if-a-lt8.false equal
