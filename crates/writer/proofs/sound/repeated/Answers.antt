use Prim.Native.Nat.{◌+◌, ◌-◌, ◌<◌, ◌≤◌}
use native.Mathlib.Omega.{arith}
use mathlib.Core.Path.{sym, ◌∙◌}
use lib.ListN.{length}
use Rattle.text.proofs.Likes.{meant-length}
use Rattle.layout.proofs.Raised.{alike-part}
use Rattle.writer.proofs.Cuts.{passing-number, passing-inside}
use Rattle.writer.proofs.RepeatsInWrite.{compared-none, compared_same, compared-more, compared-end}
use Rattle.writer.proofs.sound.repeated.Goals as goal
use Rattle.writer.proofs.sound.repeated.Goals.{After-stated, In-loop-i}

number :
    (c : In-loop-i) →
    c.args.first + c.loop-i.i < length c.args.parts.lengths.now
number c = passing-number c.loop-i.invariant.passing c.loop-i-test.true

inside :
    (c : After-stated) →
    c.loop-i.start + c.stated.result ≤ length c.args.parts.letters.now
inside c =
    rw meant-length at (passing-inside c.loop-i.invariant.passing c.loop-i-test.true c.stated.ensures)

pub loop-i-init : goal.loop-i-init
loop-i-init c = compared-none _ c.requires

pub overflow_add-first : goal.overflow_add-first
overflow_add-first c = omega (arith, number (goal.at.overflow_add-first c).In-loop-i)

pub offset_bounds-parts-first : goal.offset_bounds-parts-first
offset_bounds-parts-first c = omega (arith, number (goal.at.offset_bounds-parts-first c).In-loop-i)

pub bounds-parts-first : goal.bounds-parts-first
bounds-parts-first c = number (goal.at.bounds-parts-first c).In-loop-i

pub overflow_add-end : goal.overflow_add-end
overflow_add-end c = omega (arith, inside (goal.at.overflow_add-end c).After-stated)

pub slice_bounds-alike_from_end-end : goal.slice_bounds-alike_from_end-end
slice_bounds-alike_from_end-end c = omega (arith, inside (goal.at.slice_bounds-alike_from_end-end c).After-stated)

pub returns-then-alike_from_end : goal.returns-then-alike_from_end
returns-then-alike_from_end c =
    let a = c.args in
    let start = c.loop-i.start in
    let equal = sym (alike-part a.variant.now a.parts.letters.now start (start + c.stated.result - start))
    ∙ sym c.alike_from_end.ensures ∙ c.if-alike_from_end.true in
    sym (compared_same c.loop-i.invariant c.loop-i-test.true c.stated.ensures equal)

pub loop-i-preserved : goal.loop-i-preserved
loop-i-preserved c =
    let a = c.args in
    let start = c.loop-i.start in
    let other = sym (alike-part a.variant.now a.parts.letters.now start (start + c.stated.result - start))
    ∙ sym c.alike_from_end.ensures ∙ c.if-alike_from_end.false in
    compared-more c.loop-i.invariant c.loop-i-test.true c.stated.ensures other

pub returns : goal.returns
returns c = sym (compared-end c.loop-i.invariant c.loop-i-test.false)
