use Rattle.std.proofs.Common.{Err, rules}
use Prim.Native.Nat.{◌^◌, ◌<◌}
use native.Mathlib.Omega.{arith}
use mathlib.Core.Path.{◌≡◌, refl, sym, ap, ◌∙◌}
use mathlib.Core.List.{[]}
use lib.ListN.{length}
use Rattle.text.proofs.Blocks.{wrong-letters}
use Rattle.text.specs.Refusal.{outcome}
use Rattle.layout.proofs.Heads.{Whole, head-is}
use Rattle.layout.proofs.Walking.{walk-not, walk_none, walk-done, walk-cut, walk-misspelt, walk-again, walk-new, walk-unsuspected}
use Rattle.layout.proofs.Walking.{walk-past, walk-less}
use Rattle.stretch.proofs.Checks.{walked-refused, walked-done}
use Rattle.stretch.proofs.segment.segment_at.Goals as goal
use Rattle.stretch.proofs.segment.segment_at.Goals.{In_ok-part, then-suspects+in_ok-compared, else-suspects}

-- where the letters stand
here : (c : In_ok-part)
    → Whole c.args.stretch.now c.loop-cursor.cursor.at c.in_ok-part.part.start
    c.in_ok-part.part.next
here c = head-is _ _ _ _ (sym c.head.ensures ∙ ap outcome c.in_ok-part.was)

pub returns-in_err-cursor : goal.returns-in_err-cursor
returns-in_err-cursor c =
    let same : c.from_residual.result ≡ Err c.in_err-cursor.field-0.0 = search rules in
    rw same (sym (walked-refused _ _ _ _ (walk-not _ _ c.enter.ensures c.in_err-cursor.was)))

pub loop-cursor-init : goal.loop-cursor-init
loop-cursor-init c =
    let few : c.in_ok-cursor.cursor.count < 2 ^ 64 = omega arith in
    ([], walk_none _ _ c.enter.ensures c.in_ok-cursor.was few)

pub returns-in_err-part : goal.returns-in_err-part
returns-in_err-part c =
    let same : c.from_residual-in_err-part.result ≡ Err c.in_err-part.field-0.0 = search rules in
    rw same (sym (walked-refused _ _ _ _
    (walk-cut c.loop-cursor.invariant.1 c.loop-cursor-test.true c.head.ensures c.in_err-part.was)))

pub slice_bounds-letters-count : goal.slice_bounds-letters-count
slice_bounds-letters-count c = let w = here (goal.at.slice_bounds-letters-count c).In_ok-part in omega (arith, w.starts, w.ends)

pub slice_bounds-letters-start : goal.slice_bounds-letters-start
slice_bounds-letters-start c = let w = here (goal.at.slice_bounds-letters-start c).In_ok-part in omega (arith, w.starts, w.ends)

pub slice_bounds-letters-end : goal.slice_bounds-letters-end
slice_bounds-letters-end c = let w = here (goal.at.slice_bounds-letters-end c).In_ok-part in omega (arith, w.ends, w.inside)

pub returns-then-any_wrong_by : goal.returns-then-any_wrong_by
returns-then-any_wrong_by c =
    let spelt = c.any_wrong_by.ensures ∙ wrong-letters c.requires _ in
    sym (walked-refused _ _ _ _
    (walk-misspelt c.loop-cursor.invariant.1 c.loop-cursor-test.true (here (goal.at.returns-then-any_wrong_by c).In_ok-part) spelt c.if-any_wrong_by.true c.misspelt.ensures))

pub returns-in_err-compared : goal.returns-in_err-compared
returns-in_err-compared c =
    let same : c.from_residual-in_err-compared.result ≡ Err c.in_err-compared.field-0.0 = search rules in
    let spelt = c.any_wrong_by.ensures ∙ wrong-letters c.requires _ in
    rw same (sym (walked-refused _ _ _ _ (walk-again c.loop-cursor.invariant.1 c.loop-cursor-test.true (here (goal.at.returns-in_err-compared c).In_ok-part) spelt c.if-any_wrong_by.false c.compared.ensures
    c.in_err-compared.was)))

pub loop-cursor-smaller : goal.loop-cursor-smaller
loop-cursor-smaller c =
    walk-less c.loop-cursor.invariant.1 c.loop-cursor-test.true _ _ c.past-cursor.ensures

pub loop-cursor-preserved : goal.loop-cursor-preserved
loop-cursor-preserved c =
    let w = c.loop-cursor.invariant.1 in
    let spelt = c.any_wrong_by.ensures ∙ wrong-letters c.requires _ in
    let fits : length c.args.stretch.now < 2 ^ 64 = omega arith in
    let h = here (goal.at.loop-cursor-preserved c).In_ok-part in (
      _,
      walk-past w c.loop-cursor-test.true h spelt fits c.if-any_wrong_by.false
          (elim c.if-suspects.branch [
            | then-suspects+in_ok-compared b ↦ walk-new w c.loop-cursor-test.true h spelt b.compared.ensures b.in_ok-compared.was
            | else-suspects b ↦ walk-unsuspected w c.loop-cursor-test.true h spelt (sym c.suspects.ensures ∙ b.if-suspects.false)
          ])
          refl c.past-cursor.ensures,
    )

pub returns : goal.returns
returns c =
    let w = c.loop-cursor.invariant.1 in
    let none : c.loop-cursor.cursor.left ≡ 0 = omega arith in
    sym (walked-done _ _ _ _ _ (walk-done w none) w.sum.sum)
