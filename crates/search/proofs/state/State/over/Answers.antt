use Prim.Native.Nat.{ℕ, ◌-◌, ◌*◌, ◌%◌, ◌^◌, ◌<◌}
use native.Mathlib.Omega.{arith}
use Rattle.std.proofs.Common.{◌≡◌, Err, refl, sym, ap, ◌∙◌, rules}
use lib.ListN.{length}
use mathlib.Core.Bool.{false}
use Rattle.layout.specs.Prints.{repeats_at}
use Rattle.text.specs.Refusal.{outcome}
use Rattle.layout.proofs.Heads.{head-is}
use Rattle.layout.proofs.Walking.{walk-not, walk_none, walk-cut, walk-misspelt, walk-again}
use Rattle.layout.proofs.Walking.{walk-new, walk-unsuspected, walk-past, walk-less}
use Rattle.search.proofs.Passes.{segment-passed-not, segment-passed}
use Rattle.search.proofs.Words.{swept, sweeping-none, sweeping-more, sweeping-taken}
use Rattle.search.proofs.state.State.over.Goals as goal
use Rattle.search.proofs.state.State.over.Goals.{then-suspects+in_ok-compared, else-suspects}

pub returns-in_err-cursor : goal.returns-in_err-cursor
returns-in_err-cursor g c =
    let same : c.from_residual.result ≡ Err c.in_err-cursor.field-0.0 = search rules in
    rw same (sym (segment-passed-not _ _ _ _ _ _ (walk-not _ _ c.enter.ensures c.in_err-cursor.was)))

pub loop-cursor-init : goal.loop-cursor-init
loop-cursor-init g c =
    let few : c.in_ok-cursor.cursor.count < 2 ^ 64 = omega arith in
    sweeping-none (g.met.M.Method.sized _ c.requires.0).some c.requires.1.odd (walk_none _ _ c.enter.ensures c.in_ok-cursor.was few)

pub returns-in_err-part : goal.returns-in_err-part
returns-in_err-part g c =
    let same : c.from_residual-in_err-part.result ≡ Err c.in_err-part.field-0.0 = search rules in
    rw same (sym (segment-passed-not _ _ _ _ _ _ (walk-cut c.loop-cursor.invariant.walk c.loop-cursor-test.true c.head.ensures
    c.in_err-part.was)))

pub slice_bounds-letters-count : goal.slice_bounds-letters-count
slice_bounds-letters-count g c = let w = head-is _ _ _ _ (sym c.head.ensures ∙ ap outcome c.in_ok-part.was) in omega (arith, w.starts, w.ends)

pub slice_bounds-letters-start : goal.slice_bounds-letters-start
slice_bounds-letters-start g c = let w = head-is _ _ _ _ (sym c.head.ensures ∙ ap outcome c.in_ok-part.was) in omega (arith, w.starts, w.ends)

pub slice_bounds-letters-end : goal.slice_bounds-letters-end
slice_bounds-letters-end g c = let w = head-is _ _ _ _ (sym c.head.ensures ∙ ap outcome c.in_ok-part.was) in omega (arith, w.ends, w.inside)

pub returns-then-scanned : goal.returns-then-scanned
returns-then-scanned g c =
    sym (segment-passed-not _ _ _ _ _ _ (walk-misspelt c.loop-cursor.invariant.walk c.loop-cursor-test.true (head-is _ _ _ _ (sym c.head.ensures ∙ ap outcome c.in_ok-part.was))
    c.scan-scanned.ensures.0 c.if-scanned.true c.misspelt.ensures))

pub returns-in_err-compared : goal.returns-in_err-compared
returns-in_err-compared g c =
    let same : c.from_residual-in_err-compared.result ≡ Err c.in_err-compared.field-0.0 = search rules in
    rw same (sym (segment-passed-not _ _ _ _ _ _ (walk-again c.loop-cursor.invariant.walk c.loop-cursor-test.true (head-is _ _ _ _ (sym c.head.ensures ∙ ap outcome c.in_ok-part.was))
    c.scan-scanned.ensures.0 c.if-scanned.false c.compared.ensures c.in_err-compared.was)))

pub loop-cursor-smaller : goal.loop-cursor-smaller
loop-cursor-smaller g c =
    walk-less c.loop-cursor.invariant.walk c.loop-cursor-test.true _ _ c.past-cursor.ensures

pub loop-cursor-preserved : goal.loop-cursor-preserved
loop-cursor-preserved g c =
    let w = c.loop-cursor.invariant.walk in
    let spelt = c.scan-scanned.ensures.0 in
    let fits : length c.args.stretch.now < 2 ^ 64 = omega arith in
    let new = elim c.if-suspects.branch as (λ _. repeats_at c.args.stretch.now c.loop-cursor.cursor.first c.loop-cursor.cursor.at ≡ false) [
      | then-suspects+in_ok-compared y ↦ walk-new w c.loop-cursor-test.true (head-is _ _ _ _ (sym c.head.ensures ∙ ap outcome c.in_ok-part.was)) spelt y.compared.ensures y.in_ok-compared.was
      | else-suspects y ↦ walk-unsuspected w c.loop-cursor-test.true (head-is _ _ _ _ (sym c.head.ensures ∙ ap outcome c.in_ok-part.was)) spelt (sym c.suspects.ensures ∙ y.if-suspects.false)
    ] in
    let on = walk-past w c.loop-cursor-test.true (head-is _ _ _ _ (sym c.head.ensures ∙ ap outcome c.in_ok-part.was)) spelt fits c.if-scanned.false new refl c.past-cursor.ensures in
    sweeping-more c.loop-cursor.invariant on (swept _ _ (head-is _ _ _ _ (sym c.head.ensures ∙ ap outcome c.in_ok-part.was)) c.scan-scanned.ensures c.if-scanned.false)

pub returns : goal.returns
returns g c =
    let none : c.loop-cursor.cursor.left ≡ 0 = omega arith in
    sym (segment-passed (sweeping-taken c.loop-cursor.invariant (g.met.M.Method.sized _ c.requires.0).some (g.met.M.Method.sized _ c.requires.0).short _ (ap (λ (m : ℕ). 0xffff_ffff_ffff_ffff * 2 ^ (m - 1) % 2 ^ 64) c.bases.ensures)) none)
