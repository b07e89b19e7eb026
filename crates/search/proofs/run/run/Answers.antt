use Prim.Native.Nat.{◌<◌}
use native.Mathlib.Omega.{arith}
use mathlib.Core.Bool.{false}
use Rattle.std.proofs.Common.{◌≡◌, Err, refl, sym, ap, ◌∙◌, rules}
use lib.ListN.{length}
use Rattle.layout.proofs.Going.{going_less}
use Rattle.search.specs.Step.{told_passed}
use Rattle.search.proofs.Searches.{searching-none, searching-state, searching-room, searching-more, searching-stopped}
use Rattle.search.proofs.Searches.{searching-walk, searching-length, byte-mark}
use Rattle.search.proofs.Hits.{says-refused, says-left, says-sound, says-stopped}
use Rattle.search.proofs.run.run.Goals as goal

pub loop-walked-init : goal.loop-walked-init
loop-walked-init g c = (searching-none _ _ _ _ _ _ c.requires.begun.0, refl)

pub over-requires : goal.over-requires
over-requires g c =
    let p = c.requires.tools in
    (p.0, searching-state c.loop-walked.invariant.0 (g.met.M.Method.sized _ p.0).some p.1)

pub shape_of-marks-in_err-passed : goal.shape_of-marks-in_err-passed
shape_of-marks-in_err-passed g c = c.loop-walked.invariant.1

pub returns-in_err-passed : goal.returns-in_err-passed
returns-in_err-passed g c =
    let ahead : c.loop-walked.walked.passed < c.args.walk.count = omega (arith, c.loop-walked-test.true, c.loop-walked.invariant.0.walk.go.count) in
    let same : c.from_residual.result ≡ Err c.in_err-passed.field-0.0 = search rules in
    let wrong = sym c.over.ensures ∙ ap told_passed c.in_err-passed.was in
    let whole = says-refused c.loop-walked.invariant.0 c.requires.begun.1 ahead _ wrong in rw same record { result_value = whole.0; result_value_2 = whole.1.0; marks_of = whole.1.1 }

pub keep-requires : goal.keep-requires
keep-requires g c =
    let ahead : c.loop-walked.walked.passed < c.args.walk.count = omega (arith, c.loop-walked-test.true, c.loop-walked.invariant.0.walk.go.count) in
    let on = sym c.over.ensures ∙ ap told_passed c.in_ok-passed.was in λ kept. searching-room c.loop-walked.invariant.0 on ahead (omega (arith, c.requires.walk_in_bounds kept, c.loop-walked.invariant.1))

pub overflow_add-ends : goal.overflow_add-ends
overflow_add-ends g c =
    let ahead : c.loop-walked.walked.passed < c.args.walk.count = omega (arith, c.loop-walked-test.true, c.loop-walked.invariant.0.walk.go.count) in
    let on = sym c.over.ensures ∙ ap told_passed c.in_ok-passed.was in
    let w = searching-walk c.loop-walked.invariant.0 on ahead _ (byte-mark c.in_ok-passed.passed.ends)
    (λ kept. searching-room c.loop-walked.invariant.0 on ahead (omega (arith, c.requires.walk_in_bounds kept, c.loop-walked.invariant.1))) _ c.keep.ensures (omega arith) c.past-walked.ensures in
    omega (arith, w.few)

pub shape_of-marks-then-stop-passed : goal.shape_of-marks-then-stop-passed
shape_of-marks-then-stop-passed g c =
    let ahead : c.loop-walked.walked.passed < c.args.walk.count = omega (arith, c.loop-walked-test.true, c.loop-walked.invariant.0.walk.go.count) in
    let on = sym c.over.ensures ∙ ap told_passed c.in_ok-passed.was in
    searching-length c.loop-walked.invariant.0 on ahead _ (byte-mark c.in_ok-passed.passed.ends)
    (λ kept. searching-room c.loop-walked.invariant.0 on ahead (omega (arith, c.requires.walk_in_bounds kept, c.loop-walked.invariant.1))) _ c.keep.ensures ∙ c.loop-walked.invariant.1

pub returns-then-stop-passed : goal.returns-then-stop-passed
returns-then-stop-passed g c =
    let ahead : c.loop-walked.walked.passed < c.args.walk.count = omega (arith, c.loop-walked-test.true, c.loop-walked.invariant.0.walk.go.count) in
    let on = sym c.over.ensures ∙ ap told_passed c.in_ok-passed.was in
    let is = byte-mark c.in_ok-passed.passed.ends in
    let kept : c.args.stop ≡ false → c.loop-walked.walked.passed < length c.loop-walked.marks = λ kept. searching-room c.loop-walked.invariant.0 on ahead (omega (arith, c.requires.walk_in_bounds kept, c.loop-walked.invariant.1)) in
    let w = searching-walk c.loop-walked.invariant.0 on ahead _ is kept _ c.keep.ensures (omega arith)
    c.past-walked.ensures in
    let z = searching-stopped c.loop-walked.invariant.0 on ahead _ is kept _ c.keep.ensures (omega arith)
    c.past-walked.ensures c.requires.begun.1 c.if-stop-passed.true in
    let whole = says-stopped _ _ _ _ _ _ _ c.loop-walked.walked.passed _ _ _ _ z.0 z.1 w.few z.2 z.3 in record { result_value = whole.0; result_value_2 = whole.1.0; marks_of = whole.1.1 }

pub loop-walked-smaller : goal.loop-walked-smaller
loop-walked-smaller g c =
    let ahead : c.loop-walked.walked.passed < c.args.walk.count = omega (arith, c.loop-walked-test.true, c.loop-walked.invariant.0.walk.go.count) in
    going_less c.loop-walked.invariant.0.walk.go ahead (omega arith) _ _ c.past-walked.ensures

pub loop-walked-preserved : goal.loop-walked-preserved
loop-walked-preserved g c =
    let ahead : c.loop-walked.walked.passed < c.args.walk.count = omega (arith, c.loop-walked-test.true, c.loop-walked.invariant.0.walk.go.count) in
    let on = sym c.over.ensures ∙ ap told_passed c.in_ok-passed.was in
    let is = byte-mark c.in_ok-passed.passed.ends in
    let kept : c.args.stop ≡ false → c.loop-walked.walked.passed < length c.loop-walked.marks = λ kept. searching-room c.loop-walked.invariant.0 on ahead (omega (arith, c.requires.walk_in_bounds kept, c.loop-walked.invariant.1)) in (
      searching-more c.loop-walked.invariant.0 on ahead _ is kept _ c.keep.ensures (omega arith)
          c.past-walked.ensures c.if-stop-passed.false,
      searching-length c.loop-walked.invariant.0 on ahead _ is kept _ c.keep.ensures ∙ c.loop-walked.invariant.1,
    )

pub shape_of-marks-in_err-end : goal.shape_of-marks-in_err-end
shape_of-marks-in_err-end g c = c.loop-walked.invariant.1

pub returns-in_err-end : goal.returns-in_err-end
returns-in_err-end g c =
    let same : c.from_residual-in_err-end.result ≡ Err c.in_err-end.field-0.0 = search rules in
    let q = c.loop-walked.invariant.0 in
    let whole = says-left q c.requires.begun.1 (omega (arith, q.walk.go.count)) c.end.ensures _
    c.in_err-end.was in rw same record { result_value = whole.0; result_value_2 = whole.1.0; marks_of = whole.1.1 }

pub shape_of-marks : goal.shape_of-marks
shape_of-marks g c = c.loop-walked.invariant.1

pub returns : goal.returns
returns g c =
    let q = c.loop-walked.invariant.0 in
    let whole = says-sound q c.requires.begun.1 (omega (arith, q.walk.go.count)) c.end.ensures
    c.in_ok-end.was _ refl in record { result_value = whole.0; result_value_2 = whole.1.0; marks_of = whole.1.1 }
