use Prim.Native.Nat.{◌^◌, ◌<◌}
use native.Mathlib.Omega.{arith}
use mathlib.Core.Bool.{◌||◌}
use Rattle.std.proofs.Common.{◌≡◌, Err, refl, ◌∙◌, rules}
use lib.ListN.{length, length-set}
use Rattle.layout.proofs.Going.{going_less}
use Rattle.search.proofs.Searches.{byte-mark}
use Rattle.search.proofs.Eithers.{passed-not, passed-own, passed-turned}
use Rattle.search.proofs.Eithers.{uniting-none, uniting-own, uniting-turned, uniting-room, uniting-more, uniting-refused}
use Rattle.search.proofs.Eithers.{uniting-left, uniting-sound}
use Rattle.search.proofs.both.run.run_both.Goals as goal
use Rattle.search.proofs.both.run.run_both.Goals.{In_ok-passed, In-loop-walked}

-- the stretch is no longer than a number can say
narrow : (c : In-loop-walked) → length c.args.stretch.now < 2 ^ 64
narrow c = omega arith

-- a segment is left
ahead : (c : In-loop-walked)
    → c.loop-walked.walked.passed < c.args.walk.count
ahead c = omega (arith, c.loop-walked-test.true, c.loop-walked.invariant.0.walk.go.count)

pub loop-walked-init : goal.loop-walked-init
loop-walked-init c = (uniting-none _ _ _ _ _ _ c.requires.begun.0, refl)

pub over-requires : goal.over-requires
over-requires c =
    let q = c.loop-walked.invariant.0 in record { vectors = (c.requires.vectors.0, uniting-own q c.requires.vectors.0.founded.some c.requires.state_of.0); vectors_2 = (c.requires.vectors.1, uniting-turned q c.requires.vectors.1.founded.some c.requires.state_of.1) }

pub shape_of-marks-in_err-passed : goal.shape_of-marks-in_err-passed
shape_of-marks-in_err-passed c = c.loop-walked.invariant.1

pub returns-in_err-passed : goal.returns-in_err-passed
returns-in_err-passed c =
    let same : c.from_residual.result ≡ Err c.in_err-passed.field-0.0 = search rules in
    let wrong = passed-not c.over.ensures.result_value c.over.ensures.result_value_2 c.in_err-passed.was in
    let whole = uniting-refused c.loop-walked.invariant.0 (ahead (goal.at.returns-in_err-passed c).In-loop-walked) _ _ wrong in rw same record { result_value = whole.0; marks_of = whole.1 }

-- there is room for its mark
room : (c : In_ok-passed) → c.loop-walked.walked.passed < length c.loop-walked.marks
room c =
    let own = passed-own c.over.ensures.result_value c.over.ensures.result_value_2 c.in_ok-passed.was in
    let turned = passed-turned c.over.ensures.result_value c.over.ensures.result_value_2 c.in_ok-passed.was in
    let most = c.requires.begun.1 in
    uniting-room c.loop-walked.invariant.0 own turned (ahead (goal.at.In_ok-passed c).In-loop-walked) (omega (arith, most, c.loop-walked.invariant.1))

pub bounds-marks-walked : goal.bounds-marks-walked
bounds-marks-walked c = room (goal.at.bounds-marks-walked c).In_ok-passed

pub loop-walked-smaller : goal.loop-walked-smaller
loop-walked-smaller c =
    going_less c.loop-walked.invariant.0.walk.go (ahead (goal.at.loop-walked-smaller c).In-loop-walked) (narrow (goal.at.loop-walked-smaller c).In-loop-walked) _ _ c.past-walked.ensures

pub loop-walked-preserved : goal.loop-walked-preserved
loop-walked-preserved c =
    let own = passed-own c.over.ensures.result_value c.over.ensures.result_value_2 c.in_ok-passed.was in
    let turned = passed-turned c.over.ensures.result_value c.over.ensures.result_value_2 c.in_ok-passed.was in
    let mark = byte-mark (c.in_ok-passed.passed.given || c.in_ok-passed.passed.opposite) in (
      uniting-more c.loop-walked.invariant.0 own turned (ahead (goal.at.loop-walked-preserved c).In-loop-walked) _ mark (room (goal.at.loop-walked-preserved c).In_ok-passed) (narrow (goal.at.loop-walked-preserved c).In-loop-walked) c.past-walked.ensures,
      length-set c.loop-walked.marks c.loop-walked.walked.passed _ ∙ c.loop-walked.invariant.1,
    )

pub overflow_add-ends : goal.overflow_add-ends
overflow_add-ends c =
    let own = passed-own c.over.ensures.result_value c.over.ensures.result_value_2 c.in_ok-passed.was in
    let turned = passed-turned c.over.ensures.result_value c.over.ensures.result_value_2 c.in_ok-passed.was in
    let mark = byte-mark (c.in_ok-passed.passed.given || c.in_ok-passed.passed.opposite) in
    let m = uniting-more c.loop-walked.invariant.0 own turned (ahead (goal.at.overflow_add-ends c).In-loop-walked) _ mark (room (goal.at.overflow_add-ends c).In_ok-passed) (narrow (goal.at.overflow_add-ends c).In-loop-walked) c.past-walked.ensures in
    omega (arith, m.walk.few)

pub shape_of-marks-in_err-end : goal.shape_of-marks-in_err-end
shape_of-marks-in_err-end c = c.loop-walked.invariant.1

pub returns-in_err-end : goal.returns-in_err-end
returns-in_err-end c =
    let same : c.from_residual-in_err-end.result ≡ Err c.in_err-end.field-0.0 = search rules in
    let q = c.loop-walked.invariant.0 in
    let whole = uniting-left q (omega (arith, q.walk.go.count)) c.end.ensures c.in_err-end.was in rw same record { result_value = whole.0; marks_of = whole.1 }

pub shape_of-marks : goal.shape_of-marks
shape_of-marks c = c.loop-walked.invariant.1

pub returns : goal.returns
returns c =
    let q = c.loop-walked.invariant.0 in
    let whole = uniting-sound q (omega (arith, q.walk.go.count)) c.end.ensures c.in_ok-end.was in record { result_value = whole.0; marks_of = whole.1 }
