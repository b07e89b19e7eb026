use Rattle.std.proofs.Common.{Err, rules}
use Prim.Native.Nat.{◌^◌, ◌<◌}
use native.Mathlib.Omega.{arith}
use mathlib.Core.Path.{◌≡◌, sym, ap, ◌∙◌}
use mathlib.Core.List.{[]}
use lib.ListN.{length}
use Rattle.layout.specs.Reading.{stretch_of, segments_of}
use Rattle.layout.proofs.Frames.{fits-met, stretch-is, stretch-over}
use Rattle.layout.proofs.Going.{Opening, open_is, open-not}
use Rattle.layout.proofs.Going.{going-none, going-length, going-refused, going_more, going_less, going-not, going-sound}
use Rattle.text.specs.Refusal.{outcome}
use Rattle.stretch.proofs.Checks.{check-refused, check_sound}
use Rattle.stretch.proofs.Checks.{walked-met, walked-not}
use Rattle.stretch.proofs.checking.summed.Goals as goal
use Rattle.stretch.proofs.checking.summed.Goals.{After-fits, After-open, In_ok-walk}

-- the stretch is no longer than a number can say
narrow : (c : After-fits) → length c.args.stretch.now < 2 ^ 64
narrow c = omega arith

-- the stretch was opened
opening : (c : In_ok-walk)
    → Opening c.args.stretch.now c.in_ok-walk.walk
opening c = open_is _ c.«open».ensures c.in_ok-walk.was

-- and its text is that of the segments that are walked over
text-is : (c : In_ok-walk)
    → let s = c.args.stretch.now in
    stretch_of s ≡ segments_of s c.in_ok-walk.walk.count c.in_ok-walk.walk.at
text-is c =
    stretch-is _ (fits-met _ c.fits.ensures c.in_ok-fits.was) ∙ (opening c).whole

pub returns-in_err-fits : goal.returns-in_err-fits
returns-in_err-fits c =
    let same : c.from_residual.result ≡ Err c.in_err-fits.field-0.0 = search rules in
    rw same (sym (check-refused _ _ _ (stretch-over _ c.fits.ensures c.in_err-fits.was)))

pub returns-in_err-walk : goal.returns-in_err-walk
returns-in_err-walk c =
    let same : c.from_residual-in_err-walk.result ≡ Err c.in_err-walk.field-0.0 = search rules in
    let short = fits-met _ c.fits.ensures c.in_ok-fits.was in
    let none = open-not _ (goal.at.returns-in_err-walk c).After-open.«open».ensures c.in_err-walk.was in
    rw same (sym (check-refused _ _ _ (stretch-is _ short ∙ none.1)))

pub loop-walk-init : goal.loop-walk-init
loop-walk-init c = ([], going-none _ _ (opening (goal.at.loop-walk-init c).In_ok-walk).begins)

pub segment_at-requires : goal.segment_at-requires
segment_at-requires c = c.classes-letters.ensures

pub returns-in_err-walked : goal.returns-in_err-walked
returns-in_err-walked c =
    let same : c.from_residual-in_err-walked.result ≡ Err c.in_err-walked.field-0.0 = search rules in
    let q = c.loop-walk.invariant.1 in
    let wrong = walked-not _ _ _ _ (sym c.segment_at.ensures ∙ ap outcome c.in_err-walked.was) in
    let all = going-refused q (omega (arith, q.count)) wrong in
    rw same (sym (check-refused _ _ _ (text-is (goal.at.returns-in_err-walked c).In_ok-walk ∙ all)))

pub loop-walk-smaller : goal.loop-walk-smaller
loop-walk-smaller c =
    let q = c.loop-walk.invariant.1 in
    going_less q (omega (arith, q.count)) (narrow (goal.at.loop-walk-smaller c).After-fits) _ _ c.past-walk.ensures

pub loop-walk-preserved : goal.loop-walk-preserved
loop-walk-preserved c =
    let q = c.loop-walk.invariant.1 in
    let g = walked-met _ _ _ _ (sym c.segment_at.ensures ∙ ap outcome c.in_ok-walked.was) in (
      _,
      going_more q g.1 g.2 (narrow (goal.at.loop-walk-preserved c).After-fits) c.past-walk.ensures
          (omega (arith, q.count)),
    )

pub returns-in_err-end : goal.returns-in_err-end
returns-in_err-end c =
    let same : c.from_residual-in_err-end.result ≡ Err c.in_err-end.field-0.0 = search rules in
    let q = c.loop-walk.invariant.1 in
    let wrong = going-not q (omega (arith, q.count)) c.end.ensures c.in_err-end.was in
    rw same (sym (check-refused _ _ _ (text-is (goal.at.returns-in_err-end c).In_ok-walk ∙ wrong)))

pub returns : goal.returns
returns c =
    let q = c.loop-walk.invariant.1 in
    let sound = going-sound q (omega (arith, q.count)) c.end.ensures c.in_ok-end.was in
    let long = going-length q in
    sym (check_sound _ _ _ _ (text-is (goal.at.returns c).In_ok-walk ∙ sound) (omega (arith, long, q.count, q.few)) q.sum.sum)
