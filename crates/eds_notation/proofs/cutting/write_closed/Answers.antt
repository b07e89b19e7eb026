-- `eds_notation::cutting::write_closed` meets its contract.
use mathlib.Core.Path.{◌≡◌, sym, ◌∙◌}
use mathlib.Core.Bool.{true}
use lib.ListN.{length}
use lib.Seq.{length-take-le}
use Rattle.eds_notation.specs.Cutting.{within}
use Rattle.eds_notation.proofs.Cuts.{Within, within-is, letters-inside, lengths-inside, closed-few, closed-not, closed-done}
use Rattle.eds_notation.proofs.cutting.write_closed.Goals as goal
use Rattle.eds_notation.proofs.cutting.write_closed.Goals.{Else-not-is_within}

-- the tape lies within its buffers
lies :
    (c : Else-not-is_within) →
    within c.args.tape (length c.args.letters.now) (length c.args.lengths.now) ≡ true
lies c = sym c.is_within.ensures ∙ c.if-not-is_within.false

inside :
    (c : Else-not-is_within) →
    Within c.args.tape (length c.args.letters.now) (length c.args.lengths.now)
inside c = within-is _ _ _ (lies c)

pub returns-then-counts-segments : goal.returns-then-counts-segments
returns-then-counts-segments c =
    let whole = closed-few c.args.tape c.args.letters.now c.args.lengths.now c.args.counts.now c.args.out.now c.if-counts-segments.true in record { result_value = whole.0; out_after = whole.1 }

pub returns-then-not-is_within : goal.returns-then-not-is_within
returns-then-not-is_within c =
    let whole = closed-not c.args.tape c.args.letters.now c.args.lengths.now c.args.counts.now c.args.out.now
    (sym c.is_within.ensures ∙ c.if-not-is_within.true) in record { result_value = whole.0; out_after = whole.1 }

pub overflow_sub-spelt : goal.overflow_sub-spelt
overflow_sub-spelt c = (inside (goal.at.overflow_sub-spelt c).Else-not-is_within).letters-open

pub overflow_sub-variants : goal.overflow_sub-variants
overflow_sub-variants c = (inside (goal.at.overflow_sub-variants c).Else-not-is_within).lengths-open

pub slice_bounds-write-end : goal.slice_bounds-write-end
slice_bounds-write-end c = sym (length-take-le _ _ (letters-inside (inside (goal.at.slice_bounds-write-end c).Else-not-is_within)))

pub slice_bounds-write-end-2 : goal.slice_bounds-write-end-2
slice_bounds-write-end-2 c = sym (length-take-le _ _ (lengths-inside (inside (goal.at.slice_bounds-write-end-2 c).Else-not-is_within)))

pub slice_bounds-write-end-3 : goal.slice_bounds-write-end-3
slice_bounds-write-end-3 c = sym (length-take-le _ _ c.if-counts-segments.false)

pub returns : goal.returns
returns c =
    let whole = closed-done c.args.tape c.args.letters.now c.args.lengths.now c.args.counts.now c.args.out.now
    c.if-counts-segments.false (lies (goal.at.returns c).Else-not-is_within) _ _ c.write.ensures.answer c.write.ensures.buffer in record { result_value = whole.0; out_after = whole.1 }
