-- `lines::answer::screened` meets its contract: what is put are the lines of what the search answers.
use native.Mathlib.Omega.{arith}
use lib.ListN.{length-take}
use Rattle.lines.proofs.Answering.{answered-refused, answered-long, answered-marked, lines-put}
use Rattle.lines.proofs.answer.screened.Goals as goal
use Rattle.lines.proofs.answer.screened.Goals.{In-Marked}

pub slice_bounds-marks-end : goal.slice_bounds-marks-end
slice_bounds-marks-end c =
    answered-long c.args.strands _ _ _ _ _ _ c.search_on.ensures.result_value
    c.search_on.ensures.marks_after _ _ _ c.in-Marked.is

pub slice_bounds-put_text-end : goal.slice_bounds-put_text-end
slice_bounds-put_text-end c = simp length-take (omega (arith, slice_bounds-marks-end (goal.at.slice_bounds-put_text-end c).In-Marked))

pub returns-in-Refused : goal.returns-in-Refused
returns-in-Refused c =
    let S = c.args.strands in
    let l = answered-refused S _ _ _ _ _ _ c.search_on.ensures.result_value c.search_on.ensures.marks_after _ c.in-Refused.is in
    lines-put S _ _ _ c.pattern_in-pattern.ensures c.stretch_in-stretch.ensures l c.put_refusal.ensures

pub returns-in-Marked : goal.returns-in-Marked
returns-in-Marked c =
    let S = c.args.strands in
    let l = answered-marked S _ _ _ _ _ _ c.search_on.ensures.result_value c.search_on.ensures.marks_after _ _ _ c.in-Marked.is in
    lines-put S _ _ _ c.pattern_in-pattern.ensures c.stretch_in-stretch.ensures l c.put_text.ensures
