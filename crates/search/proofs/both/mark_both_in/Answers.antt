-- `search::both::mark_both_in` meets its contract: what `run_both` tells of the segments, and what `hand` makes of their marks.
use Rattle.std.proofs.Common.{◌≡◌, ℕ, Err, ap, arith, rules}
use Rattle.search.proofs.Markings.{into-refused, found-enough, into-handed, into-short}
use Rattle.search.specs.Either.{SeenBoth, told_marked_both}
use Rattle.search.proofs.Eithers.{from-length, both-segments}
use Rattle.search.proofs.both.mark_both_in.Goals as goal

-- how many segments are told of
abbrev segments : SeenBoth → ℕ
segments x = x.segments

pub whole_as_slice-run_both : goal.whole_as_slice-run_both
whole_as_slice-run_both g c = omega (arith, c.requires.most)

pub shared_whole_as_slice-hand : goal.shared_whole_as_slice-hand
shared_whole_as_slice-hand g c = omega (arith, c.requires.most)

pub returns-in_err-marked : goal.returns-in_err-marked
returns-in_err-marked g c =
    let same : c.from_residual.result ≡ Err c.in_err-marked.field-0.0 = search rules in
    let whole = into-refused _ _ c.args.marks.now segments (both-segments _ _ _) _ _ c.run_both.ensures.marks_of c.run_both.ensures.result_value _ _ (ap told_marked_both c.in_err-marked.was) in
    rw same record { result_value = whole.0; marks_after = whole.1 }

pub hand-requires : goal.hand-requires
hand-requires g c =
    found-enough _ _ c.args.marks.now segments (both-segments _ _ _) _ _ c.run_both.ensures.marks_of c.run_both.ensures.result_value (ap told_marked_both c.in_ok-marked.was) (from-length _ _ _)

pub returns-in_err-hand : goal.returns-in_err-hand
returns-in_err-hand g c =
    let same : c.from_residual-in_err-hand.result ≡ Err c.in_err-hand.field-0.0 = search rules in
    let whole = into-short _ _ c.args.marks.now segments (both-segments _ _ _) _ _ c.run_both.ensures.marks_of c.run_both.ensures.result_value (ap told_marked_both c.in_ok-marked.was) c.hand.ensures.value c.hand.ensures.marks_after c.in_err-hand.was in
    rw same record { result_value = whole.0; marks_after = whole.1 }

pub returns : goal.returns
returns g c =
    let whole = into-handed _ _ c.args.marks.now segments (both-segments _ _ _) _ _ c.run_both.ensures.marks_of c.run_both.ensures.result_value (ap told_marked_both c.in_ok-marked.was) c.hand.ensures.value c.hand.ensures.marks_after c.in_ok-hand.was in
    record { result_value = whole.0; marks_after = whole.1 }
