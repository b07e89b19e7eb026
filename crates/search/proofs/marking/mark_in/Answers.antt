-- `search::marking::mark_in` meets its contract: what `run` tells of the segments, and what `hand` makes of their marks.
use Rattle.std.proofs.Common.{◌≡◌, ℕ, Err, refl, ap, arith, rules}
use Rattle.search.proofs.Markings.{into-refused, found-enough, into-handed, into-short}
use Rattle.text.proofs.Marks.{marks-length}
use Rattle.search.specs.Answers.{Seen, told_marked}
use Rattle.search.proofs.Searches.{seen-segments}
use Rattle.search.proofs.marking.mark_in.Goals as goal

-- how many segments are told of
abbrev segments : Seen → ℕ
segments x = x.segments

pub whole_as_slice-run : goal.whole_as_slice-run
whole_as_slice-run g c = omega (arith, c.requires.most)

pub shared_whole_as_slice-hand : goal.shared_whole_as_slice-hand
shared_whole_as_slice-hand g c = omega (arith, c.requires.most)

pub run-requires-clause-begun : goal.run-requires-clause-begun
run-requires-clause-begun g c = (c.requires.begun.0, omega (arith, c.requires.begun.1, c.requires.most))

pub returns-in_err-marked : goal.returns-in_err-marked
returns-in_err-marked g c =
    let same : c.from_residual.result ≡ Err c.in_err-marked.field-0.0 = search rules in
    let whole = into-refused _ _ c.args.marks.now segments (seen-segments _ _) _ _ (c.run.ensures.marks_of refl) (c.run.ensures.result_value_2 refl) _ _ (ap told_marked c.in_err-marked.was) in
    rw same record { result_value = whole.0; marks_after = whole.1 }

pub hand-requires : goal.hand-requires
hand-requires g c =
    found-enough _ _ c.args.marks.now segments (seen-segments _ _) _ _ (c.run.ensures.marks_of refl) (c.run.ensures.result_value_2 refl) (ap told_marked c.in_ok-marked.was) (marks-length _ _)

pub returns-in_err-hand : goal.returns-in_err-hand
returns-in_err-hand g c =
    let same : c.from_residual-in_err-hand.result ≡ Err c.in_err-hand.field-0.0 = search rules in
    let whole = into-short _ _ c.args.marks.now segments (seen-segments _ _) _ _ (c.run.ensures.marks_of refl) (c.run.ensures.result_value_2 refl) (ap told_marked c.in_ok-marked.was) c.hand.ensures.value c.hand.ensures.marks_after c.in_err-hand.was in
    rw same record { result_value = whole.0; marks_after = whole.1 }

pub returns : goal.returns
returns g c =
    let whole = into-handed _ _ c.args.marks.now segments (seen-segments _ _) _ _ (c.run.ensures.marks_of refl) (c.run.ensures.result_value_2 refl) (ap told_marked c.in_ok-marked.was) c.hand.ensures.value c.hand.ensures.marks_after c.in_ok-hand.was in
    record { result_value = whole.0; marks_after = whole.1 }
