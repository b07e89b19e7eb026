-- `search::both::mark_both` meets its contract: what `Walk::open` tells, and what `mark_both_in` tells of the walk. Both buffers have room
-- for the marks of the stretches that take them.
use Rattle.std.proofs.Common.{◌≡◌, Err, rules, arith}
use Rattle.layout.proofs.Going.{Opening, open_is, open-not}
use Rattle.search.proofs.Markings.{into-not}
use Rattle.search.proofs.both.mark_both.Goals as goal
use Rattle.search.proofs.both.mark_both.Goals.{In_ok-walk}

-- the stretch was opened
opening : (v : In_ok-walk) → Opening v.args.stretch.now v.in_ok-walk.walk
opening v = open_is _ v.«open».ensures v.in_ok-walk.was

pub returns-in_err-walk : goal.returns-in_err-walk
returns-in_err-walk c =
    let same : c.from_residual.result ≡ Err c.in_err-walk.field-0.0 = search rules in
    let whole = into-not _ _ _ _ _ _ (open-not _ c.«open».ensures c.in_err-walk.was).1 in
    rw same record { result_value = whole.0; marks_after = whole.1 }

pub mark_both_in-requires : goal.mark_both_in-requires
mark_both_in-requires c =
    let z = opening (goal.at.mark_both_in-requires c).In_ok-walk in
    record { vectors = (record { founded = c.requires.founds.0; letters = c.classes-letters.ensures }, record { founded = c.requires.founds.1; letters = c.classes-letters.ensures }); state_of = (c.requires.state_of.0, c.requires.state_of.1); begun = (z.begins, omega (arith, z.first, c.if-stretch-le-SMALL_STRETCH.true)); most = omega arith }

pub returns-then-stretch-le-SMALL_STRETCH : goal.returns-then-stretch-le-SMALL_STRETCH
returns-then-stretch-le-SMALL_STRETCH c =
    rw (opening (goal.at.returns-then-stretch-le-SMALL_STRETCH c).In_ok-walk).whole record { result_value = c.mark_both_in.ensures.result_value; marks_after = c.mark_both_in.ensures.marks_after }

pub mark_both_in-requires-2 : goal.mark_both_in-requires-2
mark_both_in-requires-2 c =
    let z = opening (goal.at.mark_both_in-requires-2 c).In_ok-walk in
    record { vectors = (record { founded = c.requires.founds.0; letters = c.classes-letters.ensures }, record { founded = c.requires.founds.1; letters = c.classes-letters.ensures }); state_of = (c.requires.state_of.0, c.requires.state_of.1); begun = (z.begins, omega (arith, c.requires.state_of.2, z.states, z.first)); most = omega arith }

pub returns : goal.returns
returns c =
    rw (opening (goal.at.returns c).In_ok-walk).whole record { result_value = c.mark_both_in-2.ensures.result_value; marks_after = c.mark_both_in-2.ensures.marks_after }
