-- `search::marking::mark` meets its contract: what `Walk::open` tells, and what `mark_in` tells of the walk. Both buffers have room for the
-- marks of the stretches that take them.
use Rattle.std.proofs.Common.{◌≡◌, Err, rules, arith}
use Rattle.layout.proofs.Going.{open_is, open-not}
use Rattle.search.proofs.Markings.{into-not}
use Rattle.search.proofs.marking.mark.Goals as goal

pub returns-in_err-walk : goal.returns-in_err-walk
returns-in_err-walk g c =
    let same : c.from_residual.result ≡ Err c.in_err-walk.field-0.0 = search rules in
    let whole = into-not _ _ _ _ _ _ (open-not _ c.«open».ensures c.in_err-walk.was).1 in
    rw same record { result_value = whole.0; marks_after = whole.1 }

pub mark_in-requires : goal.mark_in-requires
mark_in-requires g c =
    let z = open_is _ c.«open».ensures c.in_ok-walk.was in
    record { tools = (c.requires.0, c.requires.1); begun = (z.begins, omega (arith, z.first, c.if-stretch-le-SMALL_STRETCH.true)); most = omega arith }

pub returns-then-stretch-le-SMALL_STRETCH : goal.returns-then-stretch-le-SMALL_STRETCH
returns-then-stretch-le-SMALL_STRETCH g c =
    rw (open_is _ c.«open».ensures c.in_ok-walk.was).whole record { result_value = c.mark_in.ensures.result_value; marks_after = c.mark_in.ensures.marks_after }

pub mark_in-requires-2 : goal.mark_in-requires-2
mark_in-requires-2 g c =
    let z = open_is _ c.«open».ensures c.in_ok-walk.was in
    record { tools = (c.requires.0, c.requires.1); begun = (z.begins, omega (arith, c.requires.2, z.states, z.first)); most = omega arith }

pub returns : goal.returns
returns g c =
    rw (open_is _ c.«open».ensures c.in_ok-walk.was).whole record { result_value = c.mark_in-2.ensures.result_value; marks_after = c.mark_in-2.ensures.marks_after }
