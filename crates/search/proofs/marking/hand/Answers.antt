-- `search::marking::hand` meets its contract: std's copy, where there is room.
use Rattle.std.proofs.Common.{arith}
use Rattle.search.proofs.Markings.{handed-none, handed-all}
use Rattle.search.proofs.marking.hand.Goals as goal

pub returns-then-marks-segments : goal.returns-then-marks-segments
returns-then-marks-segments c = let whole = handed-none _ c.args.found.now _ c.if-marks-segments.true in record { value = whole.0; marks_after = whole.1 }

pub returns : goal.returns
returns c =
    let whole = handed-all c.args.segments c.args.found.now c.args.marks.now _ c.requires (omega arith) c.copy_from_slice.ensures.after in
    record { value = whole.0; marks_after = whole.1 }
