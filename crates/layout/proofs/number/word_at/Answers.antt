-- `layout::number::word_at` meets its contract: `pair` where the two bytes are there.
use Rattle.std.proofs.Common.{◌+◌, ◌≤◌, length, sym, ◌∙◌, arith, leb-true}
use borrow.Author.Tests.{not-true, not-false}
use Rattle.layout.proofs.Stands.{word-there, word_none}
use Rattle.layout.proofs.number.word_at.Goals as goal
use Rattle.layout.proofs.number.word_at.Goals.{Else-not-has_room}

room : (c : Else-not-has_room) → c.args.at + 2 ≤ length c.args.bytes.now
room c = leb-true _ _ (sym c.has_room.ensures ∙ not-false _ c.if-not-has_room.false-raw)

pub returns-then-not-has_room : goal.returns-then-not-has_room
returns-then-not-has_room c = (sym (word_none _ _ (sym c.has_room.ensures ∙ not-true _ c.if-not-has_room.true-raw)), omega arith)

pub pair-requires : goal.pair-requires
pair-requires c = room (goal.at.pair-requires c).Else-not-has_room

pub returns : goal.returns
returns c = (c.pair.ensures.0 ∙ sym (word-there _ _ (room (goal.at.returns c).Else-not-has_room)), c.pair.ensures.1)
