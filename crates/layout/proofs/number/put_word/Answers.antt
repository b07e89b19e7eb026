-- `layout::number::put_word` meets its contract: two numbers set one after another are written over the buffer, where they have room.
use Rattle.std.proofs.Common.{◌+◌, ◌≤◌, length, sym, ◌∙◌, arith, length-set, leb-true}
use borrow.Author.Tests.{not-true, not-false}
use Rattle.layout.specs.Bytes.{word_bytes}
use Rattle.layout.proofs.Overs.{over-two, put-over, put-short}
use Rattle.layout.proofs.number.put_word.Goals as goal
use Rattle.layout.proofs.number.put_word.Goals.{Else-not-has_room}

room : (c : Else-not-has_room) → c.args.at + 2 ≤ length c.args.out.now
room c = leb-true _ _ (sym c.has_room.ensures ∙ not-false _ c.if-not-has_room.false-raw)

pub returns-then-not-has_room : goal.returns-then-not-has_room
unfolding word_bytes
returns-then-not-has_room c = put-short c.args.out.now _ _
    (sym c.has_room.ensures ∙ not-true _ c.if-not-has_room.true-raw)

pub bounds-out-at : goal.bounds-out-at
bounds-out-at c = omega (arith, room (goal.at.bounds-out-at c).Else-not-has_room)

pub overflow_add-out : goal.overflow_add-out
overflow_add-out c = omega (arith, room (goal.at.overflow_add-out c).Else-not-has_room)

pub bounds-out-at-2 : goal.bounds-out-at-2
bounds-out-at-2 c = simp length-set (omega (arith, room (goal.at.bounds-out-at-2 c).Else-not-has_room))

pub returns : goal.returns
unfolding word_bytes
returns c =
    over-two _ _ _ _ (room (goal.at.returns c).Else-not-has_room) ∙ sym (put-over c.args.out.now c.args.at (word_bytes c.args.n) (room (goal.at.returns c).Else-not-has_room))
