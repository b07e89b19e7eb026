use Rattle.std.proofs.Common.{◌+◌, ◌≤◌, length, sym, ap, ◌∙◌, arith, leb-true}
use borrow.Author.Tests.{not-true, not-false}
use Rattle.text.specs.Letter.{meant}
use Rattle.text.proofs.Likes.{meant-length, meant-at}
use Rattle.layout.specs.Bytes.{word_bytes, over}
use Rattle.layout.specs.Encoding.{encode_variant}
use Rattle.layout.proofs.Lengths.{length-variant}
use Rattle.layout.proofs.Overs.{put-over, put-short, variant-over}
use Rattle.layout.proofs.Overs.{emitted-length, copied_none, copied-room, copied_more, copied-end}
use Rattle.layout.proofs.variant.put_variant.Goals as goal
use Rattle.layout.proofs.variant.put_variant.Goals.{Else-not-has_room}

room : (c : Else-not-has_room) → c.args.at + 2 + length c.args.variant.now ≤ length c.args.out.now
room c =
    let a = c.args in
    let h : a.at + (2 + length a.variant.now) ≤ length a.out.now =
    leb-true _ _ (sym c.has_room.ensures ∙ not-false _ c.if-not-has_room.false-raw) in
    omega arith

pub returns-then-not-has_room : goal.returns-then-not-has_room
returns-then-not-has_room c =
    let size = length-variant (meant c.args.variant.now) ∙ ap (λ n. 2 + n) (meant-length c.args.variant.now) in
    put-short c.args.out.now c.args.at (encode_variant (meant c.args.variant.now))
    (rw size (sym c.has_room.ensures ∙ not-true _ c.if-not-has_room.true-raw))

pub overflow_add-start : goal.overflow_add-start
overflow_add-start c = omega (arith, room (goal.at.overflow_add-start c).Else-not-has_room)

pub loop-i-init : goal.loop-i-init
loop-i-init c =
    let v = c.args.variant.now in
    copied_none _ _ (meant v) (rw (meant-length v) (omega (arith, room (goal.at.loop-i-init c).Else-not-has_room, c.put_word.auto.out)))

pub bounds-out-start : goal.bounds-out-start
bounds-out-start c = copied-room c.loop-i.invariant (rw meant-length c.loop-i-test.true)

pub loop-i-preserved : goal.loop-i-preserved
loop-i-preserved c =
    let v = c.args.variant.now in
    rw (c.raise.ensures, ← meant-at v c.loop-i.i)
    (copied_more c.loop-i.invariant (rw (meant-length v) c.loop-i-test.true))

pub shape_of-out : goal.shape_of-out
shape_of-out c = emitted-length c.loop-i.invariant.emitted ∙ c.put_word.auto.out

pub returns : goal.returns
unfolding word_bytes
returns c =
    let a = c.args in
    let v = meant a.variant.now in
    let n = meant-length a.variant.now in
    let fits : a.at + 2 + length v ≤ length a.out.now = rw n (room (goal.at.returns c).Else-not-has_room) in
    let two : a.at + 2 ≤ length a.out.now = omega (arith, fits) in
    let word = c.put_word.ensures ∙ put-over a.out.now a.at _ two ∙ ap (λ m. over a.out.now a.at (word_bytes m)) (sym n) in
    variant-over _ a.at v fits word (copied-end c.loop-i.invariant (rw n c.loop-i-test.false))
    ∙ sym (put-over a.out.now a.at (encode_variant v) (omega (arith, fits, length-variant v)))
