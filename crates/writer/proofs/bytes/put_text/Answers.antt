use Prim.Native.Nat.{◌<◌, ◌≤◌}
use native.Mathlib.Omega.{arith}
use mathlib.Core.Path.{◌≡◌, ◌∙◌}
use lib.ListN.{length}
use Rattle.layout.specs.Bytes.{word_bytes}
use Rattle.layout.specs.Sizes.{first_segment, text_bytes}
use Rattle.writer.specs.Writing.{needed}
use Rattle.layout.proofs.Overs.{emitted-length, put-over}
use Rattle.writer.proofs.Texts.{matched-within}
use Rattle.writer.proofs.TextBytes.{segments-none, segments-room, segments-more, segments-end, text-over}
use Rattle.writer.proofs.bytes.put_text.Goals as goal
use Rattle.writer.proofs.bytes.put_text.Goals.{After-slice_known-1, After-text_bytes-at, At-loop-segment}

same : (c : At-loop-segment) → length c.loop-segment.out ≡ length c.args.out.now
same c = emitted-length c.loop-segment.invariant.emitted ∙ c.put_segments.auto.out

narrow : (c : After-slice_known-1) → length c.args.out.now < 18446744073709551616
narrow c = omega arith

-- the next segment's place lies in the buffer
place :
    (c : After-text_bytes-at) →
    let d = c.loop-segment in c.text_bytes-at.result ≡ text_bytes d.letter d.variant d.segment
place c =
    let h = segments-room c.loop-segment.invariant c.loop-segment-test.true in
    let l = narrow (goal.at.After-text_bytes-at c).After-slice_known-1 in
    omega (arith, same (goal.at.After-text_bytes-at c).At-loop-segment, c.text_bytes-at.ensures)

pub loop-segment-init : goal.loop-segment-init
loop-segment-init c =
    segments-none _ c.requires.cases (rw c.put_segments.auto.out c.requires.counts_in_bounds)

pub put_segment-letter-requires : goal.put_segment-letter-requires
put_segment-letter-requires c =
    let i = c.loop-segment.invariant in
    record { within = matched-within i.matched c.loop-segment-test.true; count_in_bounds = rw (place (goal.at.put_segment-letter-requires c).After-text_bytes-at) (segments-room i c.loop-segment-test.true) }

pub overflow_add-variant : goal.overflow_add-variant
overflow_add-variant c =
    omega (arith, matched-within c.loop-segment.invariant.matched c.loop-segment-test.true, c.wide-variant.ensures)

pub loop-segment-preserved : goal.loop-segment-preserved
loop-segment-preserved c =
    segments-more c.loop-segment.invariant c.loop-segment-test.true c.wide-variant.ensures.0 c.put_segment-letter.ensures.value (rw (place (goal.at.loop-segment-preserved c).After-text_bytes-at) at c.put_segment-letter.ensures.out_after)

pub shape_of-out : goal.shape_of-out
shape_of-out c = same (goal.at.shape_of-out c).At-loop-segment

pub returns : goal.returns
unfolding needed word_bytes
returns c =
    let room : first_segment ≤ length c.args.out.now = omega (arith, c.requires.counts_in_bounds) in
    text-over _ _ _ _ room (c.put_segments.ensures ∙ put-over _ 0 _ room)
    (segments-end c.loop-segment.invariant c.loop-segment-test.false)
