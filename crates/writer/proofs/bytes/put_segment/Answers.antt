use Prim.Native.Nat.{◌+◌, ◌-◌, ◌<◌, ◌≤◌}
use native.Mathlib.Omega.{arith}
use mathlib.Core.Path.{◌≡◌, ap, ◌∙◌}
use lib.ListN.{length}
use Rattle.text.specs.Letter.{meant}
use Rattle.text.specs.Text.{Variant}
use Rattle.text.proofs.Likes.{meant-length}
use Rattle.layout.specs.Bytes.{put}
use Rattle.layout.specs.Encoding.{encode_variant}
use Rattle.layout.specs.Sizes.{after_variant}
use Rattle.layout.proofs.Raised.{part-meant}
use Rattle.writer.proofs.Cuts.{passing-number, passing-inside}
use Rattle.layout.proofs.Overs.{emitted-length}
use Rattle.writer.proofs.SegmentBytes.{variants-room, variants-more, segment-room, segment-none, segment-end}
use Rattle.writer.proofs.bytes.put_segment.Goals as goal
use Rattle.writer.proofs.bytes.put_segment.Goals.{After-slice_known-1, After-stated-size, At-loop-k, In-loop-k}

narrow : (c : After-slice_known-1) → length c.args.out.now < 18446744073709551616
narrow c = omega arith

same : (c : At-loop-k) → length c.loop-k.out ≡ length c.args.out.now
same c = emitted-length c.loop-k.invariant.emitted ∙ c.put_variants.auto.out

-- the next variant: its number is that of a length, its letters are there, and its bytes fit
number :
    (c : In-loop-k) →
    c.args.first + c.loop-k.k < length c.args.parts.lengths.now
number c = passing-number c.loop-k.invariant.passing c.loop-k-test.true

inside :
    (c : After-stated-size) →
    c.loop-k.start + c.stated-size.result ≤ length c.args.parts.letters.now
inside c =
    rw meant-length at (passing-inside c.loop-k.invariant.passing c.loop-k-test.true c.stated-size.ensures)

room :
    (c : After-stated-size) →
    after_variant c.loop-k.next c.stated-size.result ≤ length c.args.out.now
room c =
    let h = variants-room c.loop-k.invariant c.loop-k-test.true c.stated-size.ensures in
    rw (same (goal.at.After-stated-size c).At-loop-k) at h

pub overflow_add-next : goal.overflow_add-next
overflow_add-next c =
    omega (arith, segment-room (meant c.args.parts.letters.now) c.args.out.now c.args.at c.requires.within c.requires.count_in_bounds)

pub loop-k-init : goal.loop-k-init
loop-k-init c =
    segment-none _ c.args.out.now c.args.at c.requires.within c.requires.count_in_bounds c.wide-variants.ensures.0 c.put_variants.auto.out

pub overflow_add-first : goal.overflow_add-first
overflow_add-first c = omega (arith, number (goal.at.overflow_add-first c).In-loop-k)

pub offset_bounds-parts-first : goal.offset_bounds-parts-first
offset_bounds-parts-first c = omega (arith, number (goal.at.offset_bounds-parts-first c).In-loop-k)

pub bounds-parts-first : goal.bounds-parts-first
bounds-parts-first c = number (goal.at.bounds-parts-first c).In-loop-k

pub overflow_add-end : goal.overflow_add-end
overflow_add-end c = omega (arith, inside (goal.at.overflow_add-end c).After-stated-size)

pub slice_bounds-put_variant-end : goal.slice_bounds-put_variant-end
slice_bounds-put_variant-end c = omega (arith, inside (goal.at.slice_bounds-put_variant-end c).After-stated-size)

pub loop-k-preserved : goal.loop-k-preserved
loop-k-preserved c =
    let letters = c.args.parts.letters.now in
    let start = c.loop-k.start in
    let next = c.loop-k.next in
    let out = c.loop-k.out in
    let place : c.after_variant-next.result ≡ after_variant next c.stated-size.result =
    omega (arith, c.after_variant-next.ensures, room (goal.at.loop-k-preserved c).After-stated-size, narrow (goal.at.loop-k-preserved c).After-slice_known-1) in
    variants-more c.loop-k.invariant c.loop-k-test.true c.stated-size.ensures place
    (c.put_variant.ensures ∙ ap (λ (v : Variant). put out next (encode_variant v))
    (part-meant letters start (start + c.stated-size.result - start)))

pub shape_of-out : goal.shape_of-out
shape_of-out c = same (goal.at.shape_of-out c).At-loop-k

pub returns : goal.returns
returns c =
    let whole = segment-end _ c.args.out.now c.args.at c.requires.within c.requires.count_in_bounds
    c.wide-variants.ensures c.put_variants.ensures c.loop-k.invariant c.loop-k-test.false in record { value = whole.0; out_after = whole.1 }
