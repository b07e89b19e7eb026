use Prim.Native.Nat.{ℕ, ◌-◌, ◌<◌, ◌≤◌}
use native.Mathlib.Omega.{arith}
use mathlib.Core.Path.{◌≡◌, ◌∙◌}
use mathlib.Core.List.{List}
use lib.ListN.{length, take, drop}
use Rattle.text.specs.Letter.{meant}
use Rattle.text.proofs.Likes.{meant-length}
use Rattle.layout.specs.Bytes.{word_bytes}
use Rattle.layout.proofs.Raised.{part-meant}
use Rattle.layout.proofs.Overs.{put-over}
use Rattle.vcf.proofs.Marks.{next-behind}
use Rattle.vcf.proofs.Lines.{readable-room, putting-none, putting-kept, putting-line, putting-placing, putting-room}
use Rattle.vcf.proofs.Lines.{putting-more, last-room, putting-end}
use Rattle.vcf.proofs.put.put_text.Goals as goal
use Rattle.vcf.proofs.put.put_text.Goals.{At-loop-put}

abbrev W : At-loop-put → List ℕ
W l = l.args.window.bases.now

-- its bases after the last record
within : (l : At-loop-put) → l.loop-put.put.base ≤ length (W l)
within l = rw (meant-length (W l)) at l.loop-put.invariant.within

behind :
    (l : At-loop-put) →
    let base = l.loop-put.put.base in
    meant (take (length (W l) - base) (drop base (W l))) ≡ take (length (meant (W l)) - base) (drop base (meant (W l)))
behind l =
    let base = l.loop-put.put.base in
    part-meant (W l) base (length (W l) - base) ∙ rw (meant-length (W l))

pub loop-put-init : goal.loop-put-init
loop-put-init c = putting-none c.requires _ c.put_segments.auto.out

pub put_line-put-requires : goal.put_line-put-requires
put_line-put-requires c =
    let h = c.loop-put.invariant in
    record { placing = putting-placing h c.loop-put-test.true c.far_end-end.ensures; line_in_bounds = putting-room h c.loop-put-test.true c.far_end-end.ensures }

pub loop-put-smaller : goal.loop-put-smaller
loop-put-smaller c =
    let h : (c.loop-put.at < c.next_line-at.result) × (c.next_line-at.result ≤ length c.args.file.now) =
    rw c.next_line-at.ensures (next-behind _ _ _ (putting-line c.loop-put.invariant c.loop-put-test.true) c.far_end-end.ensures) in
    omega (arith, h)

pub loop-put-preserved : goal.loop-put-preserved
loop-put-preserved c =
    putting-more c.loop-put.invariant c.loop-put-test.true c.far_end-end.ensures _ _ _ _ _ c.next_line-at.ensures
    c.put_line-put.ensures.left_value.0 c.put_line-put.ensures.left_value.1 c.put_line-put.ensures.left_value.2 c.put_line-put.ensures.out_after

pub slice_bounds-put_gap-count : goal.slice_bounds-put_gap-count
slice_bounds-put_gap-count c = within (goal.at.slice_bounds-put_gap-count c).At-loop-put

pub slice_bounds-put_gap-start : goal.slice_bounds-put_gap-start
slice_bounds-put_gap-start c = omega (arith, within (goal.at.slice_bounds-put_gap-start c).At-loop-put)

pub put_gap-requires : goal.put_gap-requires
put_gap-requires c =
    rw (behind (goal.at.put_gap-requires c).At-loop-put) (last-room c.loop-put.invariant c.loop-put-test.false)

pub shape_of-out : goal.shape_of-out
shape_of-out c =
    c.put_gap.auto.out ∙ putting-kept c.loop-put.invariant ∙ c.put_segments.auto.out

pub returns : goal.returns
unfolding word_bytes
returns c =
    putting-end c.loop-put.invariant c.loop-put-test.false _ c.requires
    (c.put_segments.ensures ∙ put-over c.args.out.now 0 _ (readable-room c.requires)) _
    (rw (behind (goal.at.returns c).At-loop-put) at c.put_gap.ensures.out_after)
