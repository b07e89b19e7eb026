-- `vcf::put::put_line` meets its contract: a line that adds nothing, and a record of the window.
use Prim.Native.Nat.{ℕ, ◌-◌, ◌+◌, ◌<◌, ◌≤◌, min}
use native.Mathlib.Omega.{arith}
use mathlib.Core.Path.{◌≡◌, refl, sym, ap, ◌∙◌}
use lib.ListN.{length, take, drop}
use Rattle.layout.proofs.Raised.{part-meant}
use Rattle.text.specs.Letter.{meant}
use Rattle.text.proofs.Likes.{meant-length}
use mathlib.Core.Bool.{true, false}
use mathlib.Core.List.{List}
use Rattle.vcf.specs.Records.{beyond, comment, position, position_of, stated as stated_position}
use Rattle.vcf.proofs.Digits.{states-none, states-some}
use Rattle.vcf.proofs.Lines.{idle-comment, idle-nowhere, idle-is, idle-line, busy-bounds, busy-few, busy-room, busy-line}
use Rattle.vcf.proofs.put.put_line.Goals as goal
use Rattle.vcf.proofs.put.put_line.Goals.{After-behind-end, In-Some, Else-is_outside}

plain : (q : In-Some) → comment q.args.line.now ≡ false
plain q = sym q.is_comment.ensures ∙ q.if-is_comment.false

stated : (q : In-Some) → q.in-Some.place ≡ position q.args.line.now
stated q = states-some (q.position.ensures ∙ ap (λ (x : List ℕ). stated_position (position_of x)) q.field.ensures) q.in-Some.is

-- the position after REF
ending : (b : After-behind-end) → b.behind-end.result ≡ min beyond
    (b.in-Some.place + length (meant b.field-reference.result.now))
ending b = b.behind-end.ensures ∙ rw (← meant-length b.field-reference.result.now)

bounds :
    (c : Else-is_outside) →
    (c.args.window.first ≤ c.in-Some.place)
    × (c.args.put.base ≤ c.in-Some.place - c.args.window.first)
    × (c.in-Some.place - c.args.window.first ≤ length (meant c.args.window.bases.now))
    × (c.args.window.first ≤ c.behind-end.result)
    × (0 < c.args.put.left)
bounds c =
    busy-bounds _ _ c.args.put.base _ (plain (goal.at.Else-is_outside c).In-Some) c.requires.placing.put _ (stated (goal.at.Else-is_outside c).In-Some) _ (ap meant c.field-reference.ensures) _
    (ending (goal.at.Else-is_outside c).After-behind-end)
    (sym c.if-is_outside.false ∙ c.is_outside.ensures) c.args.put.left c.requires.placing.lies

-- the bases before it
before :
    (c : Else-is_outside) →
    meant (take (c.in-Some.place - c.args.window.first - c.args.put.base) (drop c.args.put.base c.args.window.bases.now))
    ≡ take (c.in-Some.place - c.args.window.first - c.args.put.base) (drop c.args.put.base (meant c.args.window.bases.now))
before c = part-meant c.args.window.bases.now c.args.put.base (c.in-Some.place - c.args.window.first - c.args.put.base)

pub returns-then-is_comment : goal.returns-then-is_comment
returns-then-is_comment c = let whole = idle-line _ _ _ _ (idle-comment _ _ c.args.put.base _ (sym c.is_comment.ensures ∙ c.if-is_comment.true))
    _ _ _ in record { left_value = whole.0; out_after = whole.1 }

pub returns-in_default : goal.returns-in_default
returns-in_default c =
    let nowhere = states-none (c.position.ensures ∙ ap (λ (x : List ℕ). stated_position (position_of x)) c.field.ensures) c.in_default.is in
    let whole = idle-line _ _ _ _ (idle-nowhere _ _ c.args.put.base _ nowhere c.requires.placing.put c.requires.placing.lies) _ _ _ in
    record { left_value = whole.0; out_after = whole.1 }

pub returns-then-is_outside : goal.returns-then-is_outside
returns-then-is_outside c =
    let whole = idle-line _ _ _ _
    (idle-is _ _ c.args.put.base _ (plain (goal.at.returns-then-is_outside c).In-Some) c.requires.placing.put _ (stated (goal.at.returns-then-is_outside c).In-Some) _
    (ap meant c.field-reference.ensures) _ (ending (goal.at.returns-then-is_outside c).After-behind-end) true
    (sym c.if-is_outside.true ∙ c.is_outside.ensures))
    _ _ _ in record { left_value = whole.0; out_after = whole.1 }

pub overflow_sub-start : goal.overflow_sub-start
overflow_sub-start c = let h = bounds (goal.at.overflow_sub-start c).Else-is_outside in omega (arith, h)

pub slice_bounds-put_gap-count : goal.slice_bounds-put_gap-count
slice_bounds-put_gap-count c = let h = bounds (goal.at.slice_bounds-put_gap-count c).Else-is_outside in omega (arith, h)

pub slice_bounds-put_gap-start : goal.slice_bounds-put_gap-start
slice_bounds-put_gap-start c = let h = bounds (goal.at.slice_bounds-put_gap-start c).Else-is_outside in omega (arith, h)

pub slice_bounds-put_gap-end : goal.slice_bounds-put_gap-end
slice_bounds-put_gap-end c = let h = bounds (goal.at.slice_bounds-put_gap-end c).Else-is_outside in omega (arith, h, meant-length c.args.window.bases.now)

pub put_gap-next-requires : goal.put_gap-next-requires
put_gap-next-requires c =
    rw (before (goal.at.put_gap-next-requires c).Else-is_outside)
    (busy-room _ _ c.args.put.base _ (plain (goal.at.put_gap-next-requires c).In-Some) c.requires.placing.put _ (stated (goal.at.put_gap-next-requires c).In-Some) _ (ap meant c.field-reference.ensures) _
    (ending (goal.at.put_gap-next-requires c).After-behind-end)
    (sym c.if-is_outside.false ∙ c.is_outside.ensures) c.args.put.left c.requires.placing.lies _ refl c.args.put.at _ c.requires.line_in_bounds).0

pub put_record-last-requires : goal.put_record-last-requires
put_record-last-requires c =
    let r = busy-room _ _ c.args.put.base _ (plain (goal.at.put_record-last-requires c).In-Some) c.requires.placing.put _ (stated (goal.at.put_record-last-requires c).In-Some) _ (ap meant c.field-reference.ensures)
    _ (ending (goal.at.put_record-last-requires c).After-behind-end)
    (sym c.if-is_outside.false ∙ c.is_outside.ensures) c.args.put.left c.requires.placing.lies _ (ap meant c.field-2.ensures)
    c.args.put.at _ c.requires.line_in_bounds in record {
      alt_len_bound = busy-few _ _ c.args.put.base _ (plain (goal.at.put_record-last-requires c).In-Some) c.requires.placing.put _ (stated (goal.at.put_record-last-requires c).In-Some) _ (ap meant c.field-reference.ensures) _
          (ending (goal.at.put_record-last-requires c).After-behind-end)
          (sym c.if-is_outside.false ∙ c.is_outside.ensures) c.args.put.left c.requires.placing.lies _ (ap meant c.field-2.ensures);
      alt_in_bounds = omega (arith, r.1, rw (before (goal.at.put_record-last-requires c).Else-is_outside) at c.put_gap-next.ensures.value, c.put_gap-next.auto.out);
    }

pub overflow_sub-result : goal.overflow_sub-result
overflow_sub-result c = let h = bounds (goal.at.overflow_sub-result c).Else-is_outside in omega (arith, h)

pub overflow_sub-result-2 : goal.overflow_sub-result-2
overflow_sub-result-2 c = let h = bounds (goal.at.overflow_sub-result-2 c).Else-is_outside in omega (arith, h)

pub returns : goal.returns
returns c =
    let x = rw (before (goal.at.returns c).Else-is_outside) at c.put_gap-next.ensures in
    let whole = busy-line _ _ c.args.put.base _ (plain (goal.at.returns c).In-Some) c.requires.placing.put _ (stated (goal.at.returns c).In-Some) _ (ap meant c.field-reference.ensures) _
    (ending (goal.at.returns c).After-behind-end)
    (sym c.if-is_outside.false ∙ c.is_outside.ensures) c.args.put.left c.requires.placing.lies _ (ap meant c.field-2.ensures) _ _
    c.requires.line_in_bounds _ _ x.value c.put_record-last.ensures.value _ _ x.out_after c.put_record-last.ensures.out_after in record { left_value = whole.0; out_after = whole.1 }
