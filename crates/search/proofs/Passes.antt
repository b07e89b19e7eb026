-- Steps over a segment: each answer, from the tests and the callees that lead there; and what an answer says of the segment.
use Prim.Native.Nat.{ℕ}
use mathlib.Core.Path.{◌≡◌, ap, ◌∙◌}
use mathlib.Core.Bool.{Bool}
use mathlib.Core.List.{List}
use Rattle.text.specs.Text.{Segment, weight, total}
use Rattle.text.specs.State.{next, ends}
use Rattle.text.specs.Refusal.{ok, refused}
use Rattle.text.proofs.Outcomes.{told-met, told-refused}
use Rattle.layout.specs.Reading.{Taken, segment_at}
use Rattle.layout.specs.declared.cursor.Cursor.{Cursor}
use Rattle.layout.proofs.Walking.{Walking, walk-done}
use Rattle.search.specs.Step.{Pass, segment_pass}

-- the variants of a segment, taken one after another
pub record Taking (P : List ℕ) (st : ℕ) (s : List ℕ) (from : ℕ) (c : Cursor) (state : ℕ) (end : Bool) : Type 0 where
  pub seen : Segment
  pub walk : Walking s from seen c
  pub reached : state ≡ next P st seen
  pub ended : end ≡ ends P st seen

-- the answers of a step over a segment
pub segment-passed-not : (P : List ℕ) (st : ℕ) (s : List ℕ) (at n p : ℕ) → segment_at s at ≡ refused n p
    → segment_pass P st s at ≡ refused n p
unfolding segment_pass
segment-passed-not P st s at n p e = rw e

pub segment-passed : {P : List ℕ} {st : ℕ} {s : List ℕ} {at : ℕ} {c : Cursor} {state : ℕ} {end : Bool} → Taking P st s at c state end
    → c.left ≡ 0 → segment_pass P st s at ≡ ok (record { next = c.at; size = c.size; state = state; ends = end })
unfolding segment_pass
segment-passed t none = rw (walk-done t.walk none, t.walk.sum.sum, t.reached, t.ended)

-- the segment that a step over it has read
pub record Stepped (P : List ℕ) (st : ℕ) (s : List ℕ) (at behind more bits : ℕ) (hit : Bool) : Type 0 where
  pub segment : Segment
  pub read : segment_at s at ≡ ok (record { value = segment; next = behind })
  pub size : total weight segment ≡ more
  pub state : next P st segment ≡ bits
  pub end : ends P st segment ≡ hit

module _ (P : List ℕ) (st : ℕ) (s : List ℕ) (at : ℕ) where
  -- what a step over a segment tells, of what was read
  told : Taken Segment ℕ → Pass
  told x = record { next = x.next; size = total weight x.value; state = next P st x.value; ends = ends P st x.value }

  pub segment-met : (behind more bits : ℕ) (hit : Bool)
      → segment_pass P st s at ≡ ok (record { next = behind; size = more; state = bits; ends = hit })
      → Stepped P st s at behind more bits hit
  unfolding segment_pass told
  segment-met behind more bits hit e =
      let m = told-met (segment_at s at) told (record { next = behind; size = more; state = bits; ends = hit }) e in
      let g = m.0.value in
      record {
        segment = g;
        read = m.1 ∙ ap (λ (n : ℕ). ok (record { value = g; next = n })) (ap (λ (x : Pass). x.next) m.2);
        size = ap (λ (x : Pass). x.size) m.2;
        state = ap (λ (x : Pass). x.state) m.2;
        end = ap (λ (x : Pass). x.ends) m.2;
      }

  pub segment-not : (j p : ℕ) → segment_pass P st s at ≡ refused j p → segment_at s at ≡ refused j p
  unfolding segment_pass told
  segment-not j p e = told-refused (segment_at s at) told j p e
