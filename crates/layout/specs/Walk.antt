-- A walk over the segments of a stretch, as a value: what each step answers, for any bytes and any numbers.
use Rattle.std.specs.Prelude.{◌≡◌, ℕ, ◌+◌, ◌-◌, ◌/◌, ◌%◌, ◌^◌, ◌≤◌, min, List, length}
use Rattle.text.specs.Refusal.{Outcome, ok, after}
use Rattle.layout.specs.Pieces.{open_at, closed_at}
use Rattle.layout.specs.declared.walk.Walk.{Walk}

-- before the first of n segments that stand from `at` on
abbrev pub begun : ℕ → ℕ → Walk
begun n at = record { count = n; passed = 0; at = at; size = 0 }

-- before the first segment of a stretch: 5 where its count is cut off
unfoldable pub opened_at : List ℕ → Outcome Walk
opened_at s = after (open_at s) λ n. ok (begun n 2)

-- after the next segment, which has that size and ends before `next`
unfoldable pub passed_to : Walk → ℕ → ℕ → Walk
passed_to w next size =
    record { count = w.count; passed = (w.passed + 1) % 2 ^ 64; at = next; size = (w.size + size) % 2 ^ 64 }

-- after the last segment: 9 where bytes are left, then 16
unfoldable pub end_at : List ℕ → Walk → Outcome (Unit {0})
end_at s w = closed_at s w.at w.count

-- a walk that stands before its first segment, within the bytes
pub record Begun (s : List ℕ) (w : Walk) : Type 0 where
  pub none : w.passed ≡ 0
  pub small : w.size ≡ 0
  pub inside : w.at ≤ length s

-- the most segments that a walk can still pass: a segment has at least 3 bytes
abbrev pub most_ahead : List ℕ → Walk → ℕ
most_ahead s w = min w.count ((length s - w.at) / 3)
