-- `layout::repetition::repeated` meets its contract. The loop's invariant: the variants passed are all different, and the test goes on
-- with those that are left, not more than `rest`. The measure is the number of bytes up to `at`.
use Rattle.std.proofs.Common.{◌≡◌, ℕ, ◌+◌, ◌-◌, ◌≤◌}
use Rattle.layout.specs.Pieces.{repeated_before}
use Rattle.layout.proofs.repetition.repeated.Given as goal

abbrev pub invariant-loop-place : goal.invariant-loop-place
invariant-loop-place l =
    (rest : ℕ) × (repeated_before l.stretch l.variant l.at l.at l.first ≡ repeated_before l.stretch l.variant l.at rest l.place) × (l.at ≤ l.place + rest)

abbrev pub decreases-loop-place : goal.decreases-loop-place
decreases-loop-place l = l.at - l.place
