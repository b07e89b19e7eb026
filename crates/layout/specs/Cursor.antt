-- A walk over the variants of a segment, as a value: what each step answers, for any bytes and any numbers.
use Rattle.std.specs.Prelude.{ℕ, ◌+◌, ◌%◌, ◌^◌, not, List, bit_or}
use Rattle.text.specs.Text.{counted}
use Rattle.text.specs.Refusal.{Outcome, ok, demand, after}
use Rattle.layout.specs.Pieces.{variants_at}
use Rattle.layout.specs.Prints.{print_at, repeats_at}
use Rattle.layout.specs.declared.cursor.Cursor.{Cursor}

-- before the first of the n variants of the segment at `at`
abbrev pub started : ℕ → ℕ → Cursor
started n at = record { count = n; left = n; first = at + 1; at = at + 1; prints = 0; size = 0 }

-- the segment at `at`: 5 where its count is cut off, then 6
unfoldable pub enter_at : List ℕ → ℕ → Outcome Cursor
enter_at s at = after (variants_at s at) λ n. ok (started n at)

-- the next variant: 8 where it repeats one that was passed
unfoldable pub compared_at : List ℕ → Cursor → Outcome (Unit {0})
compared_at s c = demand (not (repeats_at s c.first c.at)) 8 c.at (ok tt)

-- after the next variant, which has that many letters and ends before `next`: one less is left, and its print and its size are added
unfoldable pub past_at : List ℕ → Cursor → ℕ → ℕ → Cursor
past_at s c next letters =
    record {
      count = c.count;
      left = (c.left + 0xffff_ffff_ffff_ffff) % 2 ^ 64;
      first = c.first;
      at = next;
      prints = bit_or c.prints (print_at s c.count c.at);
      size = (c.size + counted letters) % 2 ^ 64;
    }
