-- What a stretch holds so far, in bytes, and what it has room for.
use Rattle.std.specs.Prelude.{ℕ, ◌+◌, ◌-◌, true, false, cond, Option, None, Some, ◌==◌, nat_le}
use Rattle.layout.specs.Bytes.{greatest_stretch}
use Rattle.layout.specs.Sizes.{first_segment, least_segment}
use Rattle.pool_files.specs.declared.held.Held.{Held}

-- no segment: a segment count alone
abbrev pub nothing : Held
nothing = record { bytes = first_segment; running = false }

-- the bytes with which a base more begins: those of the least segment, unless the last segment goes on
unfoldable pub opened : Held → ℕ
opened h = h.bytes + cond h.running 0 least_segment

-- how many bases more there is room for
unfoldable pub room_in : Held → ℕ
room_in h = greatest_stretch - opened h

-- with that many bases more, if there is room for them
unfoldable pub with_bases : Held → ℕ → Option Held
with_bases h n =
    cond (n == 0) (Some h) (cond (nat_le (opened h + n) greatest_stretch) (Some (record { bytes = opened h + n; running = true })) None)

-- with a record's segment of that many bytes, if there is room for it
unfoldable pub with_record : Held → ℕ → Option Held
with_record h n = cond (nat_le (h.bytes + n) greatest_stretch) (Some (record { bytes = h.bytes + n; running = false })) None
