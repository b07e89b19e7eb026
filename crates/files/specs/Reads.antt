-- What is known of bytes that were read: they are the first of the buffer that was lent.
use Rattle.std.specs.Prelude.{ℕ, ◌<◌, ◌≤◌, ◌≡◌, List, length}
use denote.Ref.{Bor, MutBor}

-- these bytes begin where the buffer begins, and are no more than it has: a caller has what was read into its own buffer
abbrev pub ReadInto : MutBor (List ℕ) → Bor (List ℕ) → Type 0
ReadInto buffer bytes = (bytes.ref_ptr ≡ buffer.ref_ptr) × (length bytes.now ≤ length buffer.now)

-- a piece that was read into the buffer has a byte at least
abbrev pub PieceInto : MutBor (List ℕ) → Bor (List ℕ) → Type 0
PieceInto buffer piece = (0 < length piece.now) × ReadInto buffer piece
