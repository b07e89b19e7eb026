-- What one variant and one segment make of the rows 1 to m - 1 of a card, each a state that starts from a lone carried length.
use Rattle.std.specs.Prelude.{ℕ, ◌*◌, ◌^◌, ◌<◌, ◌≤◌, min, ◌≡◌, Bool, true, false, not, cond, List, [], ◌∷◌, eqb, length, get_or}
use Rattle.std.specs.Int.Bits.{bit_and, bit_or}
use Rattle.text.specs.Letter.{meant}
use Rattle.text.specs.Text.{Segment}
use Rattle.text.specs.Bits.{bit}
use Rattle.text.specs.State.{next, ends_at, ends}
use Rattle.text.specs.Refusal.{ok}
use Rattle.text.specs.Card.{Row, none, row}
use Rattle.layout.specs.Reading.{Taken, segment_at}
use Rattle.search.specs.Masks.{Masks}
use Rattle.card.specs.Held.{Bases, row_of, exits_of}

-- x has no bit outside `live`
abbrev pub Within : ℕ → ℕ → Type 0
Within x live = (r : ℕ) → bit x r ≡ true → bit live r ≡ true

-- two numbers have a bit in common
unfoldable pub meets : ℕ → ℕ → Bool
meets x y = not (eqb (bit_and x y) 0)

-- carried lengths of a pattern of m bases: none but 1 to m - 1
pub record Lengths (m live : ℕ) : Type 0 where
  pub small : live < 2 ^ m
  pub carried : bit live 0 ≡ false

-- what a pass may rest on: a pattern of 1 to 64 bases with its letter vectors, and carried lengths
pub record Alive (P masks : List ℕ) (live : ℕ) : Type 0 where
  pub bases : Bases (length P)
  pub vectors : Masks P masks
  pub lengths : Lengths (length P) live

-- what a variant with the bytes v makes of every state within `live`: its bits move on by the letters as far as `reached` has them, and an
-- occurrence ends in it exactly where the state meets `finished`. Nothing passes 64 letters.
pub record Moves (P : List ℕ) (live : ℕ) (v : List ℕ) (reached finished : ℕ) : Type 0 where
  pub short : 64 ≤ length v → reached ≡ 0
  pub state : (x : ℕ) → Within x live → next P x (meant v ∷ []) ≡ bit_and (x * 2 ^ length v) reached
  pub end : (x : ℕ) → Within x live → ends_at P x (meant v) ≡ meets x finished

-- each row's state, in rows 1 to m - 1, is within `live`
pub record Covers (m live : ℕ) (exits : List ℕ) : Type 0 where
  pub each : (q : ℕ) → 0 < q → q < m → Within (get_or exits q 0) live

-- every row's next state has what n letters make of its state, as far as `reached` lets it pass
pub record Spread (m n reached : ℕ) (exits old new : List ℕ) : Type 0 where
  pub full : length new ≡ 64
  pub each : (q : ℕ) → 0 < q → q < m → get_or new q 0 ≡ bit_or (get_or old q 0) (bit_and (get_or exits q 0 * 2 ^ n) reached)

-- every row's next state has what a variant with the bytes v makes of its state, and `finished` tells which states end an occurrence in
-- it
pub record VariantOver (P : List ℕ) (live : ℕ) (v exits old new : List ℕ) (finished : ℕ) : Type 0 where
  pub full : length new ≡ 64
  pub each : (q : ℕ) → 0 < q → q < length P → get_or new q 0 ≡ bit_or (get_or old q 0) (next P (get_or exits q 0) (meant v ∷ []))
  pub end : (x : ℕ) → Within x live → ends_at P x (meant v) ≡ meets x finished

-- a row after segment k: its next state, and k as its first end where it had none and an occurrence ends there
abbrev pub row_after : ℕ → ℕ → Bool → Row → Row
row_after k state ended r = row_of state (min r.first (cond ended k none))

-- segment k was passed: every row has its next state, and those whose state met `finished` ended; rows from m up stay, and `live` is the
-- union of the next states
pub record Settled (m finished k : ℕ) (new : List ℕ) (rows rows' : List Row) (live : ℕ) : Type 0 where
  pub each : (q : ℕ) → 0 < q → q < m → row rows' q ≡ row_after k (get_or new q 0) (meets (row rows q).exit finished) (row rows q)
  pub kept : (q : ℕ) → m ≤ q → row rows' q ≡ row rows q
  pub all : (q : ℕ) → 0 < q → q < m → Within (get_or new q 0) live
  pub least : (y : ℕ) → ((q : ℕ) → 0 < q → q < m → Within (get_or new q 0) y) → Within live y

-- a row, and segment g with the number k after it
abbrev pub row_over : List ℕ → Segment → ℕ → Row → Row
row_over P g k r = row_after k (next P r.exit g) (ends P r.exit g) r

-- the rows 1 to m - 1 have gone over the segment at `at`, with the number k, up to the place after it, and their states are within
-- `live`; rows from m up stay
pub record SegmentOver (P s : List ℕ) (at k : ℕ) (rows rows' : List Row) (live behind : ℕ) : Type 0 where
  pub place : (x : Taken Segment ℕ) → segment_at s at ≡ ok x → behind ≡ x.next
  pub each : (x : Taken Segment ℕ) → segment_at s at ≡ ok x
      → (q : ℕ) → 0 < q → q < length P → row rows' q ≡ row_over P x.value k (row rows q)
  pub kept : (q : ℕ) → length P ≤ q → row rows' q ≡ row rows q
  pub covers : Covers (length P) live (exits_of rows')
  pub lengths : Lengths (length P) live
