-- How bytes are put into a buffer: as many of them as there is room for.
use Rattle.std.specs.Prelude.{ℕ, ◌+◌, ◌-◌, ◌≡◌, List, length, take}
use Rattle.layout.specs.Bytes.{over}

-- those of the bytes xs for which the buffer d has room from place `at` on
abbrev pub fitting : List ℕ → ℕ → List ℕ → List ℕ
fitting d at xs = take (length d - at) xs

-- the buffer d has become `out`: it holds those of the bytes xs from place `at` on, and is as it was elsewhere; `next` is the place
-- after them
pub record Put (d : List ℕ) (at : ℕ) (xs out : List ℕ) (next : ℕ) : Type 0 where
  pub left : out ≡ over d at (fitting d at xs)
  pub place : next ≡ at + length (fitting d at xs)
