-- Texts: rows of segments, each a list of variants.
use Rattle.std.specs.Prelude.{ℕ, zero, suc, ◌+◌, List, [], ◌∷◌, length, get_or}

-- a string of letters, perhaps empty
abbrev pub Variant : Type 0
Variant = List ℕ

-- the variants that one place of the text may have
abbrev pub Segment : Type 0
Segment = List Variant

-- a row of segments, perhaps none, numbered from 0
abbrev pub Text : Type 0
Text = List Segment

-- segment j; a number after the last one has no variants
abbrev pub segment : Text → ℕ → Segment
segment T j = get_or T j []

-- the sum of what the members of a list count
unfoldable pub total : {A : Type 0} → (A → ℕ) → List A → ℕ
total f [] = 0
total f (a ∷ l) = f a + total f l

-- what a variant of n letters counts in the size: its letters, and the empty variant as one (document 001)
unfoldable pub counted : ℕ → ℕ
counted zero = 1
counted (suc n) = suc n

-- what a variant counts in the size
unfoldable pub weight : Variant → ℕ
weight s = counted (length s)

-- the number of letters in all variants of a text, the empty variant counted as one
unfoldable pub size : Text → ℕ
size T = total (total weight) T
