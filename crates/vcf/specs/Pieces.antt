-- Bytes cut at marks: a file into lines, a line into fields, a field into alleles.
use Rattle.std.specs.Prelude.{ℕ, ◌+◌, ◌≤◌, max, ◌≡◌, Bool, not, cond, List, [], ◌∷◌, eqb, ltb, length, drop}
use Rattle.text.specs.Letter.{first_not}

-- one byte more at the front of the first piece
abbrev pub onto : ℕ → List (List ℕ) → List (List ℕ)
onto x [] = (x ∷ []) ∷ []
onto x (p ∷ ps) = (x ∷ p) ∷ ps

-- s cut at each byte c, which goes; `end` is what comes after the last one where nothing is left
unfoldable pub cut_at : ℕ → List (List ℕ) → List ℕ → List (List ℕ)
cut_at c end [] = end
cut_at c end (x ∷ s) = cond (eqb x c) ([] ∷ cut_at c end s) (onto x (cut_at c end s))

-- the pieces between bytes c: one more than there are such bytes
abbrev pub pieces : ℕ → List ℕ → List (List ℕ)
pieces c s = cut_at c ([] ∷ []) s

-- the lines: each ends with a line feed, which the last may lack
abbrev pub lines : List ℕ → List (List ℕ)
lines s = cut_at 0x0A [] s

-- any byte but c
abbrev pub other : ℕ → ℕ → Bool
other c x = not (eqb x c)

-- the place of the first byte c from place `from` on; the length where there is none, and `from` where it lies after the list
unfoldable pub end_of : ℕ → List ℕ → ℕ → ℕ
end_of c s from = from + first_not (other c) (drop from s)

-- a place in the list, not before `from`, before which there is no byte c from `from` on
pub record Skips (c : ℕ) (s : List ℕ) (from at : ℕ) : Type 0 where
  pub rest : end_of c s from ≡ end_of c s at
  pub behind : from ≤ at
  pub inside : at ≤ length s

-- that place, which lies after `from`, and in the list if `from` does
pub record Ends (c : ℕ) (s : List ℕ) (from end : ℕ) : Type 0 where
  pub is : end ≡ end_of c s from
  pub behind : from ≤ end
  pub inside : end ≤ max from (length s)

-- the place after a line that ends at `end`
unfoldable pub next_line : List ℕ → ℕ → ℕ
next_line s end = cond (ltb end (length s)) (end + 1) end
