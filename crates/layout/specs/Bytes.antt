-- Numbers and parts in a list of bytes.
use Rattle.std.specs.Prelude.{ℕ, ◌+◌, ◌*◌, ◌/◌, ◌%◌, cond, List, [], ◌∷◌, ◌++◌, length, take, drop, nat_le, slice_index}
use Rattle.text.specs.Refusal.{Outcome, ok, refused}

-- the greatest stretch or lone segment, in bytes
abbrev pub greatest_stretch : ℕ
greatest_stretch = 32768

-- a number of two bytes at place `at`, low byte first; a byte after the end counts as 0
unfoldable pub word : List ℕ → ℕ → ℕ
word s at = slice_index s at + slice_index s (at + 1) * 256

-- the same where its two bytes are there; else 0
unfoldable pub word_at : List ℕ → ℕ → ℕ
word_at s at = cond (nat_le (at + 2) (length s)) (word s at) 0

-- the two bytes of a number
unfoldable pub word_bytes : ℕ → List ℕ
word_bytes n = n % 256 ∷ n / 256 % 256 ∷ []

-- the n bytes from place `at` on
abbrev pub part : List ℕ → ℕ → ℕ → List ℕ
part s at n = take n (drop at s)

-- d with xs written over it from place `at` on
unfoldable pub over : List ℕ → ℕ → List ℕ → List ℕ
over d at xs = take at d ++ (xs ++ drop (at + length xs) d)

-- the same where xs has room there; else d as it is
unfoldable pub put : List ℕ → ℕ → List ℕ → List ℕ
put d at xs = cond (nat_le (at + length xs) (length d)) (over d at xs) d

-- what a call leaves in the buffer d: the bytes f of its value from the start on; a refused one what was there
abbrev pub left_by : {A : Type 0} → (A → List ℕ) → Outcome A → List ℕ → List ℕ
left_by f (ok a) d = over d 0 (f a)
left_by f (refused n p) d = d
