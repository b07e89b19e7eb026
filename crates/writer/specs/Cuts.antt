-- A list cut into pieces of given lengths, one after another.
use Rattle.std.specs.Prelude.{ℕ, ◌+◌, ◌≤◌, ◌≡◌, List, [], ◌∷◌, length, take, drop}
use Rattle.text.specs.Text.{total}
use Rattle.layout.specs.Bytes.{part}

-- the pieces
unfoldable pub cut : {A : Type 0} → List ℕ → List A → List (List A)
cut [] l = []
cut (n ∷ ns) l = take n l ∷ cut ns (drop n l)

-- the sum of numbers, and of n of them from number k on
abbrev pub sum : List ℕ → ℕ
sum ns = total (λ n. n) ns

abbrev pub sum_from : List ℕ → ℕ → ℕ → ℕ
sum_from ns k n = sum (part ns k n)

-- the n pieces from number k on, where they begin at place `at`
abbrev pub pieces : List ℕ → List ℕ → ℕ → ℕ → ℕ → List (List ℕ)
pieces l ns k at n = cut (part ns k n) (drop at l)

-- those n pieces lie inside a list of `size` members
pub record Within (size : ℕ) (ns : List ℕ) (k at n : ℕ) : Type 0 where
  pub listed : k + n ≤ length ns
  pub inside : at + sum_from ns k n ≤ size

-- so does the one after them, which begins at place `next`
pub record Behind (size : ℕ) (ns : List ℕ) (k at n next : ℕ) : Type 0 where
  pub within : Within size ns k at (n + 1)
  pub begins : next ≡ at + sum_from ns k n
