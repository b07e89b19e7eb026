-- A word compared with a name, byte by byte as it comes.
use Rattle.std.specs.Prelude.{ℕ, suc, cond, List, [], ◌∷◌, length, ◌==◌, nat_lt, slice_index}

-- the word differs from the name
abbrev pub other : ℕ
other = 18446744073709551615

-- one byte more of a word, k bytes of which are the name's first
unfoldable pub go_on : List ℕ → ℕ → ℕ → ℕ
go_on name k b = cond (nat_lt k (length name)) (cond (slice_index name k == b) (suc k) other) other

-- the bytes of a word more
unfoldable pub word_from : List ℕ → ℕ → List ℕ → ℕ
word_from name k [] = k
word_from name k (b ∷ w) = word_from name (go_on name k b) w
