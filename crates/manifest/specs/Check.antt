-- What a manifest is, whose digest a line has, and which counts stand in it.
use Rattle.std.specs.Prelude.{ℕ, zero, suc, ◌-◌, Bool, not, cond, List, ◌∷◌, length, take, drop, Result, Ok, Err}
use Rattle.text.specs.Compare.{same, prefix, suffix}
use Rattle.digest.specs.Blake2b.{blake2b256}
use Rattle.manifest.specs.Lines.{entries_of, wrong_from, digest_at}
use Rattle.manifest.specs.Written.{hex_of, head_line, counts_line, digest_line}
use Rattle.manifest.specs.declared.checking.Unsound.{Unsound}

-- the bytes before the last line, which has 74
abbrev pub before_seal : List ℕ → List ℕ
before_seal m = take (length m - 74) m

-- the last line is the digest of the bytes before it
unfoldable pub sealed : List ℕ → Bool
sealed m = same (drop (length m - 74) m) (digest_line (blake2b256 (before_seal m)))

-- right lines, by the number of their stretches
abbrev pub counted : ℕ → Result ℕ Unsound
counted zero = Err Unsound.Empty
counted (suc n) = Ok (suc n)

-- what the lines of a manifest are
unfoldable pub listed_of : List ℕ → Result ℕ Unsound
listed_of m = cond (wrong_from m 0) (Err Unsound.Wrong) (counted (length (entries_of m)))

-- what a manifest is
unfoldable pub checked_of : List ℕ → Result ℕ Unsound
checked_of m = cond (not (prefix head_line m)) (Err Unsound.Foreign) (cond (not (sealed m)) (Err Unsound.Altered) (listed_of m))

-- the line whose name begins at `start` has the digest of this stretch
unfoldable pub vouches : List ℕ → ℕ → List ℕ → Bool
vouches m start stretch = same (digest_at m start) (hex_of (blake2b256 stretch))

-- the last line but one has these counts
unfoldable pub counts_stand : List ℕ → ℕ → ℕ → ℕ → Bool
counts_stand m n s b = suffix (10 ∷ counts_line n s b) (before_seal m)
