-- What the crate proves of its calls, by name. By their contracts `Hashing::new` answers `begun`, `over` takes any hash x to
-- `with_bytes x b`, `end` answers `end_of x` of any hash x, and `digest` answers `blake2b256` of the bytes.
use Rattle.std.proofs.Common.{◌≡◌, ℕ, List, [], ◌∷◌, ◌++◌, refl, ap, ◌∙◌}
use mathlib.Core.List.{foldl, flatten}
use Rattle.digest.specs.Blake2b.{blake2b256}
use Rattle.digest.specs.Updating.{begun, with_bytes, end_of}
use Rattle.digest.specs.declared.Hashing.{Hashing}
use Rattle.digest.proofs.Updates
use Rattle.digest.proofs.Standing.{stands-begun, stands-over, ends}

-- a new hash, over these bytes, ends in their digest by RFC 7693
pub whole : (s : List ℕ) → end_of (with_bytes begun s) ≡ blake2b256 s
whole s = ends (with_bytes begun s) s (stands-over begun [] s stands-begun)

-- any hash, over one piece after the other, is the hash over both in one
pub over-over : (x : Hashing) (s b : List ℕ) → with_bytes (with_bytes x s) b ≡ with_bytes x (s ++ b)
over-over = Updates.over-over

-- and so over any number of pieces
pub over-pieces : (x : Hashing) (ps : List (List ℕ)) → foldl with_bytes x ps ≡ with_bytes x (flatten ps)
unfolding with_bytes flatten
over-pieces x [] = refl
over-pieces x (p ∷ ps) = over-pieces (with_bytes x p) ps ∙ over-over x p (flatten ps)

-- a new hash, over pieces one after another, ends in the digest of all their bytes, however they were cut
pub in_pieces : (ps : List (List ℕ)) → end_of (foldl with_bytes begun ps) ≡ blake2b256 (flatten ps)
in_pieces ps = ap end_of (over-pieces begun ps) ∙ whole (flatten ps)
