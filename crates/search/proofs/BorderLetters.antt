-- The letters of a variant as the search by borders looks at them: a letter is raised where one bit of it is cleared, and the bases of
-- a pattern, which mean themselves, are compared by what they mean.
use Prim.Native.Nat.{ℕ, zero, suc, ◌-◌, ◌≤◌, ◌<◌}
use native.Mathlib.Omega.{arith}
use mathlib.Core.Path.{◌≡◌, sym, ap, ◌∙◌}
use mathlib.Core.Bool.{Bool, true}
use mathlib.Core.List.{List, [], ◌∷◌}
use lib.Bits.{bit_and}
use lib.ListN.{length, get_or, take, drop}
use Rattle.text.specs.Letter.{base, letter, meant, every}
use Rattle.text.proofs.Truth.{and_left, and_right}
use Rattle.text.proofs.Likes.{meant-length, meant-at, take-meant, drop-meant}
use Rattle.text.proofs.Meanings.{bases-meant, cleared}
use Rattle.text.proofs.Strings.{part_end}
use Rattle.search.specs.Border.{Next}

every-at : (f : ℕ → Bool) (s : List ℕ) (i : ℕ) → every f s ≡ true → i < length s → f (get_or s i 0) ≡ true
unfolding every
every-at f [] i e l = absurd (let z : ⊥ = omega arith in z)
every-at f (c ∷ s) zero e l = and_left (f c) (every f s) e
every-at f (c ∷ s) (suc i) e l = every-at f s i (and_right (f c) (every f s) e) (omega arith)

-- letter i of a variant of letters, as it is handed to a fallback
module _ (v : List ℕ) (i : ℕ) (l : i < length v) where
  pub spelt-inside : i < length (meant v)
  spelt-inside = rw (meant-length v) l

  pub spelt-next : every letter v ≡ true → (P : List ℕ) (k x : ℕ) → Next P k (bit_and (get_or v i 0) 0xDF) x
      → Next P k (get_or (meant v) i 0) x
  spelt-next good P k x n =
      let own : bit_and (get_or v i 0) 0xDF ≡ get_or (meant v) i 0 =
      cleared (get_or v i 0) (every-at letter v i good l) ∙ sym (meant-at v i) in
      rw own at n

-- all of them have been read
pub spelt-read : (v : List ℕ) (i : ℕ) → length v ≤ i → length (meant v) ≤ i
spelt-read v i l = rw (meant-length v) l

-- the first bases of a pattern, and those from q on, mean themselves
module _ (P : List ℕ) (own : every base P ≡ true) where
  pub front-meant : (k : ℕ) → meant (take k P) ≡ take k P
  front-meant k = sym (take-meant k P) ∙ ap (take k) (bases-meant P own)

  pub rest-meant : (q : ℕ) → meant (take (length P - q) (drop q P)) ≡ drop q P
  rest-meant q = ap meant (part_end P q) ∙ sym (drop-meant q P) ∙ ap (drop q) (bases-meant P own)
