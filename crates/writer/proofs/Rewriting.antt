-- What was read from a stretch can be given to a write: letters and counts are bytes, lengths are below 65,536.
use Prim.Native.Nat.{ℕ, zero, suc, ◌<◌, ◌≤◌}
use native.Mathlib.Omega.{arith}
use native.Mathlib.Decide.{dec_lt}
use mathlib.Core.Logic.{by_cases}
use mathlib.Core.Path.{◌≡◌, refl, ◌∙◌}
use mathlib.Core.Bool.{Bool, true}
use mathlib.Core.List.{List, [], ◌∷◌, flatten}
use borrow.Author.Tests.{leb-true}
use lib.Dec.{leb}
use lib.ListN.{length, get_or, get_or-map, get_or-eq_default}
use Rattle.text.specs.Letter.{letter, capital, meant, every}
use Rattle.text.proofs.Letters.{every_append}
use Rattle.text.proofs.Meanings.{letter-byte}
use Rattle.text.specs.Text.{Segment, Text, total}
use Rattle.text.proofs.Truth.{and_both, and_left, and_right}
use Rattle.layout.specs.Bytes.{greatest_stretch}
use Rattle.layout.specs.Encoding.{encode, raised_text, all, writable_segment, writable}
use Rattle.writer.specs.Cuts.{sum}
use Rattle.writer.specs.Writing.{needed, letters_of, lengths_of, counts_of}
use Rattle.layout.proofs.Rows.{all_append}
use Rattle.layout.proofs.Encoding.{writable-segment}
use Rattle.writer.proofs.RoundTrips.{apart, letters-of-raised, lengths-of-raised, counts-of-raised}

-- a member of a list of numbers is no more than their sum
member-le : (ns : List ℕ) (k : ℕ) → get_or ns k 0 ≤ sum ns
unfolding total
member-le [] k = omega arith
member-le (n ∷ ns) zero = omega arith
member-le (n ∷ ns) (suc k) = omega (arith, member-le ns k)

-- what holds of every byte holds of each, and of those of several lists in a row
every-at : (f : ℕ → Bool) (s : List ℕ) (k : ℕ) → every f s ≡ true → k < length s → f (get_or s k 0) ≡ true
unfolding every
every-at f [] k e l = absurd (let z : ⊥ = omega arith in z)
every-at f (c ∷ s) zero e l = and_left (f c) (every f s) e
every-at f (c ∷ s) (suc k) e l = every-at f s k (and_right (f c) (every f s) e) (omega arith)

every-flatten : (f : ℕ → Bool) (g : Segment) → all (every f) g ≡ true → every f (flatten g) ≡ true
unfolding every all flatten
every-flatten f [] e = refl
every-flatten f (v ∷ g) e =
    every_append f v (flatten g)
    ∙ and_both _ _ (and_left (every f v) (all (every f) g) e) (every-flatten f g (and_right (every f v) (all (every f) g) e))

writable-letters : (t : Text) → all writable_segment t ≡ true → all (every capital) (flatten t) ≡ true
unfolding all flatten
writable-letters [] w = refl
writable-letters (g ∷ t) w =
    all_append (every capital) g (flatten t)
    ∙ and_both (all (every capital) g) (all (every capital) (flatten t))
    (writable-segment g (and_left (writable_segment g) (all writable_segment t) w)).fresh.letters
    (writable-letters t (and_right (writable_segment g) (all writable_segment t) w))

letters-meant : (s : List ℕ) → every capital (meant s) ≡ true → every letter s ≡ true
unfolding every letter
letters-meant [] e = refl
letters-meant (c ∷ s) e =
    and_both (letter c) (every letter s) (and_left (letter c) (every capital (meant s)) e)
    (letters-meant s (and_right (letter c) (every capital (meant s)) e))

few-variants : (t : Text) → all writable_segment t ≡ true → (k : ℕ) → length (get_or t k []) < 256
unfolding all
few-variants [] w k = omega arith
few-variants (g ∷ t) w zero = omega (arith, (writable-segment g (and_left (writable_segment g) (all writable_segment t) w)).few)
few-variants (g ∷ t) w (suc k) = few-variants t (and_right (writable_segment g) (all writable_segment t) w) k

-- letters, lengths and counts that a call can be given
pub record Typed (letters lengths counts : List ℕ) : Type 0 where
  pub letter : (k : ℕ) → get_or letters k 0 < 256
  pub length : (k : ℕ) → get_or lengths k 0 < 65536
  pub count : (k : ℕ) → get_or counts k 0 < 256

module _ (t : Text) (w : writable t ≡ true) where
  good : all writable_segment t ≡ true
  unfolding writable
  good = and_left (all writable_segment t) (leb (length (encode t)) greatest_stretch) w

  short : length (encode t) ≤ greatest_stretch
  unfolding writable
  short =
      leb-true (length (encode t)) greatest_stretch (and_right (all writable_segment t) (leb (length (encode t)) greatest_stretch) w)

  capital-letters : every capital (letters_of t) ≡ true
  unfolding letters_of
  capital-letters = every-flatten capital (flatten t) (writable-letters t good)

  small-lengths : (k : ℕ) → get_or (lengths_of t) k 0 < 65536
  unfolding needed
  small-lengths k = let a = apart t in omega (arith, member-le (lengths_of t) k, a.matching.spelt, a.size, short)

  small-counts : (k : ℕ) → get_or (counts_of t) k 0 < 256
  unfolding counts_of
  small-counts k = omega (arith, get_or-map {A = Segment} length t k [], few-variants t good k)

-- letters in any case are bytes
small-letters : (l : List ℕ) → every letter l ≡ true → (k : ℕ) → get_or l k 0 < 256
small-letters l e k =
    by_cases (dec_lt k (length l)) (λ (h : k < length l). letter-byte (get_or l k 0) (every-at letter l k e h))
    (λ (h : ¬ (k < length l)).
    let out : length l ≤ k = omega arith in
    omega (arith, get_or-eq_default l 0 out))

-- a text whose raised form can be written
pub apart-typed : (T : Text) → writable (raised_text T) ≡ true → Typed (letters_of T) (lengths_of T) (counts_of T)
apart-typed T w = record {
  letter = small-letters (letters_of T) (letters-meant (letters_of T) (rw (letters-of-raised T) at (capital-letters (raised_text T) w)));
  length = rw (lengths-of-raised T) at (small-lengths (raised_text T) w);
  count = rw (counts-of-raised T) at (small-counts (raised_text T) w);
}
