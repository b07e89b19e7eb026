-- Laws of kinds of bytes and of names.
use Prim.Native.Nat.{ℕ, ◌≤◌, ◌<◌}
use native.Mathlib.Omega.{arith}
use mathlib.Core.Path.{◌≡◌, refl, ap}
use mathlib.Core.Bool.{Bool, true, false, not, ◌&&◌}
use mathlib.Core.List.{List, [], ◌∷◌}
use borrow.Author.Tests.{eq-eqb, ne_eqb, lt-ltb, le-ltb}
use lib.Dec.{eqb, ltb}
use lib.ListN.{length, get_or}
use Rattle.std.specs.List.{list_all}
use Rattle.text.specs.Letter.{every}
use Rattle.manifest.specs.Kinds.{in_line, of_name, is_name}

-- std's test of every byte is this one
pub all-every : (f : ℕ → Bool) (s : List ℕ) → list_all f s ≡ every f s
unfolding every
all-every f [] = refl
all-every f (c ∷ s) = ap (λ (b : Bool). f c && b) (all-every f s)

-- a line feed is what ends bytes of a line
pub feed-test : (c : ℕ) → eqb c 10 ≡ not (in_line c)
unfolding in_line
feed-test c = go (eqb c 10)
  where
    go : (b : Bool) → b ≡ not (not b)
    go true = refl
    go false = refl

module _ (n : List ℕ) where
  pub name-none : length n ≡ 0 → false ≡ is_name n
  unfolding is_name
  name-none l = let none : length n ≤ 0 = omega arith in rw (le-ltb 0 (length n) none) refl

  module _ (some : length n ≡ 0 → ⊥) where
    there : ltb 0 (length n) ≡ true
    there = let l : 0 < length n = omega arith in lt-ltb 0 (length n) l

    pub name-rooted : get_or n 0 0 ≡ 0x2F → false ≡ is_name n
    unfolding is_name
    name-rooted e = rw (there, eq-eqb (get_or n 0 0) 0x2F e) refl

    pub name-is : (get_or n 0 0 ≡ 0x2F → ⊥) → {b : Bool} → b ≡ every of_name n → b ≡ is_name n
    unfolding is_name
    name-is e {b} h = rw (there, ne_eqb (get_or n 0 0) 0x2F e) h
