-- Tests on strings, by recursion, so that examples compute; and a part of one.
use Rattle.std.specs.Prelude.{ℕ, ◌-◌, Bool, true, false, ◌||◌, ◌&&◌, List, [], ◌∷◌, eqb, length, take, drop}
use Rattle.text.specs.Letter.{meant}

-- the same bytes
unfoldable pub same : List ℕ → List ℕ → Bool
same [] [] = true
same [] (d ∷ t) = false
same (c ∷ s) [] = false
same (c ∷ s) (d ∷ t) = eqb c d && same s t

-- the same letters by what they mean
unfoldable pub alike : List ℕ → List ℕ → Bool
alike s t = same (meant s) (meant t)

-- s begins with p
unfoldable pub prefix : List ℕ → List ℕ → Bool
prefix p s = same p (take (length p) s)

-- s ends with p
unfoldable pub suffix : List ℕ → List ℕ → Bool
suffix p s = same p (drop (length s - length p) s)

-- p lies in s
unfoldable pub inside : List ℕ → List ℕ → Bool
inside p [] = prefix p []
inside p (c ∷ s) = prefix p (c ∷ s) || inside p s

-- the bytes from one place up to another, as far as they are there
abbrev pub from_to : List ℕ → ℕ → ℕ → List ℕ
from_to l start end = take (end - start) (drop start l)
