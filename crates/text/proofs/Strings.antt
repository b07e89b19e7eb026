-- Laws of the tests on strings: `same` is equality, letter by letter; `prefix`, `suffix` and `inside` are the relations of an
-- occurrence.
use Prim.Native.Nat.{ℕ, ◌+◌, ◌-◌, ◌<◌, ◌≤◌}
use native.Mathlib.Numerals.{add-one}
use native.Mathlib.Omega.{arith}
use mathlib.Core.Path.{◌≡◌, refl, sym, ap, ◌∙◌}
use mathlib.Core.Logic.{⊎_elim}
use mathlib.Core.Bool.{true, false, ◌&&◌, false≢true}
use mathlib.Core.List.{List, [], ◌∷◌, ◌++◌}
use borrow.Author.Tests.{eqb-true, eq-eqb, ne_eqb}
use lib.Dec.{eqb}
use lib.ListN.{length, get_or, take, drop, length-append, length-take, length-drop, take-append-drop, drop_of_length-le}
use lib.Seq.{drop-cons, take_all, take-append_seam, drop_at}
use Rattle.text.specs.Compare.{same, prefix, suffix, inside}
use Rattle.text.specs.Occurrence.{Prefix, Suffix, Inside}
use Rattle.text.proofs.Truth.{or_cases, or_left, or_right, and_left, and_right, not-true-false}

pub same-eq : (s t : List ℕ) → same s t ≡ true → s ≡ t
unfolding same
same-eq [] [] e = refl
same-eq [] (d ∷ t) e = absurd (false≢true e)
same-eq (c ∷ s) [] e = absurd (false≢true e)
same-eq (c ∷ s) (d ∷ t) e =
    let h : c ≡ d = eqb-true c d (and_left (eqb c d) (same s t) e) in
    let k : s ≡ t = same-eq s t (and_right (eqb c d) (same s t) e) in
    cc

pub same_refl : (s : List ℕ) → same s s ≡ true
unfolding same
same_refl [] = refl
same_refl (c ∷ s) = rw (eq-eqb c c refl) (same_refl s)

pub eq-same : (s t : List ℕ) → s ≡ t → same s t ≡ true
eq-same s t e = rw e (same_refl t)

pub same-lengths : (s t : List ℕ) → (length s ≡ length t → ⊥) → same s t ≡ false
same-lengths s t h = not-true-false (same s t) (λ e. h (ap length (same-eq s t e)))

-- from i on, letter by letter
pub same_drop :
    (s t : List ℕ) (i : ℕ) → i < length s → i < length t →
    same (drop i s) (drop i t) ≡ (eqb (get_or s i 0) (get_or t i 0) && same (drop (i + 1) s) (drop (i + 1) t))
unfolding same
same_drop s t i k l = rw (add-one, drop-cons s i 0 k, drop-cons t i 0 l)

-- of two strings of one length the first i letters are equal, and the rest is compared from there
pub record Alike (s t : List ℕ) (i : ℕ) : Type 0 where
  pub even : length s ≡ length t
  pub inside : i ≤ length s
  pub rest : same s t ≡ same (drop i s) (drop i t)

pub alike-none : (s t : List ℕ) → length s ≡ length t → Alike s t 0
alike-none s t e = record { even = e; inside = omega arith; rest = refl }

pub alike-more : (s t : List ℕ) (i : ℕ) → Alike s t i → i < length s → get_or s i 0 ≡ get_or t i 0 → Alike s t (i + 1)
alike-more s t i a l e =
    let k : i < length t = omega arith in
    record { even = a.even; inside = omega arith; rest = a.rest ∙ same_drop s t i l k ∙ rw (eq-eqb _ _ e) }

-- letter i differs
pub alike-stop : (s t : List ℕ) (i : ℕ) → Alike s t i → i < length s → (get_or s i 0 ≡ get_or t i 0 → ⊥) → same s t ≡ false
alike-stop s t i a l h =
    let k : i < length t = omega arith in
    a.rest ∙ same_drop s t i l k ∙ rw (ne_eqb (get_or s i 0) (get_or t i 0) h)

-- no letter differs
pub alike_all : (s t : List ℕ) (i : ℕ) → Alike s t i → length s ≤ i → same s t ≡ true
unfolding same
alike_all s t i a l =
    let k : length t ≤ i = omega arith in
    a.rest ∙ rw (drop_of_length-le s l, drop_of_length-le t k)

-- a string begins and ends with none that is longer
pub prefix-short : (p s : List ℕ) → length s < length p → prefix p s ≡ false
unfolding prefix
prefix-short p s l = same-lengths p (take (length p) s) (λ e. let h : ⊥ = omega (arith, length-take (length p) s) in h)

pub suffix-short : (p s : List ℕ) → length s < length p → suffix p s ≡ false
unfolding suffix
suffix-short p s l =
    same-lengths p (drop (length s - length p) s)
    (λ e. let h : ⊥ = omega (arith, length-drop (length s - length p) s) in h)

-- the tests are the relations of an occurrence
pub prefix-is : (p s : List ℕ) → prefix p s ≡ true → Prefix p s
unfolding prefix
prefix-is p s e =
    let n = length p in
    let h : p ≡ take n s = same-eq p (take n s) e in
    record { rest = drop n s; split = sym (take-append-drop n s) ∙ ap (λ x. x ++ drop n s) (sym h) }

pub is-prefix : (p s : List ℕ) → Prefix p s → prefix p s ≡ true
unfolding prefix
is-prefix p s w = rw (w.split, take-append_seam) (same_refl p)

pub suffix-is : (p s : List ℕ) → suffix p s ≡ true → Suffix p s
unfolding suffix
suffix-is p s e =
    let n = length s - length p in
    let h : p ≡ drop n s = same-eq p (drop n s) e in
    record { start = take n s; split = sym (take-append-drop n s) ∙ ap (λ x. take n s ++ x) (sym h) }

pub is-suffix : (p s : List ℕ) → Suffix p s → suffix p s ≡ true
unfolding suffix
is-suffix p s w =
    let t = w.start in
    let n : length t ≡ length (t ++ p) - length p = omega (arith, length-append t p) in
    rw (w.split, drop_at t p (length (t ++ p) - length p) n) (same_refl p)

pub inside_is : (p s : List ℕ) → inside p s ≡ true → Inside p s
unfolding inside
inside_is p [] e = let h = prefix-is p [] e in record { start = []; rest = h.rest; split = h.split }
inside_is p (c ∷ s) e =
    ⊎_elim
    (λ (h : prefix p (c ∷ s) ≡ true). first (prefix-is p (c ∷ s) h))
    (λ (h : inside p s ≡ true). further (inside_is p s h))
    (or_cases (prefix p (c ∷ s)) (inside p s) e)
  where
    first : Prefix p (c ∷ s) → Inside p (c ∷ s)
    first h = record { start = []; rest = h.rest; split = h.split }

    further : Inside p s → Inside p (c ∷ s)
    further h = record { start = c ∷ h.start; rest = h.rest; split = ap (λ (l : List ℕ). c ∷ l) h.split }

prefix-inside : (p s : List ℕ) → prefix p s ≡ true → inside p s ≡ true
unfolding inside
prefix-inside p [] e = e
prefix-inside p (c ∷ s) e = or_left (prefix p (c ∷ s)) (inside p s) e

inside-behind : (p rest start : List ℕ) → inside p (start ++ (p ++ rest)) ≡ true
unfolding inside
inside-behind p rest [] = prefix-inside p (p ++ rest) (is-prefix p (p ++ rest) (record { rest = rest; split = refl }))
inside-behind p rest (c ∷ start) =
    or_right (prefix p (c ∷ (start ++ (p ++ rest)))) (inside p (start ++ (p ++ rest))) (inside-behind p rest start)

pub is-inside : (p s : List ℕ) → Inside p s → inside p s ≡ true
is-inside p s h = rw h.split (inside-behind p h.rest h.start)

-- the part from a to the end
pub part_end : (s : List ℕ) (a : ℕ) → take (length s - a) (drop a s) ≡ drop a s
part_end s a =
    let h : length (drop a s) ≤ length s - a = omega (arith, length-drop a s) in
    take_all (length s - a) (drop a s) h
