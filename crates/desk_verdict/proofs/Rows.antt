-- Laws of rows of marks laid end to end: united, and counted.
use Prim.Native.Nat.{ℕ, suc, ◌+◌, min, max}
use native.Mathlib.Omega.{arith}
use mathlib.Core.Path.{◌≡◌, refl, ap, ◌∙◌}
use mathlib.Core.Bool.{Bool, true, false, cond}
use mathlib.Core.List.{List, [], ◌∷◌, ◌++◌}
use lib.Dec.{eqb}
use lib.ListN.{length, get_or}
use Rattle.search.specs.Either.{united}
use Rattle.lines.specs.Answer.{marked_from}
use Rattle.desk_verdict.specs.Standing.{plus}

pub united-append : (k l m n : List ℕ) → length k ≡ length l → united (k ++ m) (l ++ n) ≡ united k l ++ united m n
unfolding united
united-append [] [] m n e = refl
united-append [] (b ∷ l) m n e = absurd (let z : ⊥ = omega arith in z)
united-append (a ∷ k) [] m n e = absurd (let z : ⊥ = omega arith in z)
united-append (a ∷ k) (b ∷ l) m n e = ap (λ (r : List ℕ). max a b ∷ r) (united-append k l m n (omega arith))

-- how many are marked does not depend on the first number
count-cons : (b : Bool) (i j : ℕ) (k l : List ℕ) → length k ≡ length l → length (cond b (i ∷ k) k) ≡ length (cond b (j ∷ l) l)
count-cons true i j k l e = ap suc e
count-cons false i j k l e = e

pub count-from : (i j : ℕ) (marks : List ℕ) → length (marked_from i marks) ≡ length (marked_from j marks)
unfolding marked_from
count-from i j [] = refl
count-from i j (x ∷ xs) = count-cons (eqb x 1) i j (marked_from (suc i) xs) (marked_from (suc j) xs) (count-from (suc i) (suc j) xs)

count-more : (b : Bool) (i : ℕ) (k m : List ℕ) (n : ℕ) → length m ≡ length k + n → length (cond b (i ∷ m) m) ≡ length (cond b (i ∷ k) k) + n
count-more true i k m n e = omega arith
count-more false i k m n e = e

pub count-append : (i : ℕ) (k l : List ℕ) → length (marked_from i (k ++ l)) ≡ length (marked_from i k) + length (marked_from 0 l)
unfolding marked_from
count-append i [] l = let z : length (marked_from i l) ≡ 0 + length (marked_from 0 l) = omega (arith, count-from i 0 l) in z
count-append i (x ∷ xs) l =
    count-more (eqb x 1) i (marked_from (suc i) xs) (marked_from (suc i) (xs ++ l)) (length (marked_from 0 l)) (count-append (suc i) xs l)

-- what stands after the first row
pub get_or-behind : (k l : List ℕ) (j : ℕ) → get_or (k ++ l) (length k + j) 0 ≡ get_or l j 0
get_or-behind [] l j = let z : 0 + j ≡ j = omega arith in ap (λ (i : ℕ). get_or l i 0) z
get_or-behind (x ∷ k) l j =
    let z : suc (length k) + j ≡ suc (length k + j) = omega arith in
    ap (λ (i : ℕ). get_or (x ∷ (k ++ l)) i 0) z ∙ get_or-behind k l j

-- a sum that stays at the greatest number, of a count that does
cut_sum : (a b most : ℕ) → min (min a most + b) most ≡ min (a + b) most
cut_sum a b most = omega arith

pub plus-cut : (a b : ℕ) → plus (min a 0xffffffffffffffff) b ≡ min (a + b) 0xffffffffffffffff
unfolding plus
plus-cut a b = cut_sum a b 0xffffffffffffffff
