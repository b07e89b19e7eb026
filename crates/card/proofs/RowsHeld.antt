-- Laws of rows as they are held: from exits and first ends, and back.
use Prim.Native.Nat.{ℕ, zero, suc, ◌<◌}
use native.Mathlib.Omega.{arith}
use native.Mathlib.Nat.{le_of_suc-le-suc}
use mathlib.Core.Path.{◌≡◌, refl, ap, ◌∙◌}
use mathlib.Core.List.{List, [], ◌∷◌}
use lib.ListN.{length, get_or, set, length-set, get_or-map}
use Rattle.text.specs.Refusal.{greatest_pattern}
use Rattle.text.specs.Card.{Row, dead, row}
use Rattle.card.specs.Held.{row_of, rows_in, exits_of, firsts_of, Full}

rows_long : (es fs : List ℕ) → length es ≡ length fs → length (rows_in es fs) ≡ length es
unfolding rows_in
rows_long [] fs l = refl
rows_long (e ∷ es) [] l = absurd (let z : ⊥ = omega arith in z)
rows_long (e ∷ es) (f ∷ fs) l = ap suc (rows_long es fs (omega arith))

row_in : (es fs : List ℕ) (q : ℕ) → q < length es → length es ≡ length fs
    → row (rows_in es fs) q ≡ row_of (get_or es q 0) (get_or fs q 0)
unfolding rows_in
row_in [] fs q k l = absurd (let z : ⊥ = omega arith in z)
row_in (e ∷ es) [] q k l = absurd (let z : ⊥ = omega arith in z)
row_in (e ∷ es) (f ∷ fs) zero k l = refl
row_in (e ∷ es) (f ∷ fs) (suc q) k l = row_in es fs q (le_of_suc-le-suc k) (omega arith)

-- a row's exit
pub exits-row : (rows : List Row) (q : ℕ) → get_or (exits_of rows) q 0 ≡ (row rows q).exit
exits-row rows q = get_or-map (λ (r : Row). r.exit) rows q dead

-- a row is written as its two numbers
pub rows-set : (es fs : List ℕ) (q e f : ℕ) → length es ≡ length fs
    → rows_in (set es q e) (set fs q f) ≡ set (rows_in es fs) q (row_of e f)
unfolding rows_in
rows-set [] fs q e f l = refl
rows-set (x ∷ es) [] q e f l = absurd (let z : ⊥ = omega arith in z)
rows-set (x ∷ es) (y ∷ fs) zero e f l = refl
rows-set (x ∷ es) (y ∷ fs) (suc q) e f l = ap (λ (rows : List Row). row_of x y ∷ rows) (rows-set es fs q e f (omega arith))

pub exits-in : (es fs : List ℕ) → length es ≡ length fs → exits_of (rows_in es fs) ≡ es
unfolding rows_in
exits-in [] fs l = refl
exits-in (e ∷ es) [] l = absurd (let z : ⊥ = omega arith in z)
exits-in (e ∷ es) (f ∷ fs) l = ap (λ (es : List ℕ). e ∷ es) (exits-in es fs (omega arith))

pub firsts-in : (es fs : List ℕ) → length es ≡ length fs → firsts_of (rows_in es fs) ≡ fs
unfolding rows_in
firsts-in [] [] l = refl
firsts-in [] (f ∷ fs) l = absurd (let z : ⊥ = omega arith in z)
firsts-in (e ∷ es) [] l = absurd (let z : ⊥ = omega arith in z)
firsts-in (e ∷ es) (f ∷ fs) l = ap (λ (fs : List ℕ). f ∷ fs) (firsts-in es fs (omega arith))

pub rows_out : (rows : List Row) → rows_in (exits_of rows) (firsts_of rows) ≡ rows
unfolding rows_in
rows_out [] = refl
rows_out (r ∷ rows) = ap (λ (rest : List Row). r ∷ rest) (rows_out rows)

-- 64 exits and 64 first ends
module _ {es fs : List ℕ} (full : Full es fs) where
  pub even : length es ≡ length fs
  even = omega arith

  pub full-set : (q e f : ℕ) → Full (set es q e) (set fs q f)
  full-set q e f = record { states = length-set es q e ∙ full.states; ends = length-set fs q f ∙ full.ends }

  pub rows-length : length (rows_in es fs) ≡ greatest_pattern
  rows-length = rows_long es fs even ∙ full.states

  pub rows_row : (q : ℕ) → q < greatest_pattern → row (rows_in es fs) q ≡ row_of (get_or es q 0) (get_or fs q 0)
  rows_row q l = row_in es fs q (omega arith) even
