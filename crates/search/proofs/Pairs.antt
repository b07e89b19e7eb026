-- A word for each strand: the letter vectors of both in one table, and the sweep that reads it.
use Prim.Native.Nat.{ℕ, zero, suc, ◌+◌, ◌*◌, ◌/◌, ◌≤◌, ◌<◌}
use native.Mathlib.Decide.{ℕ_discrete}
use native.Mathlib.Omega.{arith}
use mathlib.Core.Path.{◌≡◌, refl, ap, ◌∙◌}
use mathlib.Core.Logic.{by_cases}
use mathlib.Core.List.{List, [], ◌∷◌, ◌++◌}
use lib.Bits.{bit_and}
use lib.ListN.{length, get_or, drop, set, replicate, length-drop, length-set, length-replicate}
use lib.Seq.{get_or-drop, get_or-set_same, get_or-set_other}
use Rattle.search.specs.Masks.{Others, StateOf, Ready}
use Rattle.search.specs.Words.{Turned}
use Rattle.search.specs.Either.{evens, odds, Vectors}
use Rattle.layout.specs.Reading.{value_of}
use Rattle.layout.specs.declared.cursor.Cursor.{Cursor}
use Rattle.layout.proofs.Walking.{Walking}
use Rattle.search.proofs.Words.{Sweeping, sweeping-more}

double : (c : ℕ) → 2 * suc c ≡ suc (suc (2 * c))
double c = omega arith

pub evens_at : (l : List ℕ) (c : ℕ) → get_or (evens l) c 0 ≡ get_or l (2 * c) 0
unfolding evens
evens_at [] c = refl
evens_at (a ∷ []) zero = refl
evens_at (a ∷ []) (suc c) = rw double
evens_at (a ∷ (b ∷ l)) zero = refl
evens_at (a ∷ (b ∷ l)) (suc c) = rw double (evens_at l c)

pub odds-at : (l : List ℕ) (c : ℕ) → get_or (odds l) c 0 ≡ get_or l (2 * c + 1) 0
unfolding odds
odds-at l c =
    let one : 1 + 2 * c ≡ 2 * c + 1 = omega arith in
    evens_at (drop 1 l) c ∙ get_or-drop 1 l (2 * c) 0 ∙ ap (λ (n : ℕ). get_or l n 0) one

evens-length : (l : List ℕ) → length (evens l) ≡ (length l + 1) / 2
unfolding evens
evens-length [] = refl
evens-length (a ∷ []) = refl
evens-length (a ∷ (b ∷ l)) = let less : length (evens l) ≡ (length l + 1) / 2 = evens-length l in omega arith

-- the first c letter vectors of the two strands stand side by side
pub record Laid (one other table : List ℕ) (c : ℕ) : Type 0 where
  pub most : c ≤ 256
  pub full : length table ≡ 512
  pub evens : (k : ℕ) → k < c → get_or table (2 * k) 0 ≡ get_or one k 0
  pub odds : (k : ℕ) → k < c → get_or table (2 * k + 1) 0 ≡ get_or other k 0

pub laid_none : (one other : List ℕ) → Laid one other (replicate 512 0) 0
laid_none one other = record {
  most = omega arith;
  full = length-replicate {A = ℕ} 512 0;
  evens = λ k l. absurd (let z : ⊥ = omega arith in z);
  odds = λ k l. absurd (let z : ⊥ = omega arith in z);
}

-- the vectors of the byte c
pub laid_more : (one other table : List ℕ) (c x y : ℕ) → Laid one other table c → c < 256 → x ≡ get_or one c 0 → y ≡ get_or other c 0
    → Laid one other (set (set table (2 * c) x) (2 * c + 1) y) (c + 1)
laid_more one other table c x y t l is are = record {
  most = omega arith;
  full = length-set first (2 * c + 1) y ∙ length-set table (2 * c) x ∙ t.full;
  evens = λ k h. by_cases (ℕ_discrete k c) (even-here k) (even-before k h);
  odds = λ k h. by_cases (ℕ_discrete k c) (odd-here k) (odd-before k h);
}
  where
    first : List ℕ
    first = set table (2 * c) x

    whole : length first ≡ 512
    whole = length-set table (2 * c) x ∙ t.full

    even-here : (k : ℕ) → k ≡ c → get_or (set first (2 * c + 1) y) (2 * k) 0 ≡ get_or one k 0
    even-here k e =
        let inside : 2 * c < length table = omega (arith, t.full) in
        let apart : 2 * c ≡ 2 * c + 1 → ⊥ = λ (f : 2 * c ≡ 2 * c + 1). omega arith in
        rw e (get_or-set_other first (2 * c + 1) (2 * c) y 0 apart ∙ get_or-set_same table (2 * c) x 0 inside ∙ is)

    even-before : (k : ℕ) → k < c + 1 → ¬ (k ≡ c) → get_or (set first (2 * c + 1) y) (2 * k) 0 ≡ get_or one k 0
    even-before k h other =
        let before : k < c = omega arith in
        let apart : 2 * k ≡ 2 * c + 1 → ⊥ = λ (f : 2 * k ≡ 2 * c + 1). omega arith in
        let away : 2 * k ≡ 2 * c → ⊥ = λ (f : 2 * k ≡ 2 * c). omega arith in
        get_or-set_other first (2 * c + 1) (2 * k) y 0 apart ∙ get_or-set_other table (2 * c) (2 * k) x 0 away ∙ t.evens k before

    odd-here : (k : ℕ) → k ≡ c → get_or (set first (2 * c + 1) y) (2 * k + 1) 0 ≡ get_or other k 0
    odd-here k e =
        let inside : 2 * c + 1 < length first = omega (arith, whole) in
        rw e (get_or-set_same first (2 * c + 1) y 0 inside ∙ are)

    odd-before : (k : ℕ) → k < c + 1 → ¬ (k ≡ c) → get_or (set first (2 * c + 1) y) (2 * k + 1) 0 ≡ get_or other k 0
    odd-before k h other =
        let before : k < c = omega arith in
        let apart : 2 * k + 1 ≡ 2 * c + 1 → ⊥ = λ (f : 2 * k + 1 ≡ 2 * c + 1). omega arith in
        let away : 2 * k + 1 ≡ 2 * c → ⊥ = λ (f : 2 * k + 1 ≡ 2 * c). omega arith in
        get_or-set_other first (2 * c + 1) (2 * k + 1) y 0 apart ∙ get_or-set_other table (2 * c) (2 * k + 1) x 0 away ∙ t.odds k before

-- all of them
pub laid-all : (P Q one other table : List ℕ) (c : ℕ) → Laid one other table c → 256 ≤ c → Others P one → Others Q other
    → Others P (evens table) × Others Q (odds table)
unfolding odds
laid-all P Q one other table c t l p q = (
  record {
    full = omega (arith, evens-length table, t.full);
    each = λ k h. let z : k < c = omega arith in evens_at table k ∙ t.evens k z ∙ p.each k h;
  },
  record {
    full = omega (arith, evens-length (drop 1 table), length-drop 1 table, t.full);
    each = λ k h. let z : k < c = omega arith in odds-at table k ∙ t.odds k z ∙ q.each k h;
  },
)

-- what a sweep on one strand rests on
pub ready : (P masks classes : List ℕ) (st : ℕ) → Vectors P masks classes × StateOf P st → Ready P masks classes st
ready P masks classes st (t, y) =
    record { some = t.founded.some; short = t.founded.short; vectors = t.founded.holds; letters = t.letters; state = y }

-- a variant more, with the words as they were united
pub sweeping-on : {P : List ℕ} {st : ℕ} {s : List ℕ} {from : ℕ} {c d : Cursor} {out missed : ℕ} (t : Sweeping P st s from c out missed)
    → Walking s from (t.seen ++ (value_of s c.at ∷ [])) d → {reached met : ℕ}
    → Turned P st (value_of s c.at ∷ []) missed reached met → {words : ℕ} → words ≡ bit_and out reached → Sweeping P st s from d words met
sweeping-on t w turned is = rw is (sweeping-more t w turned)
