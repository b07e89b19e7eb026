-- Building the border table, entry by entry.
use Prim.Native.Nat.{ℕ, suc, ◌+◌, ◌-◌, ◌≤◌, ◌<◌}
use native.Mathlib.Decide.{dec_le}
use native.Mathlib.Numerals.{add-one}
use native.Mathlib.Omega.{arith}
use mathlib.Core.Path.{◌≡◌, ◌∙◌}
use mathlib.Core.Logic.{by_cases}
use mathlib.Core.List.{List}
use lib.ListN.{length, take, get_or, set, replicate, length-set, length-replicate, get_or-replicate}
use lib.Seq.{take-suc, get_or-set_same, get_or-set_other}
use Rattle.text.specs.Refusal.{SoundPattern}
use Rattle.search.specs.Border.{Border, Next, Filled, Borders, Matched}
use Rattle.search.proofs.BorderStrings.{suffix-none}
use Rattle.search.proofs.BorderLengths.{grow}

pub filled-below : {P table : List ℕ} {n : ℕ} (k : ℕ) → k ≤ n → Filled P table n → Filled P table k
filled-below {P} {table} {n} k l f = record { border = λ j h. f.border j (let z : j ≤ n = omega arith in z) }

module _ (P : List ℕ) where
  -- no bases and one base have the border 0
  border-first : (k : ℕ) → k ≤ 1 → Border P k 0
  border-first k l = record { within = omega arith; ends = suffix-none P (take k P); most = λ r h x. omega arith }

  filled-first : (n : ℕ) → 1 < n → Filled P (replicate n 0) 1
  filled-first n l =
      record { border = λ k h. rw (get_or-replicate {A = ℕ} n k 0 0 (let z : k < n = omega arith in z)) (border-first k h) }

  -- one base more has the border that a fallback from the last one finds
  border-more : (i k x : ℕ) → 0 < i → i < length P → Border P i k → Next P k (get_or P i 0) x → Border P (suc i) x
  border-more i k x some l b w =
      let n : suc (i - 1) ≡ suc i - 1 = omega arith in
      let near : i - 1 < length P = omega arith in
      rw (take-suc P i 0 l, ← n) (grow P (take i P) (i - 1) k (get_or P i 0) x near b w)

  filled_more :
      (table : List ℕ) (i x : ℕ) → suc i < length table → Filled P table i → Border P (suc i) x →
      Filled P (set table (suc i) x) (suc i)
  filled_more table i x room f b = record { border = entry }
    where
      entry : (k : ℕ) → k ≤ suc i → Border P k (get_or (set table (suc i) x) k 0)
      entry k h =
          by_cases (dec_le k i)
          (λ (l : k ≤ i). rw (get_or-set_other table (suc i) k x 0 (let z : k ≡ suc i → ⊥ = omega arith in z)) (f.border k l))
          (λ (l : ¬ (k ≤ i)). let e : k ≡ suc i = omega arith in rw (e, get_or-set_same table (suc i) x 0 room) b)

-- the entries up to i stand, and the last one is k
pub record Building (P table : List ℕ) (k i : ℕ) : Type 0 where
  pub some : 0 < i
  pub within : i ≤ length P
  pub room : length table ≡ 256
  pub filled : Filled P table i
  pub last : Border P i k

pub building-none : {P : List ℕ} → SoundPattern P → Building P (replicate 256 0) 0 1
building-none {P} sized = record {
  some = omega arith;
  within = sized.some;
  room = length-replicate {A = ℕ} 256 0;
  filled = filled-first P 256 (omega arith);
  last = border-first P 1 (omega arith);
}

module _ {P table : List ℕ} {k i : ℕ} (b : Building P table k i) where
  -- a fallback may start from the last border
  pub building-matched : SoundPattern P → i < length P → Matched P table k
  building-matched sized l = record {
    near = omega (arith, b.last.within);
    short = sized.short;
    filled = filled-below k (let z : k ≤ i = omega (arith, b.last.within) in z) b.filled;
  }

  -- one entry more
  pub building-more : {x : ℕ} → SoundPattern P → i < length P → Next P k (get_or P i 0) x → Building P (set table (i + 1) x) x (i + 1)
  building-more {x} sized l w =
      let border = border-more P i k x b.some l b.last w in
      let room : suc i < length table = omega (arith, b.room, sized.short) in
      rw add-one record {
        some = omega arith;
        within = l;
        room = length-set table (suc i) x ∙ b.room;
        filled = filled_more P table i x room b.filled border;
        last = border;
      }

  -- all of them
  pub building-all : length P ≤ i → Borders P table
  building-all l = filled-below (length P) l b.filled
