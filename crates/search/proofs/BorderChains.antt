-- The chain of borders: every prefix of the pattern that ends a variant is on it.
use Prim.Native.Nat.{ℕ, ◌-◌, ◌*◌, ◌%◌, ◌^◌, ◌≤◌, ◌<◌}
use native.Mathlib.Decide.{dec_le}
use native.Mathlib.Nat.{le_of_lt}
use native.Mathlib.Omega.{arith}
use mathlib.Core.Path.{◌≡◌}
use mathlib.Core.Logic.{◌↔◌, ◌⊎◌, inl, inr, ⊎_elim, by_cases}
use mathlib.Core.Bool.{Bool}
use mathlib.Core.List.{List}
use lib.Bits.{bit_or}
use lib.ListN.{length, take, get_or}
use Rattle.text.specs.Refusal.{SoundPattern}
use Rattle.text.specs.Occurrence.{Suffix}
use Rattle.search.specs.Border.{Longest, Borders}
use Rattle.search.specs.BorderStep.{Scans, Holds, Begins}
use Rattle.search.proofs.BorderLengths.{longest-below}
use Rattle.search.proofs.BorderHolds.{lone, holds-lone, holds-or, holds-map}

-- r is k or more, and the first r bases end v
abbrev pub EndsFrom : List ℕ → List ℕ → ℕ → ℕ → Type 0
EndsFrom P v k r = (k ≤ r) × Suffix (take r P) v

-- of the lengths up to n the longest is the only one from itself up
from-longest : (P v : List ℕ) (n b r : ℕ) → Longest P v n b → r ≤ n → (b ≡ r) ↔ EndsFrom P v b r
from-longest P v n b r g l = (
  λ (e : b ≡ r). (omega arith, rw e at g.ends),
  λ (x : EndsFrom P v b r). omega (arith, g.most r l x.1),
)

-- the chain has come down to k: the bits are the lengths from k up
pub record Chain (P v : List ℕ) (bits k : ℕ) : Type 0 where
  pub near : k < length P
  pub ends : Suffix (take k P) v
  pub upward : Holds (length P) (EndsFrom P v k) bits

pub chain-none : {P v : List ℕ} {k : ℕ} {whole : Bool} → SoundPattern P → Scans P v k whole → Chain P v (1 * 2 ^ k % 2 ^ 64) k
chain-none {P} {v} {k} sized g =
    let near : k < length P = omega (arith, sized.some, g.ends.within) in
    let only : (r : ℕ) → r < length P → (k ≡ r) ↔ EndsFrom P v k r =
    λ r l. from-longest P v (length P - 1) k r g.ends (let z : r ≤ length P - 1 = omega arith in z) in
    rw (lone k (let z : k < 64 = omega (arith, sized.short) in z)) record {
      near = near;
      ends = g.ends.ends;
      upward = holds-map only (holds-lone k near);
    }

module _ {P v table : List ℕ} {bits k : ℕ} (t : Borders P table) (h : Chain P v bits k) (some : k ≡ 0 → ⊥) where
  pub chain-less : get_or table k 0 < k
  chain-less = omega (arith, (t.border k (le_of_lt h.near)).within)

  -- on to the border of k: no length between them is passed over
  pub chain_more : SoundPattern P → Chain P v (bit_or bits (1 * 2 ^ get_or table k 0 % 2 ^ 64)) (get_or table k 0)
  chain_more sized =
      rw (lone b (let z : b < 64 = omega (arith, near, sized.short) in z)) record {
        near = near;
        ends = g.ends;
        upward = holds-map onward (holds-or h.upward (holds-lone b near));
      }
    where
      b : ℕ
      b = get_or table k 0

      near : b < length P
      near = omega (arith, chain-less, h.near)

      g : Longest P v (k - 1) b
      g = longest-below P v k b (le_of_lt h.near) h.ends (t.border k (le_of_lt h.near))

      onward : (r : ℕ) → r < length P → (EndsFrom P v k r ⊎ (b ≡ r)) ↔ EndsFrom P v b r
      onward r l = (
        ⊎_elim (λ (x : EndsFrom P v k r). (omega (arith, chain-less), x.1)) (λ (e : b ≡ r). (omega arith, rw e at g.ends)),
        λ (x : EndsFrom P v b r).
            by_cases (dec_le k r)
            (λ (u : k ≤ r). inl (u, x.1))
            (λ (u : ¬ (k ≤ r)). inr ((from-longest P v (k - 1) b r g (let z : r ≤ k - 1 = omega arith in z)).1 x)),
      )

-- down to 0: all of them
pub chain-all :
    {P v : List ℕ} {bits k longest : ℕ} {whole : Bool} → Scans P v longest whole → Chain P v bits k → k ≡ 0 → Begins P v bits whole
chain-all {P} {v} {bits} {k} g h e = record { lengths = holds-map every h.upward; end = g.inside }
  where
    every : (r : ℕ) → r < length P → EndsFrom P v k r ↔ Suffix (take r P) v
    every r l = (λ x. x.1, λ x. (omega arith, x))
