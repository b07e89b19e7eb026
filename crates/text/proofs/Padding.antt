-- Bytes that are written one by one over 64 zeros.
use Prim.Native.Nat.{ℕ, suc, ◌+◌, ◌-◌, ◌<◌, ◌≤◌}
use native.Mathlib.Numerals.{add-one}
use native.Mathlib.Omega.{arith}
use mathlib.Core.Path.{◌≡◌, refl, sym, ap, ◌∙◌}
use mathlib.Core.List.{List, [], ◌∷◌, ◌++◌}
use lib.ListN.{length, take, drop, get_or, set, replicate}
use lib.Seq.{length-take-le, take-suc, take_all, append_snoc, set_at}
use Rattle.std.proofs.lemmas.List.{drop-replicate}
use Rattle.text.specs.Card.{padded}

-- the first i of the bytes P are written
pub record Padding (P bytes : List ℕ) (i : ℕ) : Type 0 where
  pub inside : i ≤ length P
  pub front : bytes ≡ padded (take i P)

module _ (P : List ℕ) where
  padded-take : (i : ℕ) → i ≤ length P → padded (take i P) ≡ take i P ++ replicate (64 - i) 0
  unfolding padded
  padded-take i l = rw (length-take-le i P l)

  pub padding-none : Padding P (replicate 64 0) 0
  unfolding padded
  padding-none = record { inside = omega arith; front = refl }

  module _ (bytes : List ℕ) (i : ℕ) (h : Padding P bytes i) where
    pub padding-more : (c : ℕ) → c ≡ get_or P i 0 → length P ≤ 64 → i < length P → Padding P (set bytes i c) (i + 1)
    padding-more c e short l =
        let left : 64 - i ≡ suc (64 - suc i) = omega arith in
        let zeros : ◌≡◌ {A = List ℕ} (replicate (64 - i) 0) (0 ∷ replicate (64 - suc i) 0) = rw left in
        let near : i ≤ length P = h.inside in
        record {
          inside = omega arith;
          front =
              ap (λ (b : List ℕ). set b i c) (h.front ∙ padded-take i near ∙ ap (λ (z : List ℕ). take i P ++ z) zeros)
              ∙ set_at (take i P) 0 (replicate (64 - suc i) 0) c i (length-take-le i P near)
              ∙ sym (append_snoc (take i P) c (replicate (64 - suc i) 0))
              ∙ ap (λ (a : ℕ). take i P ++ (a ∷ []) ++ replicate (64 - suc i) 0) e
              ∙ ap (λ (p : List ℕ). p ++ replicate (64 - suc i) 0) (sym (take-suc P i 0 l))
              ∙ sym (rw add-one (padded-take (suc i) l));
        }

    pub padding-all : length P ≤ i → bytes ≡ padded P
    padding-all l = h.front ∙ ap padded (take_all i P l)

  -- the bytes put over the front of the zeros
  pub padding-over : P ++ drop (length P) (replicate 64 0) ≡ padded P
  unfolding padded
  padding-over = rw (drop-replicate {X = ℕ} (length P) 64 0)
