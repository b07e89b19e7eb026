-- Laws of what is asked of a pattern: when it is sound, when it is refused, and what then becomes of a call.
use Prim.Native.Nat.{ℕ, ◌<◌, ◌≤◌}
use native.Mathlib.Omega.{arith}
use mathlib.Core.Path.{◌≡◌, sym, ◌∙◌}
use mathlib.Core.Bool.{Bool, true, false, not}
use mathlib.Core.List.{List}
use borrow.Author.Tests.{ltb-true, leb-true, lt-ltb, le-leb, lt-leb, not-true, not-false}
use lib.ListN.{length}
use Rattle.text.specs.Letter.{base, every, first_not}
use Rattle.text.specs.Refusal.{Outcome, ok, refused, after, pattern, SoundPattern}
use Rattle.text.proofs.Outcomes.{demand-met, after-demand}

module _ (P : List ℕ) where
  -- what is asked of a pattern is asked first
  pub pattern-after : {A : Type 0} (o : Outcome A) → pattern P o ≡ after (pattern P (ok (tt {0}))) (λ _. o)
  unfolding pattern
  pattern-after o = simp after-demand

  pub pattern-sound : pattern P (ok (tt {0})) ≡ ok tt → SoundPattern P
  unfolding pattern
  pattern-sound e =
      let a = demand-met _ 1 0 _ tt e in
      let b = demand-met _ 2 0 _ tt a.1 in
      let c = demand-met _ 3 (first_not base P) _ tt b.1 in
      record { some = ltb-true 0 (length P) a.0; short = leb-true (length P) 64 b.0; bases = c.0 }

  pub sound-pattern : SoundPattern P → {A : Type 0} (o : Outcome A) → pattern P o ≡ o
  unfolding pattern
  sound-pattern s o = rw (lt-ltb 0 (length P) s.some, le-leb (length P) 64 s.short, s.bases)

  -- a refusal stays, whatever was to follow
  pub pattern-refused :
      (n p : ℕ) → pattern P (ok (tt {0})) ≡ refused n p → {A : Type 0} (o : Outcome A) → pattern P o ≡ refused n p
  pattern-refused n p e o = pattern-after o ∙ rw e

  -- the three refusals, in their order, and what is left
  pub pattern-empty : {A : Type 0} (o : Outcome A) → length P ≡ 0 → pattern P o ≡ refused 1 0
  unfolding pattern
  pattern-empty o e = rw e

  pub pattern-long : {A : Type 0} (o : Outcome A) → 64 < length P → pattern P o ≡ refused 2 0
  unfolding pattern
  pattern-long o l =
      let k : 0 < length P = omega arith in
      rw (lt-ltb 0 (length P) k, lt-leb (length P) 64 l)

  module _ (some : length P ≡ 0 → ⊥) (short : length P ≤ 64) {wrong : Bool} (e : wrong ≡ not (every base P)) where
    pub pattern-byte : {A : Type 0} (o : Outcome A) (k : ℕ) → k ≡ first_not base P → wrong ≡ true → pattern P o ≡ refused 3 k
    unfolding pattern
    pattern-byte o k is w =
        let l : 0 < length P = omega arith in
        let bad : every base P ≡ false = not-true _ (sym e ∙ w) in
        rw (lt-ltb 0 (length P) l, le-leb (length P) 64 short, bad, is)

    pub bases-sound : wrong ≡ false → SoundPattern P
    bases-sound w = record { some = omega arith; short = short; bases = not-false _ (sym e ∙ w) }
