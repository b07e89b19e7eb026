-- What the carried lengths and a fresh start tell of a variant is its step.
use Prim.Native.Nat.{ℕ, ◌%◌}
use mathlib.Core.Path.{◌≡◌}
use mathlib.Core.Logic.{◌↔◌, ◌⊎◌, inl, inr, ⊎_elim}
use mathlib.Core.Bool.{Bool, true, ◌||◌}
use mathlib.Core.List.{List, [], ◌∷◌}
use lib.Bits.{bit_or}
use lib.ListN.{length}
use Rattle.text.specs.Text.{Variant}
use Rattle.text.specs.Bits.{bit}
use Rattle.text.specs.State.{next}
use Rattle.text.proofs.Truth.{same_truth}
use Rattle.text.proofs.Bits.{bit-first, bit-ext}
use Rattle.text.proofs.Steps.{Carries, From, afresh, carrying, CarriedBy, EndsBy, next-lt}
use Rattle.text.proofs.Scan.{one-carried, one_ended}
use Rattle.search.specs.Step.{Steps}
use Rattle.search.specs.BorderStep.{Tells, Among, Begins, CarriesAll}
use Rattle.search.proofs.BorderHolds.{tells-or, tells-map}

-- two tests of one fact
one-test : {a b : Bool} {A : Type 0} → (a ≡ true) ↔ A → (b ≡ true) ↔ A → a ≡ b
one-test {a} {b} f g = same_truth a b (λ e. g.1 (f.0 e)) (λ e. f.1 (g.0 e))

module _ (P : List ℕ) (st : ℕ) (v : Variant) where
  told-steps : {bits : ℕ} {end : Bool} → Tells (length P) (λ r. CarriedBy P st r v) (EndsBy P st v) bits end → Steps P st v bits end
  told-steps {bits} t = record {
    state =
        bit-ext (length P) bits (next P st (v ∷ [])) t.lengths.small (next-lt P st (v ∷ []))
        (λ r l. one-test (t.lengths.is r l) (one-carried P st v r l));
    end = one-test t.end (one_ended P st v);
  }

from-among : {P : List ℕ} {st : ℕ} {B : ℕ → Type 0} (q : ℕ) → Carries P st q → B q → Among st (length P) B
from-among q c b = record { at = q; some = c.some; below = c.short; carried = c.carried; is = b }

module _ {P : List ℕ} {st : ℕ} {A : Type 0} {B : ℕ → Type 0} where
  among-from : Among st (length P) B → From P st A B
  among-from a = carrying a.at (record { some = a.some; short = a.below; carried = a.carried }) a.is

  -- bit 0 is set: what a fresh start and the carried lengths bring about is all
  with-fresh : bit st 0 ≡ true → (Among st (length P) B ⊎ A) ↔ From P st A B
  with-fresh set = (⊎_elim among-from (afresh set), back)
    where
      back : From P st A B → Among st (length P) B ⊎ A
      back (afresh e a) = inr a
      back (carrying q c b) = inl (from-among q c b)

module _ {P : List ℕ} {st : ℕ} {v : Variant} where
  pub steps-begun : {a b : ℕ} {x y : Bool} → st % 2 ≡ 1 → CarriesAll P st (length P) v a x → Begins P v b y
      → Steps P st v (bit_or a b) (x || y)
  steps-begun odd t s =
      let set : bit st 0 ≡ true = rw (bit-first, odd) in
      told-steps P st v (tells-map (λ r l. with-fresh set) (with-fresh set) (tells-or t s))
