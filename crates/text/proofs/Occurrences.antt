-- The marks and states of a text are those of Grossi's definition.
use Prim.Native.Nat.{ℕ, suc, ◌<◌, ◌≤◌}
use native.Mathlib.Omega.{arith}
use native.Mathlib.Decide.{dec_lt}
use mathlib.Core.Path.{◌≡◌, refl, sym, ap, ◌∙◌}
use mathlib.Core.Logic.{inl, inr, by_cases, ◌↔◌}
use mathlib.Core.Bool.{true}
use mathlib.Core.List.{List, [], ◌++◌, append-nil}
use borrow.Author.Tests.{eqb-true}
use lib.ListN.{length, take, get_or, length-take, drop_of_length-le}
use lib.Seq.{length-take-le}
use Rattle.text.specs.Text.{Text, segment}
use Rattle.text.specs.Occurrence.{Suffix, Some, Reaches, EndsIn, CarriedOut, between}
use Rattle.text.specs.Bits.{bit}
use Rattle.text.specs.State.{fresh, run, marks}
use Rattle.text.proofs.Bits.{bit-single}
use Rattle.text.proofs.Steps.{From, afresh, carrying}
use Rattle.text.proofs.Runs.{Begun, run_is, is-run}
use Rattle.text.proofs.Marks.{mark-is, is-mark, reach-more, reach-less}

fresh-allows : bit fresh 0 ≡ true
unfolding bit
fresh-allows = refl

-- from the fresh state there is nothing but fresh starts
from-fresh : (P : List ℕ) {A : Type 0} {B : ℕ → Type 0} → From P fresh A B → A
from-fresh P (afresh e a) = a
from-fresh P (carrying q c b) =
    absurd (let e : 0 ≡ q = eqb-true 0 q (sym (bit-single 0 q) ∙ c.carried) in let z : ⊥ = omega (arith, c.some) in z)

-- mark j is 1 exactly when an occurrence ends in segment j
pub marks-ends : (P : List ℕ) (T : Text) (j : ℕ) → 0 < length P → (get_or (marks P T) j 0 ≡ 1) ↔ EndsIn P T j
unfolding marks
marks-ends P T j some = (λ e. from-fresh P (mark-is P fresh T j some e), λ h. is-mark P fresh T j some (afresh fresh-allows h))

nothing-between : (T : Text) (j : ℕ) → between T j (suc j) ≡ []
nothing-between T j =
    drop_of_length-le (take (suc j) T) (let z : length (take (suc j) T) ≤ suc j = omega (arith, length-take (suc j) T) in z)

module _ (w : List ℕ) (T : Text) (j : ℕ) where
  -- what is begun in segment j and reaches its end is a suffix of one of its variants
  last-begun : Reaches w T j (suc j) → Some (segment T j) (Suffix w)
  last-begun h =
      let none : h.rest ≡ [] = rw (nothing-between T j) at h.passed in
      let whole : w ≡ h.start = h.split ∙ ap (λ (l : List ℕ). h.start ++ l) none ∙ append-nil h.start in
      record { variant = h.begun.variant; listed = h.begun.listed; is = rw whole h.begun.is }

  begun-last : 0 < length w → Some (segment T j) (Suffix w) → Reaches w T j (suc j)
  begun-last some h =
      record { start = w; rest = []; split = sym (append-nil w); some = some; begun = h; passed = rw (nothing-between T j) refl }

module _ (P : List ℕ) (T : Text) (j r : ℕ) (some : 0 < r) (short : r < length P) (l : j < length T) where
  all : length (take (suc j) T) ≡ suc j
  all = length-take-le (suc j) T l

  carried-out : Begun P (take (suc j) T) r → CarriedOut P T j r
  carried-out b =
      let i = b.at in
      let within : i < suc j = omega (arith, b.within, all) in
      let h : Reaches (take r P) T i (suc j) = reach-more (take r P) T i (suc j) within (rw all at b.reaches) in
      by_cases (dec_lt i j)
      (λ (k : i < j). inr (i, k, h))
      (λ (k : ¬ (i < j)). let e : i ≡ j = omega arith in inl (last-begun (take r P) T j (rw e at h)))

  begun-from : (i : ℕ) → i < suc j → Reaches (take r P) T i (suc j) → Begun P (take (suc j) T) r
  begun-from i within h = record { at = i; within = omega (arith, all); reaches = rw all (reach-less (take r P) T i (suc j) within h) }

  out-carried : CarriedOut P T j r → Begun P (take (suc j) T) r
  out-carried (inl h) =
      let long : length (take r P) ≡ r = length-take-le r P (let z : r ≤ length P = omega arith in z) in
      begun-from j (omega arith) (begun-last (take r P) T j (omega arith) h)
  out-carried (inr x) = begun-from x.0 (omega (arith, x.1)) x.2

  -- bit r of the state after segment j is set exactly when length r is carried out of it
  pub state-carried : (bit (run P fresh (take (suc j) T)) r ≡ true) ↔ CarriedOut P T j r
  state-carried = (
    λ e. carried-out (from-fresh P (run_is P fresh (take (suc j) T) r some short e)),
    λ h. is-run P fresh (take (suc j) T) r some short (afresh fresh-allows (out-carried h)),
  )
