-- Laws of one sequence taken over one stretch, from what the search tells.
use Prim.Native.Nat.{ℕ}
use mathlib.Core.Path.{◌≡◌, refl, sym, ap, ◌∙◌}
use mathlib.Core.Bool.{Bool, true, false}
use mathlib.Core.List.{List}
use Rattle.std.proofs.Common.{Result}
use Rattle.text.specs.Refusal.{Outcome, ok, after}
use Rattle.text.specs.declared.refusal.Refusal.{Refusal}
use Rattle.text.proofs.Outcomes.{after-after}
use Rattle.layout.specs.Pieces.{most_in_stretch}
use Rattle.text.specs.Refusal.{outcome}
use Rattle.desk_verdict.specs.Standing.{passing, stood, behind}
use Rattle.desk_verdict.specs.First.{halting}
use Rattle.desk_verdict.specs.declared.standing.Standing.{Standing}
use Rattle.desk_verdict.specs.declared.standing.Passed.{Passed}
use Rattle.desk_verdict.specs.declared.first.Stopped.{Stopped}
use Rattle.desk_night.specs.Sweep.{halted, passed, moved}

module _ (P : List ℕ) (x : Standing) (s : List ℕ) {first : Bool} where
  -- to the first end
  pub moved-first : first ≡ true → {r k : Result Stopped Refusal} → outcome r ≡ halting P x s → r ≡ k
      → after (outcome k) (λ h. ok h.standing) ≡ moved first P x s
  unfolding moved halted
  moved-first e met is = ap (λ (o : Outcome Stopped). after o (λ h. ok h.standing)) (sym (ap outcome is) ∙ met) ∙ rw e refl

  -- to all ends
  pub moved-all : first ≡ false → {r k : Result Passed Refusal} {room : ℕ} → room ≡ most_in_stretch
      → outcome r ≡ after (passing P x s room) (λ t. ok (behind P x t)) → r ≡ k → after (outcome k) (λ b. ok b.standing) ≡ moved first P x s
  unfolding moved passed
  moved-all e {room = room} enough met is =
      ap (λ (o : Outcome Passed). after o (λ b. ok b.standing)) (sym (ap outcome is) ∙ met)
      ∙ after-after (passing P x s room) (λ t. ok (behind P x t)) (λ b. ok b.standing)
      ∙ ap (λ (n : ℕ). after (passing P x s n) (λ t. ok (stood P x t))) enough ∙ rw e refl
