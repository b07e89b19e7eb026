-- Answers that are told alike are the same answer.
use Prim.Native.Nat.{ℕ}
use native.Mathlib.Omega.{arith}
use mathlib.Core.Path.{◌≡◌, refl, sym, ap, ap₂}
use Rattle.text.specs.Refusal.{Outcome, refused}
use Rattle.text.specs.declared.refusal.Refusal.{Refusal}
use Rattle.text.proofs.Outcomes.{refused-ok, refused-inj, ok-inj}
use Rattle.watch.specs.Watching.{seen, clear, told_found, told_listed}
use Rattle.watch.specs.declared.answers.Found.{Found}
use Rattle.watch.specs.declared.answers.Listed.{Listed}

same-refusal : {A : Type 0} (r s : Refusal) → ◌≡◌ {A = Outcome A} (refused r.number r.place) (refused s.number s.place) → r ≡ s
same-refusal r s e = let i = refused-inj e in λ k. record { number = i.0 k; place = i.1 k }

-- a record that is seen is told by its label and its segment
pub seen-inj : {a b c d : ℕ} → seen a b ≡ seen c d → (a ≡ c) × (b ≡ d)
seen-inj e = (cc, cc)

pub clear-seen : {a b : ℕ} → clear ≡ seen a b → ⊥
clear-seen e = let z : ◌≡◌ {A = ℕ} 0 1 = cc in omega (arith, z)

pub found-once : (a b : Found) → told_found a ≡ told_found b → a ≡ b
found-once (Found.Ends l k) (Found.Ends m n) e = let p = seen-inj (ok-inj e) in ap₂ Found.Ends p.0 p.1
found-once (Found.Ends l k) Found.None e = absurd (clear-seen (sym (ok-inj e)))
found-once (Found.Ends l k) (Found.Refused r) e = absurd (refused-ok r.number r.place _ (sym e))
found-once Found.None (Found.Ends l k) e = absurd (clear-seen (ok-inj e))
found-once Found.None Found.None e = refl
found-once Found.None (Found.Refused r) e = absurd (refused-ok r.number r.place _ (sym e))
found-once (Found.Refused r) (Found.Ends l k) e = absurd (refused-ok r.number r.place _ e)
found-once (Found.Refused r) Found.None e = absurd (refused-ok r.number r.place _ e)
found-once (Found.Refused r) (Found.Refused s) e = ap Found.Refused (same-refusal r s e)

pub listed-once : (a b : Listed) → told_listed a ≡ told_listed b → a ≡ b
listed-once Listed.Marked Listed.Marked e = refl
listed-once Listed.Marked (Listed.Refused r) e = absurd (refused-ok r.number r.place _ (sym e))
listed-once (Listed.Refused r) Listed.Marked e = absurd (refused-ok r.number r.place _ e)
listed-once (Listed.Refused r) (Listed.Refused s) e = ap Listed.Refused (same-refusal r s e)
