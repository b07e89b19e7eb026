-- Results that are told alike are the same result.
use mathlib.Core.Path.{◌≡◌, sym, ap}
use Rattle.std.specs.Prelude.{Result, Ok, Err}
use Rattle.text.specs.Refusal.{Outcome, refused, outcome}
use Rattle.text.specs.declared.refusal.Refusal.{Refusal}
use Rattle.text.proofs.Outcomes.{refused-ok, refused-inj, ok-inj}

-- a refusal is its number and its place
pub same-refusal :
    {A : Type 0} (r s : Refusal) → ◌≡◌ {A = Outcome A} (refused r.number r.place) (refused s.number s.place) → r ≡ s
same-refusal r s e = let i = refused-inj e in λ k. record { number = i.0 k; place = i.1 k }

pub told-once : {A : Type 0} (a b : Result A Refusal) → outcome a ≡ outcome b → a ≡ b
told-once (Ok x) (Ok y) e = ap Ok (ok-inj e)
told-once (Ok x) (Err r) e = absurd (refused-ok r.number r.place x (sym e))
told-once (Err r) (Ok x) e = absurd (refused-ok r.number r.place x e)
told-once (Err r) (Err s) e = ap Err (same-refusal r s e)
