-- Answers that are told alike are the same answer.
use mathlib.Core.Path.{◌≡◌, sym, ap, ap₂}
use Rattle.text.specs.Card.{Row}
use Rattle.text.proofs.Outcomes.{refused-ok, refused-inj, ok-inj}
use Rattle.card.specs.Answers.{told_asked}
use Rattle.card.specs.declared.answers.Asked.{Asked}

pub asked-once : (a b : Asked) → told_asked a ≡ told_asked b → a ≡ b
asked-once (Asked.Told s f) (Asked.Told s' f') e =
    let p : s.bits ≡ s'.bits = ap (λ (x : Row). x.exit) (ok-inj e) in
    ap₂ Asked.Told (λ i. record { bits = p i }) (ap (λ (x : Row). x.first) (ok-inj e))
asked-once (Asked.Told s f) (Asked.Refused r) e = absurd (refused-ok r.number r.place _ (sym e))
asked-once (Asked.Refused r) (Asked.Told s f) e = absurd (refused-ok r.number r.place _ e)
asked-once (Asked.Refused r) (Asked.Refused s) e =
    let i = refused-inj e in
    ap Asked.Refused (λ k. record { number = i.0 k; place = i.1 k })
