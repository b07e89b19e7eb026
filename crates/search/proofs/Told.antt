-- Answers that are told alike are the same answer.
use mathlib.Core.Path.{◌≡◌, sym, ap, ap₂}
use Rattle.text.proofs.Told.{same-refusal}
use Rattle.text.proofs.Outcomes.{refused-ok, ok-inj}
use Rattle.search.specs.Answers.{Next, told_fed, Seen, told_sought}
use Rattle.search.specs.Answers.{Sums, told_searched}
use Rattle.search.specs.Either.{SeenBoth, told_both}
use Rattle.search.specs.declared.state.Fed.{Fed}
use Rattle.search.specs.declared.state.Sought.{Sought}
use Rattle.search.specs.declared.both.SoughtBoth.{SoughtBoth}
use Rattle.search.specs.declared.searching.Searched.{Searched}

pub fed-once : (a b : Fed) → told_fed a ≡ told_fed b → a ≡ b
fed-once (Fed.Next s t) (Fed.Next s' t') e =
    let p : s.bits ≡ s'.bits = ap (λ (x : Next). x.state) (ok-inj e) in
    ap₂ Fed.Next (λ i. record { bits = p i }) (ap (λ (x : Next). x.ends) (ok-inj e))
fed-once (Fed.Next s t) (Fed.Refused r) e = absurd (refused-ok r.number r.place _ (sym e))
fed-once (Fed.Refused r) (Fed.Next s t) e = absurd (refused-ok r.number r.place _ e)
fed-once (Fed.Refused r) (Fed.Refused s) e = ap Fed.Refused (same-refusal r s e)

pub sought-once : (a b : Sought) → told_sought a ≡ told_sought b → a ≡ b
sought-once (Sought.Marked n z m s) (Sought.Marked n' z' m' s') e =
    let p : n ≡ n' = ap (λ (x : Seen). x.segments) (ok-inj e) in
    let q : z ≡ z' = ap (λ (x : Seen). x.size) (ok-inj e) in
    let r : m ≡ m' = ap (λ (x : Seen). x.ends) (ok-inj e) in
    let b : s.bits ≡ s'.bits = ap (λ (x : Seen). x.state) (ok-inj e) in
    λ i. Sought.Marked (p i) (q i) (r i) (record { bits = b i })
sought-once (Sought.Marked n z m s) (Sought.Refused r) e = absurd (refused-ok r.number r.place _ (sym e))
sought-once (Sought.Refused r) (Sought.Marked n z m s) e = absurd (refused-ok r.number r.place _ e)
sought-once (Sought.Refused r) (Sought.Refused s) e = ap Sought.Refused (same-refusal r s e)

pub both-once : (a b : SoughtBoth) → told_both a ≡ told_both b → a ≡ b
both-once (SoughtBoth.Marked n z m s) (SoughtBoth.Marked n' z' m' s') e =
    let p : n ≡ n' = ap (λ (x : SeenBoth). x.segments) (ok-inj e) in
    let q : z ≡ z' = ap (λ (x : SeenBoth). x.size) (ok-inj e) in
    let r : m ≡ m' = ap (λ (x : SeenBoth). x.ends) (ok-inj e) in
    let b : s.given ≡ s'.given = ap (λ (x : SeenBoth). x.given) (ok-inj e) in
    let d : s.opposite ≡ s'.opposite = ap (λ (x : SeenBoth). x.opposite) (ok-inj e) in
    λ i. SoughtBoth.Marked (p i) (q i) (r i) (record { given = b i; opposite = d i })
both-once (SoughtBoth.Marked n z m s) (SoughtBoth.Refused r) e = absurd (refused-ok r.number r.place _ (sym e))
both-once (SoughtBoth.Refused r) (SoughtBoth.Marked n z m s) e = absurd (refused-ok r.number r.place _ e)
both-once (SoughtBoth.Refused r) (SoughtBoth.Refused s) e = ap SoughtBoth.Refused (same-refusal r s e)

pub searched-once : (a b : Searched) → told_searched a ≡ told_searched b → a ≡ b
searched-once (Searched.Marked n z m) (Searched.Marked n' z' m') e =
    let p : n ≡ n' = ap (λ (x : Sums). x.segments) (ok-inj e) in
    let q : z ≡ z' = ap (λ (x : Sums). x.size) (ok-inj e) in
    let r : m ≡ m' = ap (λ (x : Sums). x.ends) (ok-inj e) in
    λ i. Searched.Marked (p i) (q i) (r i)
searched-once (Searched.Marked n z m) (Searched.Refused r) e = absurd (refused-ok r.number r.place _ (sym e))
searched-once (Searched.Refused r) (Searched.Marked n z m) e = absurd (refused-ok r.number r.place _ e)
searched-once (Searched.Refused r) (Searched.Refused s) e = ap Searched.Refused (same-refusal r s e)
