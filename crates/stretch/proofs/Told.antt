-- Answers that are told alike are the same answer.
use Prim.Native.Nat.{ℕ}
use mathlib.Core.Path.{◌≡◌, sym, ap, ap₂}
use Rattle.text.specs.Refusal.{Outcome, ok, refused}
use Rattle.text.proofs.Outcomes.{refused-ok, refused-inj, ok-inj}
use Rattle.stretch.specs.Places.{Found, found, end, Reading}
use Rattle.stretch.specs.Answers.{told_checked}
use Rattle.stretch.specs.declared.checking.Sum.{Sum}
use Rattle.stretch.specs.Answers.{told_got}
use Rattle.stretch.specs.declared.checking.Checked.{Checked}
use Rattle.stretch.specs.declared.checking.Checked.TheVariants.{Sound}
use Rattle.stretch.specs.declared.reading.Got.{Got}
use Rattle.stretch.specs.declared.reading.Got.TheVariants.{End}
use Rattle.stretch.specs.Answers.{told_written}
use Rattle.stretch.specs.declared.writing.Written.{Written}
use Rattle.stretch.specs.declared.writing.Written.TheVariants.{Bytes}

pub checked-once : (a b : Checked) → told_checked a ≡ told_checked b → a ≡ b
checked-once (Sound n z) (Sound m y) e =
    ap₂ Sound (ap (λ (x : Sum). x.segments) (ok-inj e)) (ap (λ (x : Sum). x.size) (ok-inj e))
checked-once (Sound n z) (Checked.Refused r) e = cc
checked-once (Checked.Refused r) (Sound n z) e = cc
checked-once (Checked.Refused r) (Checked.Refused s) e =
    let n : r.number ≡ s.number = cc in
    let p : r.place ≡ s.place = cc in
    ap₂ (λ (a b : ℕ). Checked.Refused (record { number = a; place = b })) n p

pub got-once : (a b : Got) → told_got a ≡ told_got b → a ≡ b
got-once (Got.Variant i k j v) (Got.Variant i' k' j' v') e =
    let a : ◌≡◌ {A = Outcome Found} (ok (found i k)) (ok (found i' k')) = ap (λ (x : Reading). x.answer) e in
    let f : ◌≡◌ {A = Found} (found i k) (found i' k') = ok-inj a in
    let s : j ≡ j' = ap (λ (x : Reading). x.segment) e in
    let t : v ≡ v' = ap (λ (x : Reading). x.variant) e in
    let p : i ≡ i' = cc in
    let q : k ≡ k' = cc in
    cc
got-once (End j v) (End j' v') e = ap₂ End (ap (λ (x : Reading). x.segment) e) (ap (λ (x : Reading). x.variant) e)
got-once (Got.Refused r j v) (Got.Refused r' j' v') e =
    let a : ◌≡◌ {A = Outcome Found} (refused r.number r.place)
    (refused r'.number r'.place) = ap (λ (x : Reading). x.answer) e in
    let i = refused-inj a in
    let w : r ≡ r' = λ k. record { number = i.0 k; place = i.1 k } in
    let s : j ≡ j' = ap (λ (x : Reading). x.segment) e in
    let t : v ≡ v' = ap (λ (x : Reading). x.variant) e in
    cc
got-once (Got.Variant i k j v) (End j' v') e =
    let a : ◌≡◌ {A = Outcome Found} (ok (found i k)) (ok end) = ap (λ (x : Reading). x.answer) e in
    let f : ◌≡◌ {A = Found} (found i k) end = ok-inj a in
    cc
got-once (End j' v') (Got.Variant i k j v) e =
    let a : ◌≡◌ {A = Outcome Found} (ok end) (ok (found i k)) = ap (λ (x : Reading). x.answer) e in
    let f : ◌≡◌ {A = Found} end (found i k) = ok-inj a in
    cc
got-once (Got.Variant i k j v) (Got.Refused r j' v') e =
    absurd (refused-ok r.number r.place (found i k) (sym (ap (λ (x : Reading). x.answer) e)))
got-once (Got.Refused r j' v') (Got.Variant i k j v) e =
    absurd (refused-ok r.number r.place (found i k) (ap (λ (x : Reading). x.answer) e))
got-once (End j v) (Got.Refused r j' v') e = absurd (refused-ok r.number r.place end (sym (ap (λ (x : Reading). x.answer) e)))
got-once (Got.Refused r j' v') (End j v) e = absurd (refused-ok r.number r.place end (ap (λ (x : Reading). x.answer) e))

pub written_once : (a b : Written) → told_written a ≡ told_written b → a ≡ b
written_once (Bytes n) (Bytes m) e = ap Bytes (ok-inj e)
written_once (Bytes n) (Written.Refused r) e = cc
written_once (Written.Refused r) (Bytes n) e = cc
written_once (Written.Refused r) (Written.Refused s) e =
    let n : r.number ≡ s.number = cc in
    let p : r.place ≡ s.place = cc in
    ap₂ (λ (a b : ℕ). Written.Refused (record { number = a; place = b })) n p
