-- What a count of none that differ says: answers are alike exactly when they are the same answer.
use Rattle.std.proofs.Common.{◌≡◌, Bool, true, ◌&&◌, eqb, refl, eq-eqb, eqb-true}
use Rattle.text.proofs.Truth.{and_left, and_right}
use Rattle.test_tally.specs.Answers.{alike}
use Rattle.test_tally.specs.declared.answers.Answer.{Answer}

pub same_alike : (a b : Answer) → a ≡ b → alike a b ≡ true
unfolding alike
same_alike a b e =
    rw e (rw (eq-eqb b.number b.number refl, eq-eqb b.place b.place refl, eq-eqb b.first b.first refl)
    (rw (eq-eqb b.second b.second refl, eq-eqb b.third b.third refl) refl))

pub alike_same : (a b : Answer) → alike a b ≡ true → a ≡ b
unfolding alike
alike_same a b e =
    let third : Bool = eqb a.third b.third in
    let second : Bool = eqb a.second b.second && third in
    let first : Bool = eqb a.first b.first && second in
    let place : Bool = eqb a.place b.place && first in
    let on-place : place ≡ true = and_right (eqb a.number b.number) place e in
    let on-first : first ≡ true = and_right (eqb a.place b.place) first on-place in
    let on-second : second ≡ true = and_right (eqb a.first b.first) second on-first in
    let n : a.number ≡ b.number = eqb-true a.number b.number (and_left (eqb a.number b.number) place e) in
    let p : a.place ≡ b.place = eqb-true a.place b.place (and_left (eqb a.place b.place) first on-place) in
    let f : a.first ≡ b.first = eqb-true a.first b.first (and_left (eqb a.first b.first) second on-first) in
    let s : a.second ≡ b.second = eqb-true a.second b.second (and_left (eqb a.second b.second) third on-second) in
    let t : a.third ≡ b.third = eqb-true a.third b.third (and_right (eqb a.second b.second) third on-second) in
    λ i. record { number = n i; place = p i; first = f i; second = s i; third = t i }
