use Rattle.std.proofs.Common.{◌≡◌, ℕ, ◌+◌, ◌≤◌, length, take, drop, sym, refl, ap, ◌∙◌, arith}
use Rattle.text.specs.Compare.{alike}
use Rattle.layout.specs.Pieces.{letters_at}
use Rattle.layout.proofs.RepeatsInBytes.{repeats-short, repeats-room, before-none, before-found, before-other}
use Rattle.layout.proofs.repetition.repeated.Goals as goal
use Rattle.layout.proofs.repetition.repeated.Goals.{After-stands, At-loop-place}

-- the variant has room at `at`
room : (c : At-loop-place)
    → c.args.at + 2 + length c.args.variant.now ≤ length c.args.stretch.now
room c = omega arith

-- what was compared
compared : (c : After-stands)
    → alike c.args.variant.now (letters_at c.args.stretch.now c.loop-place.place) ≡ c.stands.result
compared c =
    let place = c.loop-place.place in
    ap (λ (n : ℕ). alike c.args.variant.now (take n (drop (place + 2) c.args.stretch.now))) (sym c.pair-letters.ensures.0)
    ∙ sym c.stands.ensures

pub returns-then-end-at : goal.returns-then-end-at
returns-then-end-at c = sym (repeats-short _ _ _ _ (omega arith))

pub returns-then-left-lt2 : goal.returns-then-left-lt2
returns-then-left-lt2 c = sym (repeats-short _ _ _ _ (omega arith))

pub returns-then-left-variant : goal.returns-then-left-variant
returns-then-left-variant c = sym (repeats-short _ _ _ _ (omega arith))

pub loop-place-init : goal.loop-place-init
loop-place-init c = (_, refl, omega arith)

pub returns-then-stands : goal.returns-then-stands
returns-then-stands c =
    let q = c.loop-place.invariant in
    let found = before-found _ _ _ _ _ q.2 c.loop-place-test.true (compared (goal.at.returns-then-stands c).After-stands ∙ c.if-stands.true) in
    sym (repeats-room _ _ _ _ (room (goal.at.returns-then-stands c).At-loop-place) ∙ q.1 ∙ found)

pub overflow_add-place : goal.overflow_add-place
overflow_add-place c = omega (arith, c.pair-letters.ensures.1)

pub loop-place-preserved : goal.loop-place-preserved
loop-place-preserved c =
    let q = c.loop-place.invariant in
    let other = before-other _ _ _ _ _ q.2 c.loop-place-test.true (compared (goal.at.loop-place-preserved c).After-stands ∙ c.if-stands.false) in
    rw c.pair-letters.ensures.0 (_, q.1 ∙ other, omega arith)

pub returns : goal.returns
returns c =
    let q = c.loop-place.invariant in
    sym (repeats-room _ _ _ _ (room (goal.at.returns c).At-loop-place) ∙ q.1 ∙ before-none _ _ _ _ _ c.loop-place-test.false)
