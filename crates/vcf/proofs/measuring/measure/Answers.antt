-- `vcf::measuring::measure` meets its contract: each test is one of the definition's, in its order.
use Prim.Native.Nat.{ℕ, ◌≤◌}
use mathlib.Core.Path.{◌≡◌, sym, ap, ap₂, ◌∙◌}
use mathlib.Core.Bool.{true}
use mathlib.Core.List.{List, [], ◌∷◌}
use borrow.Author.Tests.{not-true, not-false}
use lib.ListN.{length}
use Rattle.std.proofs.Common.{Err, rules}
use Rattle.text.specs.Letter.{letter, meant, first_not}
use Rattle.text.specs.Refusal.{outcome}
use Rattle.vcf.specs.Records.{field, position, position_of, stated, alternates, is_record, placed}
use Rattle.vcf.specs.Tallies.{Tally, nothing, opened, tally_in}
use Rattle.vcf.proofs.Tallying.{sane-is}
use Rattle.vcf.proofs.Digits.{states-none, states-some}
use Rattle.vcf.proofs.Alleles.{unsounds, sounded}
use Rattle.vcf.proofs.Alone.{sane-nothing, measure-nowhere, measure-place, measure-letter, measure-unsound, measure-long}
use Rattle.vcf.proofs.Alone.{measure-repeated, measure-some, measure-fits}
use Rattle.vcf.proofs.measuring.measure.Goals as goal
use Rattle.vcf.proofs.measuring.measure.Goals.{After-field-reference, After-first_wrong-wrong, After-is_placed, After-position, After-record, Else-is_none, Else-not-is_placed, Else-wrong-bases, In-Some}

abbrev L : After-field-reference → List ℕ
L f = f.args.line.now

abbrev N : After-field-reference → List ℕ
N f = f.args.name.now

-- what is asked is asked of its fields
place : (c : After-position) → c.position.result ≡ stated (position c.args.line.now)
place c = c.position.ensures ∙ ap (λ (x : List ℕ). stated (position_of x)) c.field.ensures

at : (c : In-Some) → c.in-Some.place ≡ position c.args.line.now
at c = states-some (place (goal.at.In-Some c).After-position) c.in-Some.is

placing : (c : After-is_placed) → c.is_placed.result ≡ placed (field c.args.line.now 3) (position c.args.line.now)
placing c = c.is_placed.ensures ∙ ap₂ placed c.field-reference.ensures (at (goal.at.After-is_placed c).In-Some)

size : (f : After-field-reference) → length f.field-reference.result.now ≡ length (field (L f) 3)
size f = ap length f.field-reference.ensures

wrong : (c : After-first_wrong-wrong) → c.first_wrong-wrong.result ≡ first_not letter (field c.args.line.now 3)
wrong c = c.first_wrong-wrong.ensures ∙ ap (first_not letter) c.field-reference.ensures

-- what the tests that were passed say
put : (e : Else-not-is_placed) → placed (field e.args.line.now 3) (position e.args.line.now) ≡ true
put e = sym (placing (goal.at.Else-not-is_placed e).After-is_placed) ∙ not-false _ e.if-not-is_placed.false-raw

spelt : (s : Else-wrong-bases) → length (field s.args.line.now 3) ≤ s.first_wrong-wrong.result
spelt s = rw (size (goal.at.Else-wrong-bases s).After-field-reference) at s.if-wrong-bases.false

sound : (e : Else-is_none) → is_record e.args.name.now e.args.line.now ≡ true
sound e = sounded _ _ e.sound.ensures e.is_none.ensures e.if-is_none.false

needed :
    (r : After-record) →
    r.record.result
    ≡ tally_in (opened nothing) [] (meant (field r.args.line.now 3) ∷ alternates (meant (field r.args.line.now 4)))
needed r =
    let ref = r.field-reference in
    let alt = r.field-2 in
    r.record.ensures
    ∙ ap (λ (t : Tally). tally_in (opened t) [] (meant ref.result.now ∷ alternates (meant alt.result.now))) r.nothing-nothing.ensures
    ∙ ap₂ (λ (a b : List ℕ). tally_in (opened nothing) [] (meant a ∷ alternates (meant b))) ref.ensures alt.ensures

pub returns-in_default : goal.returns-in_default
returns-in_default c = measure-nowhere _ _ (states-none (place (goal.at.returns-in_default c).After-position) c.in_default.is)

pub returns-then-not-is_placed : goal.returns-then-not-is_placed
returns-then-not-is_placed c =
    measure-place _ _ (sym (placing (goal.at.returns-then-not-is_placed c).After-is_placed) ∙ not-true _ c.if-not-is_placed.true-raw)

pub returns-then-wrong-bases : goal.returns-then-wrong-bases
returns-then-wrong-bases c =
    measure-letter _ _ (put (goal.at.returns-then-wrong-bases c).Else-not-is_placed) (wrong (goal.at.returns-then-wrong-bases c).After-first_wrong-wrong) (rw (size (goal.at.returns-then-wrong-bases c).After-field-reference) at c.if-wrong-bases.true)

pub returns-then-is_none : goal.returns-then-is_none
returns-then-is_none c =
    measure-unsound _ _ (put (goal.at.returns-then-is_none c).Else-not-is_placed) (wrong (goal.at.returns-then-is_none c).After-first_wrong-wrong) (spelt (goal.at.returns-then-is_none c).Else-wrong-bases)
    (unsounds _ _ c.sound.ensures c.is_none.ensures c.if-is_none.true)

pub record-requires : goal.record-requires
record-requires c = sane-is (sym c.nothing-nothing.ensures) sane-nothing

pub returns-in_err-needed : goal.returns-in_err-needed
returns-in_err-needed c =
    let same : c.from_residual.result ≡ Err c.in_err-needed.field-0.0 = search rules in
    ap outcome same
    ∙ measure-long _ _ (put (goal.at.returns-in_err-needed c).Else-not-is_placed) (wrong (goal.at.returns-in_err-needed c).After-first_wrong-wrong) (spelt (goal.at.returns-in_err-needed c).Else-wrong-bases) (sound (goal.at.returns-in_err-needed c).Else-is_none) (needed (goal.at.returns-in_err-needed c).After-record)
    c.in_err-needed.was

pub returns-in_err-needed-2 : goal.returns-in_err-needed-2
returns-in_err-needed-2 c =
    let same : c.from_residual-in_err-needed-2.result ≡ Err c.in_err-needed-2.field-0.0 = search rules in
    ap outcome same
    ∙ measure-repeated _ _ (put (goal.at.returns-in_err-needed-2 c).Else-not-is_placed) (wrong (goal.at.returns-in_err-needed-2 c).After-first_wrong-wrong) (spelt (goal.at.returns-in_err-needed-2 c).Else-wrong-bases) (sound (goal.at.returns-in_err-needed-2 c).Else-is_none) (needed (goal.at.returns-in_err-needed-2 c).After-record)
    c.in_ok-needed.was c.in_err-needed-2.was

pub overflow_sub-result : goal.overflow_sub-result
overflow_sub-result c =
    measure-some _ _ (put (goal.at.overflow_sub-result c).Else-not-is_placed) (wrong (goal.at.overflow_sub-result c).After-first_wrong-wrong) (spelt (goal.at.overflow_sub-result c).Else-wrong-bases) (sound (goal.at.overflow_sub-result c).Else-is_none) (needed (goal.at.overflow_sub-result c).After-record) c.in_ok-needed.was c.in_ok-needed-2.was

pub returns : goal.returns
returns c =
    measure-fits _ _ (put (goal.at.returns c).Else-not-is_placed) (wrong (goal.at.returns c).After-first_wrong-wrong) (spelt (goal.at.returns c).Else-wrong-bases) (sound (goal.at.returns c).Else-is_none) (needed (goal.at.returns c).After-record)
    c.in_ok-needed.was c.in_ok-needed-2.was (at (goal.at.returns c).In-Some) (size (goal.at.returns c).After-field-reference)
