-- `writer::put_stretch` meets its contract. Each answer is a law of `writing`, from the tests that led to it and from what the called
-- functions ensure; one law gives the answer and the buffer.
use Rattle.std.proofs.Common.{Err, rules}
use Prim.Native.Nat.{◌<◌}
use native.Mathlib.Omega.{arith}
use mathlib.Core.Path.{◌≡◌, sym, ap, ◌∙◌}
use borrow.Author.Tests.{not-true, not-false, lt-leb}
use Rattle.text.specs.Refusal.{outcome}
use Rattle.text.specs.Letter.{meant}
use Rattle.text.proofs.Likes.{meant-length}
use Rattle.layout.specs.Bytes.{greatest_stretch}
use Rattle.writer.specs.Writing.{Matching, needed}
use Rattle.writer.proofs.GivenRaised.{matching-meant, needed-meant}
use Rattle.writer.proofs.Writings.{Fitting, sums-match, counts-refused, lengths-refused, long-refused, given-refused}
use Rattle.writer.proofs.Writings.{room-refused, refused-leaves, accepted-leaves}
use Rattle.writer.proofs.writing.put_stretch.Goals as goal
use Rattle.writer.proofs.writing.put_stretch.Goals.{Else-needed-gt-GREATEST_STRETCH, Else-not-sums_to-2, Start}

matching : (c : Else-not-sums_to-2) → Matching (meant c.args.letters.now) c.args.lengths.now c.args.counts.now
matching c =
    let a = c.args in
    matching-meant
    (sums-match a.letters.now a.lengths.now a.counts.now
    (sym c.sums_to.ensures ∙ not-false _ c.if-not-sums_to.false-raw)
    (sym c.sums_to-2.ensures ∙ not-false _ c.if-not-sums_to-2.false-raw))

-- raised letters need as many bytes
same-need :
    (c : Start)
    → needed (meant c.args.letters.now) c.args.lengths.now c.args.counts.now
    ≡ needed c.args.letters.now c.args.lengths.now c.args.counts.now
same-need c = needed-meant _ _ _

size :
    (c : Else-needed-gt-GREATEST_STRETCH) →
    c.text_bytes-needed.result
    ≡ needed (meant c.args.letters.now) c.args.lengths.now c.args.counts.now
unfolding needed
size c = let same = same-need (goal.at.Else-needed-gt-GREATEST_STRETCH c).Start in omega (arith, c.text_bytes-needed.ensures, c.if-needed-gt-GREATEST_STRETCH.false)

fitting : (c : Else-needed-gt-GREATEST_STRETCH) → Fitting (meant c.args.letters.now) c.args.lengths.now c.args.counts.now
fitting c = record { matching = matching (goal.at.Else-needed-gt-GREATEST_STRETCH c).Else-not-sums_to-2; small = rw (← size c) c.if-needed-gt-GREATEST_STRETCH.false }

pub returns-then-not-sums_to : goal.returns-then-not-sums_to
returns-then-not-sums_to c =
    let e = sym c.sums_to.ensures ∙ not-true _ c.if-not-sums_to.true-raw in
    let whole = refused-leaves _ c.refused_at_0.ensures (counts-refused _ _ _ _ e) in record { answer = whole.0; buffer = whole.1 }

pub returns-then-not-sums_to-2 : goal.returns-then-not-sums_to-2
returns-then-not-sums_to-2 c =
    let e = sym c.sums_to-2.ensures ∙ not-true _ c.if-not-sums_to-2.true-raw in
    let whole = refused-leaves _ c.refused_at_0-then-not-sums_to-2.ensures (lengths-refused (meant c.args.letters.now) _ _ _ (rw (meant-length c.args.letters.now) e)) in record { answer = whole.0; buffer = whole.1 }

pub returns-then-needed-gt-GREATEST_STRETCH : goal.returns-then-needed-gt-GREATEST_STRETCH
unfolding needed
returns-then-needed-gt-GREATEST_STRETCH c =
    let n = needed (meant c.args.letters.now) c.args.lengths.now c.args.counts.now in
    let same = same-need (goal.at.returns-then-needed-gt-GREATEST_STRETCH c).Start in
    let long : greatest_stretch < n = omega (arith, c.text_bytes-needed.ensures, c.if-needed-gt-GREATEST_STRETCH.true) in
    let whole = refused-leaves _ c.refused_at_0-then-needed-gt-GREATEST_STRETCH.ensures (long-refused _ (matching (goal.at.returns-then-needed-gt-GREATEST_STRETCH c).Else-not-sums_to-2) (lt-leb n greatest_stretch long)) in record { answer = whole.0; buffer = whole.1 }

pub segments_given-requires : goal.segments_given-requires
segments_given-requires c = matching (goal.at.segments_given-requires c).Else-not-sums_to-2

pub returns-in_err-segments_given : goal.returns-in_err-segments_given
returns-in_err-segments_given c =
    let same : c.from_residual.result ≡ Err c.in_err-segments_given.field-0.0 = search rules in
    let e = sym c.segments_given.ensures ∙ ap outcome c.in_err-segments_given.was in
    let whole = refused-leaves _ (ap outcome same) (given-refused _ (fitting (goal.at.returns-in_err-segments_given c).Else-needed-gt-GREATEST_STRETCH) _ _ e) in
    record { answer = whole.0; buffer = whole.1 }

pub returns-then-out-needed : goal.returns-then-out-needed
returns-then-out-needed c =
    let e = sym c.segments_given.ensures ∙ ap outcome c.in_ok-segments_given.was in
    let whole = refused-leaves _ c.refused_at_0-then-out-needed.ensures
    (room-refused _ (fitting (goal.at.returns-then-out-needed c).Else-needed-gt-GREATEST_STRETCH) e (rw (← size (goal.at.returns-then-out-needed c).Else-needed-gt-GREATEST_STRETCH) c.if-out-needed.true)) in record { answer = whole.0; buffer = whole.1 }

pub put_text-requires : goal.put_text-requires
put_text-requires c =
    record { cases = (fitting (goal.at.put_text-requires c).Else-needed-gt-GREATEST_STRETCH).matching; counts_in_bounds = rw (← size (goal.at.put_text-requires c).Else-needed-gt-GREATEST_STRETCH) c.if-out-needed.false }

pub returns : goal.returns
returns c =
    let e = sym c.segments_given.ensures ∙ ap outcome c.in_ok-segments_given.was in
    let n = size (goal.at.returns c).Else-needed-gt-GREATEST_STRETCH in
    let whole = rw (← n) at (accepted-leaves (fitting (goal.at.returns c).Else-needed-gt-GREATEST_STRETCH) _ e (rw (← n) c.if-out-needed.false) c.put_text.ensures) in record { answer = whole.0; buffer = whole.1 }
