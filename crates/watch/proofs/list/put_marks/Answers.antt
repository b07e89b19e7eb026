use Rattle.std.proofs.Common.{◌≡◌, Err, sym, ap, ◌∙◌, rules, length, arith}
use Rattle.text.specs.Text.{Text}
use Rattle.text.specs.Refusal.{Outcome, ok, outcome}
use Rattle.layout.specs.Bytes.{left_by}
use Rattle.layout.proofs.Overs.{copied_none, copied-end}
use Rattle.watch.specs.Watching.{listing, accepted, marks_of}
use Rattle.watch.specs.Sight.{text_of}
use Rattle.watch.proofs.Lists.{marks-count}
use Rattle.watch.proofs.Calls.{marking-refused, marking-short, marking-fits, marks-more, sought-at, seen-mark}
use Rattle.watch.proofs.list.put_marks.Goals as goal
use Rattle.watch.proofs.list.put_marks.Goals.{In_ok-check_all}

-- the list and the stretch were accepted
passed : (c : In_ok-check_all) → accepted (listing c.args.list.now c.args.stretch.now) ≡ ok tt
passed c = sym c.check_all.ensures ∙ ap outcome c.in_ok-check_all.was

pub returns-in_err-check_all : goal.returns-in_err-check_all
returns-in_err-check_all c =
    let same : c.from_residual.result ≡ Err c.in_err-check_all.field-0.0 = search rules in
    let wrong = sym c.check_all.ensures ∙ ap outcome c.in_err-check_all.was in
    let told = marking-refused c.args.list.now c.args.stretch.now _ _ wrong (length c.args.marks.now) in
    record {
      result_value = ap outcome same ∙ sym (ap accepted told);
      marks_after = sym (ap (λ (o : Outcome Text). left_by (marks_of c.args.list.now) o c.args.marks.now) told);
    }

pub returns-then-marks-list : goal.returns-then-marks-list
returns-then-marks-list c =
    let told = marking-short _ _ (passed (goal.at.returns-then-marks-list c).In_ok-check_all) _ c.if-marks-list.true in
    record {
      result_value = sym (ap accepted told);
      marks_after = sym (ap (λ (o : Outcome Text). left_by (marks_of c.args.list.now) o c.args.marks.now) told);
    }

pub loop-i-init : goal.loop-i-init
loop-i-init c =
    copied_none _ 0 _ (omega (arith, c.if-marks-list.false, marks-count c.args.list.now (text_of c.args.stretch.now)))

pub sight-requires : goal.sight-requires
sight-requires c = sought-at _ _ (passed (goal.at.sight-requires c).In_ok-check_all) _ c.loop-i-test.true

pub loop-i-preserved : goal.loop-i-preserved
loop-i-preserved c = marks-more _ _ c.loop-i.invariant c.loop-i-test.true _ (c.is_some.ensures ∙ seen-mark _ _ _ c.sight.ensures)

pub returns : goal.returns
returns c =
    let told = marking-fits _ _ (passed (goal.at.returns c).In_ok-check_all) _ c.if-marks-list.false in
    record {
      result_value = sym (ap accepted told);
      marks_after =
          copied-end c.loop-i.invariant (omega (arith, c.loop-i-test.false, marks-count c.args.list.now (text_of c.args.stretch.now)))
          ∙ sym (ap (λ (o : Outcome Text). left_by (marks_of c.args.list.now) o c.args.marks.now) told);
    }
