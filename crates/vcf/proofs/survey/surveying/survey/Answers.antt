-- `vcf::survey::surveying::survey` meets its contract: each test is one of the definition's, in its order.
use mathlib.Core.Path.{◌≡◌, sym, ap, ◌∙◌}
use borrow.Author.Tests.{not-true, not-false}
use mathlib.Core.Bool.{true}
use Rattle.std.proofs.Common.{Err, rules}
use Rattle.text.specs.Compare.{prefix}
use Rattle.vcf.specs.Records.{heading, placed}
use Rattle.vcf.specs.Steps.{told_gathered}
use Rattle.vcf.proofs.Checks.{survey-place, survey-placed, survey-heading, survey-letter, survey-refused, survey-repeated, survey-fits}
use Rattle.vcf.proofs.survey.surveying.survey.Goals as goal
use Rattle.vcf.proofs.survey.surveying.survey.Goals.{Else-not-is_headed, Else-not-is_placed}

-- what the tests that were passed say
P1 : (e : Else-not-is_placed) → placed e.args.window.bases.now
    e.args.window.first ≡ true
P1 e = sym e.is_placed.ensures ∙ not-false _ e.if-not-is_placed.false-raw

P2 : (e : Else-not-is_headed) → prefix heading e.args.file.now ≡ true
P2 e = sym e.is_headed.ensures ∙ not-false _ e.if-not-is_headed.false-raw

pub returns-then-not-is_placed : goal.returns-then-not-is_placed
returns-then-not-is_placed c = survey-place _ _ _ _ (sym c.is_placed.ensures ∙ not-true _ c.if-not-is_placed.true-raw)

pub returns-then-not-is_headed : goal.returns-then-not-is_headed
returns-then-not-is_headed c =
    survey-heading _ _ _ _ (P1 (goal.at.returns-then-not-is_headed c).Else-not-is_placed) (sym c.is_headed.ensures ∙ not-true _ c.if-not-is_headed.true-raw)

pub returns-then-wrong-window : goal.returns-then-wrong-window
returns-then-wrong-window c =
    survey-letter _ _ _ _ (P1 (goal.at.returns-then-wrong-window c).Else-not-is_placed) (P2 (goal.at.returns-then-wrong-window c).Else-not-is_headed) _ c.first_wrong-wrong.ensures c.if-wrong-window.true

pub scan-requires : goal.scan-requires
scan-requires c =
    survey-placed c.args.file.now _ _ c.args.name.now (P1 (goal.at.scan-requires c).Else-not-is_placed)

pub returns-in_err-gathered : goal.returns-in_err-gathered
returns-in_err-gathered c =
    let same : c.from_residual.result ≡ Err c.in_err-gathered.field-0.0 = search rules in
    rw same
    (survey-refused _ _ _ _ (P1 (goal.at.returns-in_err-gathered c).Else-not-is_placed) (P2 (goal.at.returns-in_err-gathered c).Else-not-is_headed) _ c.first_wrong-wrong.ensures c.if-wrong-window.false _ _
    (sym c.scan.ensures.result_value ∙ ap told_gathered c.in_err-gathered.was))

pub returns-in_err-needed : goal.returns-in_err-needed
returns-in_err-needed c =
    let same : c.from_residual-in_err-needed.result ≡ Err c.in_err-needed.field-0.0 = search rules in
    rw same
    (survey-repeated _ _ _ _ (P1 (goal.at.returns-in_err-needed c).Else-not-is_placed) (P2 (goal.at.returns-in_err-needed c).Else-not-is_headed) _ c.first_wrong-wrong.ensures c.if-wrong-window.false _
    (sym c.scan.ensures.result_value ∙ ap told_gathered c.in_ok-gathered.was) c.in_err-needed.was)

pub returns : goal.returns
returns c =
    survey-fits _ _ _ _ (P1 (goal.at.returns c).Else-not-is_placed) (P2 (goal.at.returns c).Else-not-is_headed) _ c.first_wrong-wrong.ensures c.if-wrong-window.false _
    (sym c.scan.ensures.result_value ∙ ap told_gathered c.in_ok-gathered.was) c.in_ok-needed.was
    (rw c.in_ok-gathered.was at c.scan.ensures.starts)
