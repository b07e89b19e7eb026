-- `vcf::survey::scan::with_record` meets its contract.
use mathlib.Core.Path.{◌≡◌, sym, ap, ◌∙◌}
use mathlib.Core.List.{[], ◌∷◌}
use Rattle.std.proofs.Common.{Err, rules}
use Rattle.text.specs.Letter.{meant}
use Rattle.vcf.specs.Records.{alternates}
use Rattle.vcf.specs.Tallies.{Tally, opened, spaced, tally_in}
use Rattle.vcf.proofs.Tallying.{sane-gap, sane-is, spaced-err, tally-err}
use Rattle.vcf.proofs.survey.scan.with_record.Goals as goal
use Rattle.vcf.proofs.survey.scan.with_record.Goals.{After-gap}

before : (c : After-gap) → spaced c.args.needed c.args.bases ≡ c.gap.result
before c = ap (λ (t : Tally). spaced t c.args.bases) c.in_ok-needed.was ∙ sym c.gap.ensures

pub returns-in_err-needed : goal.returns-in_err-needed
returns-in_err-needed c =
    let same : c.from_residual.result ≡ Err c.in_err-needed.field-0.0 = search rules in
    same ∙ tally-err _ _ (rw c.in_err-needed.was (ap opened (spaced-err _ c.args.bases)))

pub returns-in_err-before : goal.returns-in_err-before
returns-in_err-before c =
    let same : c.from_residual-in_err-before.result ≡ Err c.in_err-before.field-0.0 = search rules in
    same ∙ tally-err _ _ (ap opened (before (goal.at.returns-in_err-before c).After-gap ∙ c.in_err-before.was))

pub record-requires : goal.record-requires
record-requires c =
    sane-is (before (goal.at.record-requires c).After-gap ∙ c.in_ok-before.was) (sane-gap c.args.needed c.args.bases c.requires)

pub returns : goal.returns
returns c =
    c.record.ensures
    ∙ ap (λ (t : Tally). tally_in (opened t) [] (meant c.args.alleles.reference.now ∷ alternates (meant c.args.alleles.alt.now)))
    (sym (before (goal.at.returns c).After-gap ∙ c.in_ok-before.was))
