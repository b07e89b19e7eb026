-- `vcf::survey::needed::Needed::record` meets its contract.
use mathlib.Core.Path.{◌≡◌, sym, ap, ◌∙◌}
use mathlib.Core.Bool.{false}
use lib.ListN.{length}
use Rattle.std.proofs.Common.{Ok, Err, rules}
use Rattle.vcf.specs.Tallies.{Tally, opened, tallied}
use Rattle.vcf.proofs.Tallying.{sane-opened, sane-tallied, sane-is, tally-err, record-err, record-none, record-some}
use Rattle.vcf.proofs.survey.needed.Needed.record.Goals as goal
use Rattle.vcf.proofs.survey.needed.Needed.record.Goals.{After-variant, In_ok-begun}

begun : (c : In_ok-begun) → opened (Ok c.args.self) ≡ Ok c.in_ok-begun.begun
begun c = sym c.open.ensures ∙ c.in_ok-begun.was

whole : (c : After-variant) → c.variant.result ≡ tallied (opened (Ok c.args.self)) (length c.args.alleles.reference.now) false
whole c =
    c.variant.ensures ∙ ap (λ (t : Tally). tallied t (length c.args.alleles.reference.now) false) (sym (begun (goal.at.After-variant c).In_ok-begun))

pub returns-in_err-begun : goal.returns-in_err-begun
returns-in_err-begun c =
    let same : c.from_residual.result ≡ Err c.in_err-begun.field-0.0 = search rules in
    same ∙ tally-err _ _ (sym c.open.ensures ∙ c.in_err-begun.was)

pub variant-requires : goal.variant-requires
variant-requires c = sane-is (begun (goal.at.variant-requires c).In_ok-begun) (sane-opened (Ok c.args.self) c.requires)

pub returns-in_err-first : goal.returns-in_err-first
returns-in_err-first c =
    let same : c.from_residual-in_err-first.result ≡ Err c.in_err-first.field-0.0 = search rules in
    same ∙ record-err (Ok c.args.self) _ _ _ (whole (goal.at.returns-in_err-first c).After-variant) c.in_err-first.was

pub returns-then-is_none : goal.returns-then-is_none
returns-then-is_none c =
    record-none (Ok c.args.self) _ _ _ (sym c.in_ok-first.was ∙ whole (goal.at.returns-then-is_none c).After-variant)
    (sym c.is_none.ensures ∙ c.if-is_none.true)

pub alternates-requires : goal.alternates-requires
alternates-requires c =
    sane-is (sym (whole (goal.at.alternates-requires c).After-variant) ∙ c.in_ok-first.was)
    (sane-tallied (opened (Ok c.args.self)) (length c.args.alleles.reference.now) false (sane-opened (Ok c.args.self) c.requires))

pub returns : goal.returns
returns c =
    record-some (Ok c.args.self) _ _ _ (sym c.in_ok-first.was ∙ whole (goal.at.returns c).After-variant)
    (sym c.is_none.ensures ∙ c.if-is_none.false) _ c.alternates.ensures
