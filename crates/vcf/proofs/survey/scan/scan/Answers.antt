use Prim.Native.Nat.{◌-◌, ◌<◌, ◌≤◌}
use native.Mathlib.Omega.{arith}
use mathlib.Core.Path.{◌≡◌, sym, ◌∙◌}
use Rattle.std.proofs.Common.{Err, rules}
use Rattle.text.specs.Letter.{meant}
use Rattle.vcf.specs.Tallies.{spaced}
use lib.ListN.{length}
use Rattle.text.proofs.Likes.{meant-length}
use Rattle.vcf.proofs.Marks.{next-behind}
use Rattle.vcf.proofs.Scanning.{scanning-none, scanning-wrong, scanning-more, scanning-long, scanning-refused, scanning-needs}
use Rattle.vcf.proofs.Scanning.{scanning-starts}
use Rattle.vcf.proofs.Tallying.{sane-is}
use Rattle.vcf.proofs.survey.scan.scan.Goals as goal
use Rattle.vcf.proofs.survey.scan.scan.Goals.{After-gap}

-- what the bases after the last record need too
whole :
    (c : After-gap) →
    spaced c.loop-at.reached.needed (length (meant c.args.window.bases.now) - c.loop-at.reached.base) ≡ c.gap.result
whole c = rw (c.in_ok-before.was, meant-length c.args.window.bases.now) (sym c.gap.ensures)

pub loop-at-init : goal.loop-at-init
loop-at-init c = rw c.nothing.ensures (scanning-none _ _ _ _ c.requires)

pub line-requires : goal.line-requires
line-requires c = c.loop-at.invariant.reach

pub returns-in_default : goal.returns-in_default
returns-in_default c =
    record {
      result_value = scanning-wrong c.loop-at.invariant c.loop-at-test.true c.far_end-end.ensures
          (sym c.line.ensures ∙ c.in_default.is);
      starts = tt;
    }

pub loop-at-smaller : goal.loop-at-smaller
loop-at-smaller c =
    let h : (c.loop-at.at < c.next_line-at.result) ×
    (c.next_line-at.result ≤ length c.args.file.now) =
    rw c.next_line-at.ensures (next-behind _ _ _ c.loop-at-test.true c.far_end-end.ensures) in
    omega (arith, h)

pub loop-at-preserved : goal.loop-at-preserved
loop-at-preserved c =
    scanning-more c.loop-at.invariant c.loop-at-test.true c.far_end-end.ensures _ (sym c.line.ensures ∙ c.in-Some.is) _
    c.next_line-at.ensures
    _ c.starting-start.ensures

pub overflow_sub-window : goal.overflow_sub-window
overflow_sub-window c =
    let w = c.args.window.bases.now in
    omega (arith, c.loop-at.invariant.reach.inside, meant-length w)

pub gap-requires : goal.gap-requires
gap-requires c = sane-is c.in_ok-before.was c.loop-at.invariant.reach.sane

pub returns-in_err-before : goal.returns-in_err-before
returns-in_err-before c =
    let same : c.from_residual.result ≡ Err c.in_err-before.field-0.0 = search rules in
    record { result_value = rw same (scanning-long c.loop-at.invariant c.loop-at-test.false c.in_err-before.was); starts = rw same tt }

pub returns-in_err-needed : goal.returns-in_err-needed
returns-in_err-needed c =
    let same : c.from_residual-in_err-needed.result ≡ Err c.in_err-needed.field-0.0 = search rules in
    record {
      result_value = rw same
          (scanning-refused c.loop-at.invariant c.loop-at-test.false (whole (goal.at.returns-in_err-needed c).After-gap ∙ c.in_err-needed.was));
      starts = rw same tt;
    }

pub returns : goal.returns
returns c =
    record {
      result_value = scanning-needs c.loop-at.invariant c.loop-at-test.false (whole (goal.at.returns c).After-gap ∙ c.in_ok-needed.was);
      starts = scanning-starts c.loop-at.invariant c.loop-at-test.false;
    }
