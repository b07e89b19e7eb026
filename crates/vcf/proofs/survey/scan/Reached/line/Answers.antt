-- `vcf::survey::scan::Reached::line` meets its contract: case by case.
use Prim.Native.Nat.{◌-◌, ◌+◌, ◌≤◌, min}
use native.Mathlib.Omega.{arith}
use mathlib.Core.Path.{◌≡◌, sym, ap, ◌∙◌}
use borrow.Author.Tests.{not-true, not-false}
use lib.ListN.{length}
use Rattle.text.specs.Letter.{meant}
use Rattle.text.proofs.Likes.{meant-length}
use mathlib.Core.Bool.{true, false}
use Rattle.vcf.specs.Records.{beyond, comment, is_record, position}
use Rattle.vcf.proofs.Alleles.{unsound, sounds}
use Rattle.vcf.proofs.Scanning.{step-comment, step-unsound, step-early, step-over, step-apart, step-bounds, step_in}
use Rattle.vcf.proofs.survey.scan.Reached.line.Goals as goal
use Rattle.vcf.proofs.survey.scan.Reached.line.Goals.{After-behind-end, Else-is_comment, Else-not-agrees, In_ok-position}

plain : (c : Else-is_comment) → comment c.args.line.now ≡ false
plain c = sym c.is_comment.ensures ∙ c.if-is_comment.false

-- the line is a record, which stands there
sound :
    (k : In_ok-position) → (is_record k.args.name.now k.args.line.now ≡ true) × (position k.args.line.now ≡ k.in_ok-position.position)
sound k = sounds _ _ k.sound.ensures k.in_ok-position.was

-- the position after REF
ending :
    (b : After-behind-end) →
    b.behind-end.result ≡ min beyond (b.in_ok-position.position + length (meant b.field-reference.result.now))
ending b = b.behind-end.ensures ∙ rw (← meant-length b.field-reference.result.now)

bounds :
    (k : Else-not-agrees) →
    (k.args.window.first ≤ k.in_ok-position.position)
    × (k.args.self.base ≤ k.in_ok-position.position - k.args.window.first)
    × (k.args.window.first ≤ k.behind-end.result)
bounds k =
    step-bounds _ _ _ k.args.self _ (plain (goal.at.Else-not-agrees k).Else-is_comment) _ (sound (goal.at.Else-not-agrees k).In_ok-position) k.if-position-self.false _
    (ap meant k.field-reference.ensures) k.requires.put _ (ending (goal.at.Else-not-agrees k).After-behind-end)
    (sym k.if-is_outside.false ∙ k.is_outside.ensures) (sym (not-false _ k.if-not-agrees.false-raw) ∙ k.agrees.ensures) k.requires.passed

pub returns-then-is_comment : goal.returns-then-is_comment
returns-then-is_comment c = step-comment _ _ _ _ _ (sym c.is_comment.ensures ∙ c.if-is_comment.true)

pub returns-in_err-position : goal.returns-in_err-position
returns-in_err-position c =
    c.from_residual.ensures
    ∙ step-unsound _ _ _ _ _ (plain (goal.at.returns-in_err-position c).Else-is_comment) (unsound _ _ c.sound.ensures c.in_err-position.was)

pub returns-then-position-self : goal.returns-then-position-self
returns-then-position-self c =
    step-early _ _ _ _ _ (plain (goal.at.returns-then-position-self c).Else-is_comment) _ (sound (goal.at.returns-then-position-self c).In_ok-position)
    c.if-position-self.true

pub returns-then-is_outside : goal.returns-then-is_outside
returns-then-is_outside c =
    step-over _ _ _ _ _ (plain (goal.at.returns-then-is_outside c).Else-is_comment) _ (sound (goal.at.returns-then-is_outside c).In_ok-position) c.if-position-self.false _ (ap meant c.field-reference.ensures)
    c.requires.put _ (ending (goal.at.returns-then-is_outside c).After-behind-end)
    (sym c.if-is_outside.true ∙ c.is_outside.ensures)

pub returns-then-not-agrees : goal.returns-then-not-agrees
returns-then-not-agrees c =
    step-apart _ _ _ _ _ (plain (goal.at.returns-then-not-agrees c).Else-is_comment) _ (sound (goal.at.returns-then-not-agrees c).In_ok-position) c.if-position-self.false _ (ap meant c.field-reference.ensures)
    c.requires.put _ (ending (goal.at.returns-then-not-agrees c).After-behind-end)
    (sym c.if-is_outside.false ∙ c.is_outside.ensures) (sym (not-true _ c.if-not-agrees.true-raw) ∙ c.agrees.ensures)

pub overflow_sub-bases : goal.overflow_sub-bases
overflow_sub-bases c = let h = bounds (goal.at.overflow_sub-bases c).Else-not-agrees in omega (arith, h)

pub overflow_sub-bases-2 : goal.overflow_sub-bases-2
overflow_sub-bases-2 c = let h = bounds (goal.at.overflow_sub-bases-2 c).Else-not-agrees in omega (arith, h)

pub overflow_sub-result : goal.overflow_sub-result
overflow_sub-result c = let h = bounds (goal.at.overflow_sub-result c).Else-not-agrees in omega (arith, h)

pub overflow_add-result : goal.overflow_add-result
overflow_add-result c = omega (arith, c.requires.few, c.requires.inside, meant-length c.args.window.bases.now)

pub returns : goal.returns
returns c =
    step_in _ _ _ _ _ (plain (goal.at.returns c).Else-is_comment) _ (sound (goal.at.returns c).In_ok-position) c.if-position-self.false _ (ap meant c.field-reference.ensures)
    c.requires.put _ (ending (goal.at.returns c).After-behind-end)
    (sym c.if-is_outside.false ∙ c.is_outside.ensures) (sym (not-false _ c.if-not-agrees.false-raw) ∙ c.agrees.ensures)
    _ (ap meant c.field.ensures) _ c.with_record-needed.ensures
