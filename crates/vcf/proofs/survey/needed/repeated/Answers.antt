use native.Mathlib.Omega.{arith}
use mathlib.Core.Path.{◌≡◌, sym, ◌∙◌}
use lib.ListN.{take}
use mathlib.Core.List.{◌∷◌}
use Rattle.text.specs.Letter.{meant}
use Rattle.layout.specs.Reading.{among}
use Rattle.vcf.specs.Pieces.{pieces}
use Rattle.vcf.proofs.Tallying.{among_first, among-rest, compared-none, compared_same, compared-missing, compared-more}
use Rattle.vcf.proofs.Tallying.{compared-end}
use Rattle.vcf.proofs.survey.needed.repeated.Goals as goal
use Rattle.vcf.proofs.survey.needed.repeated.Goals.{Else-alike}

-- it is not REF
other :
    (c : Else-alike) →
    among (meant c.args.allele.now) (meant c.args.alleles.reference.now ∷ take c.args.k (pieces 0x2C (meant c.args.alleles.alt.now)))
    ≡ among (meant c.args.allele.now) (take c.args.k (pieces 0x2C (meant c.args.alleles.alt.now)))
other c = among-rest c.args.allele.now c.args.alleles.reference.now _ (sym c.alike.ensures ∙ c.if-alike.false)

pub returns-then-alike : goal.returns-then-alike
returns-then-alike c = among_first c.args.allele.now c.args.alleles.reference.now _
    (sym c.alike.ensures ∙ c.if-alike.true)

pub loop-i-init : goal.loop-i-init
loop-i-init c = compared-none _ _ _

pub returns-then-alike-2 : goal.returns-then-alike-2
returns-then-alike-2 c =
    let r = compared_same c.loop-i.invariant c.loop-i-test.true c.end_of-end.ensures (sym c.alike-in-loop-i.ensures ∙ c.if-alike-2.true) in
    sym (other (goal.at.returns-then-alike-2 c).Else-alike ∙ r)

pub returns-then-end-alt : goal.returns-then-end-alt
returns-then-end-alt c =
    let r = compared-missing c.loop-i.invariant c.loop-i-test.true c.end_of-end.ensures
    (sym c.alike-in-loop-i.ensures ∙ c.if-alike-2.false) c.if-end-alt.true in
    sym (other (goal.at.returns-then-end-alt c).Else-alike ∙ r)

pub overflow_add-from : goal.overflow_add-from
overflow_add-from c = omega (arith, c.if-end-alt.false)

pub loop-i-preserved : goal.loop-i-preserved
loop-i-preserved c =
    compared-more c.loop-i.invariant c.loop-i-test.true c.end_of-end.ensures (sym c.alike-in-loop-i.ensures ∙ c.if-alike-2.false)
    c.if-end-alt.false

pub returns : goal.returns
returns c = sym (other (goal.at.returns c).Else-alike ∙ compared-end c.loop-i.invariant c.loop-i-test.false)
