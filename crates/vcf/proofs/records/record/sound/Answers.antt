-- `vcf::records::record::sound` meets its contract: each test of a field is one of the definition.
use mathlib.Core.Path.{◌≡◌, sym, ap, ◌∙◌}
use borrow.Author.Tests.{not-true, not-false}
use lib.ListN.{length}
use mathlib.Core.Bool.{true}
use mathlib.Core.List.{List}
use Prim.Native.Nat.{ℕ}
use lib.Dec.{ltb}
use Rattle.text.specs.Compare.{same}
use Rattle.vcf.specs.Pieces.{pieces}
use Rattle.vcf.specs.Records.{field, position_of, stated, allele, alternates_sound}
use Rattle.vcf.proofs.Alleles.{through, few-fields, wrong_name, wrong-reference, wrong-alternates, stated-position}
use Rattle.vcf.proofs.records.record.sound.Goals as goal
use Rattle.vcf.proofs.records.record.sound.Goals.{Else-not-is_allele, Else-not-more_than, Else-not-same}

abbrev name_of : Else-not-more_than → List ℕ
name_of c = c.args.name.now

abbrev line_of : Else-not-more_than → List ℕ
line_of c = c.args.line.now

-- what the tests that were passed say
enough : (c : Else-not-more_than) → ltb 7 (length (pieces 0x09 (line_of c))) ≡ true
enough c = sym c.more_than.ensures ∙ not-false _ c.if-not-more_than.false-raw

named : (c : Else-not-same) → same (field (line_of (goal.at.Else-not-same c).Else-not-more_than) 0) (name_of (goal.at.Else-not-same c).Else-not-more_than) ≡ true
named c =
    through (λ (x : List ℕ). same x (name_of (goal.at.Else-not-same c).Else-not-more_than)) c.field-chromosome.ensures c.same.ensures
    (not-false _ c.if-not-same.false-raw)

refd : (c : Else-not-is_allele) → allele (field (line_of (goal.at.Else-not-is_allele c).Else-not-more_than) 3) ≡ true
refd c = through allele c.field-reference.ensures c.is_allele.ensures (not-false _ c.if-not-is_allele.false-raw)

pub returns-then-not-more_than : goal.returns-then-not-more_than
returns-then-not-more_than c = sym (few-fields _ _ (sym c.more_than.ensures ∙ not-true _ c.if-not-more_than.true-raw))

pub returns-then-not-same : goal.returns-then-not-same
returns-then-not-same c =
    let e = through (λ (x : List ℕ). same x (name_of (goal.at.returns-then-not-same c).Else-not-more_than)) c.field-chromosome.ensures c.same.ensures
    (not-true _ c.if-not-same.true-raw) in
    sym (wrong_name _ _ (enough (goal.at.returns-then-not-same c).Else-not-more_than) e)

pub returns-then-not-is_allele : goal.returns-then-not-is_allele
returns-then-not-is_allele c =
    let e = through allele c.field-reference.ensures c.is_allele.ensures (not-true _ c.if-not-is_allele.true-raw) in
    sym (wrong-reference _ _ (enough (goal.at.returns-then-not-is_allele c).Else-not-more_than) (named (goal.at.returns-then-not-is_allele c).Else-not-same) e)

pub returns-then-not-are_alternates : goal.returns-then-not-are_alternates
returns-then-not-are_alternates c =
    let e = through alternates_sound c.field-alt.ensures c.are_alternates.ensures (not-true _ c.if-not-are_alternates.true-raw) in
    sym (wrong-alternates _ _ (enough (goal.at.returns-then-not-are_alternates c).Else-not-more_than) (named (goal.at.returns-then-not-are_alternates c).Else-not-same) (refd (goal.at.returns-then-not-are_alternates c).Else-not-is_allele) e)

pub returns : goal.returns
returns c =
    let e = through alternates_sound c.field-alt.ensures c.are_alternates.ensures (not-false _ c.if-not-are_alternates.false-raw) in
    c.position.ensures ∙ ap (λ (x : List ℕ). stated (position_of x)) c.field-stated.ensures ∙ sym
    (stated-position _ _ (enough (goal.at.returns c).Else-not-more_than) (named (goal.at.returns c).Else-not-same) (refd (goal.at.returns c).Else-not-is_allele) e)
