-- `vcf::records::record::are_alternates` meets its contract.
use mathlib.Core.Path.{sym, ◌∙◌}
use Rattle.vcf.proofs.Alleles.{sound_none, sound-many, sound-few}
use Rattle.vcf.proofs.records.record.are_alternates.Goals as goal

pub returns-then-is_none : goal.returns-then-is_none
returns-then-is_none c = sym (sound_none _ (sym c.is_none.ensures ∙ c.if-is_none.true))

pub returns-then-more_than : goal.returns-then-more_than
returns-then-more_than c =
    sym (sound-many _ (sym c.is_none.ensures ∙ c.if-is_none.false) (sym c.more_than.ensures ∙ c.if-more_than.true))

pub returns : goal.returns
returns c =
    c.are_alleles.ensures
    ∙ sound-few _ (sym c.is_none.ensures ∙ c.if-is_none.false) (sym c.more_than.ensures ∙ c.if-more_than.false)
