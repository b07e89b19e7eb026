-- `card::Card::is_padded` meets its contract: the pattern is checked, and filled up again.
use borrow.Author.Rules.{rules}
use mathlib.Core.Path.{◌≡◌, sym, ap, ◌∙◌}
use lib.ListN.{length}
use Rattle.text.specs.Compare.{same}
use Rattle.text.specs.declared.strand.Strand.TheVariants.{Given}
use Rattle.text.proofs.Library.{pointwise-same}
use Rattle.text.proofs.Strands.{read-padded}
use Rattle.card.proofs.Formed.{head-long, head-short, padded-checked, padded-unchecked}
use Rattle.card.proofs.cards.Card.is_padded.Goals as goal
use Rattle.card.proofs.cards.Card.is_padded.Goals.{Start}

-- a card holds 64 bytes
full : (c : Start) → length c.args.self.now.pattern ≡ 64
full c = search rules

pub slice_bounds-bases-end : goal.slice_bounds-bases-end
slice_bounds-bases-end c = head-long _ _ (full (goal.at.slice_bounds-bases-end c).Start) c.requires

pub returns-then-is_ok : goal.returns-then-is_ok
returns-then-is_ok c =
    let long = full (goal.at.returns-then-is_ok c).Start in
    let short = head-short c.args.self.now.pattern c.args.self.now.m long c.requires in
    c.eq.ensures
    ∙ pointwise-same _ _
    ∙ ap (same _) (c.read_on.ensures ∙ read-padded Given _ short)
    ∙ padded-checked _ _ long c.requires _ c.check.ensures (sym c.is_ok.ensures.value ∙ c.if-is_ok.true)

pub returns-else-is_ok : goal.returns-else-is_ok
returns-else-is_ok c =
    c.if-is_ok.false
    ∙ padded-unchecked _ _ (full (goal.at.returns-else-is_ok c).Start) c.requires _ c.check.ensures (sym c.is_ok.ensures.value ∙ c.if-is_ok.false)
