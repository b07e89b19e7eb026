-- `cerantuh::forms::searching::search_strand` meets its contract: without room nothing is written; else the search decides.
use Rattle.std.proofs.Common.{◌≡◌, ℕ, List, length, ap, ◌∙◌}
use Rattle.text.specs.Strand.{on_strand}
use Rattle.text.specs.Refusal.{ok, after}
use Rattle.layout.specs.Bytes.{left_by}
use Rattle.search.specs.Answers.{searching, told_searched, sums_of, marked}
use Rattle.cerantuh.proofs.SearchForms.{form-short, form-room, searched-fits}
use Rattle.cerantuh.proofs.forms.searching.search_strand.Goals as goal
use Rattle.cerantuh.proofs.forms.searching.search_strand.Goals.{in-Bits, in-Borders}

pub returns-then-block-lt-SEARCH_BLOCK : goal.returns-then-block-lt-SEARCH_BLOCK
returns-then-block-lt-SEARCH_BLOCK c = let whole = form-short _ _ _ _ _ _ _ c.if-block-lt-SEARCH_BLOCK.true c.roomless.ensures in record { value = whole.0; marks_after = whole.1.0; block_after = whole.1.1 }

pub told-requires : goal.told-requires
told-requires c =
    let Q : List ℕ = on_strand c.args.strand c.args.pattern.now in
    let told = elim c.match-search.branch as (λ _. told_searched c.match-search.searched ≡ after (searching c.args.pattern.now c.args.stretch.now (length c.args.marks.now)) (λ t. ok (sums_of Q t))) [
      | in-Bits w ↦ ap told_searched w.searched-is ∙ w.by_bits-searched.ensures.result_value
      | in-Borders w ↦ ap told_searched w.searched-is ∙ w.by_borders-searched.ensures.result_value
    ] in (
      c.if-block-lt-SEARCH_BLOCK.false,
      searched-fits (marked Q) (sums_of Q) c.args.pattern.now c.args.stretch.now c.args.marks.now c.args.block.now _ told,
    )

pub returns : goal.returns
returns c =
    let Q : List ℕ = on_strand c.args.strand c.args.pattern.now in
    let told = elim c.match-search.branch as (λ _. told_searched c.match-search.searched ≡ after (searching c.args.pattern.now c.args.stretch.now (length c.args.marks.now)) (λ t. ok (sums_of Q t))) [
      | in-Bits w ↦ ap told_searched w.searched-is ∙ w.by_bits-searched.ensures.result_value
      | in-Borders w ↦ ap told_searched w.searched-is ∙ w.by_borders-searched.ensures.result_value
    ] in
    let wrote = elim c.match-search.branch as (λ _. c.match-search.marks ≡ left_by (marked Q) (searching c.args.pattern.now c.args.stretch.now (length c.args.marks.now)) c.args.marks.now) [
      | in-Bits w ↦ w.marks-is ∙ w.by_bits-searched.ensures.marks_after
      | in-Borders w ↦ w.marks-is ∙ w.by_borders-searched.ensures.marks_after
    ] in
    let whole = form-room (marked Q) (sums_of Q) c.args.pattern.now c.args.stretch.now c.args.marks.now c.args.block.now _ told _ _ _
    c.if-block-lt-SEARCH_BLOCK.false wrote (c.told.ensures.value, c.told.ensures.block_after) in
    record { value = whole.0; marks_after = whole.1.0; block_after = whole.1.1 }
