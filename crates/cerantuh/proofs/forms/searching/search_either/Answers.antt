-- `cerantuh::forms::searching::search_either` meets its contract: without room nothing is written; else the search decides.
use Rattle.search.specs.Either.{either_marks, either_sums}
use Rattle.cerantuh.proofs.SearchForms.{form-short, form-room, searched-fits}
use Rattle.cerantuh.proofs.forms.searching.search_either.Goals as goal

pub returns-then-block-lt-SEARCH_BLOCK : goal.returns-then-block-lt-SEARCH_BLOCK
returns-then-block-lt-SEARCH_BLOCK c = let whole = form-short _ _ _ _ _ _ _ c.if-block-lt-SEARCH_BLOCK.true c.roomless.ensures in record { value = whole.0; marks_after = whole.1.0; block_after = whole.1.1 }

pub told-requires : goal.told-requires
told-requires c = (
  c.if-block-lt-SEARCH_BLOCK.false,
  searched-fits (either_marks c.args.pattern.now) (either_sums c.args.pattern.now) c.args.pattern.now c.args.stretch.now
      c.args.marks.now c.args.block.now c.either-searched.result c.either-searched.ensures.result_value,
)

pub returns : goal.returns
returns c =
    let whole = form-room (either_marks c.args.pattern.now) (either_sums c.args.pattern.now) c.args.pattern.now c.args.stretch.now c.args.marks.now
    c.args.block.now c.either-searched.result c.either-searched.ensures.result_value _ _ _
    c.if-block-lt-SEARCH_BLOCK.false c.either-searched.ensures.marks_after (c.told.ensures.value, c.told.ensures.block_after) in record { value = whole.0; marks_after = whole.1.0; block_after = whole.1.1 }
