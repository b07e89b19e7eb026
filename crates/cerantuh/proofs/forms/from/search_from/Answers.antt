-- `cerantuh::forms::from::search_from` meets its contract: without room nothing is written; else the search decides.
use Rattle.cerantuh.proofs.FromForms.{form-short, form-room, sought-fits}
use Rattle.cerantuh.proofs.forms.from.search_from.Goals as goal

pub returns-then-block-lt-FROM_BLOCK : goal.returns-then-block-lt-FROM_BLOCK
returns-then-block-lt-FROM_BLOCK c =
    let whole = form-short c.args.pattern.now c.args.strand _ _ c.args.marks.now c.args.block.now _ c.if-block-lt-FROM_BLOCK.true c.roomless.ensures in record { value = whole.0; marks_after = whole.1.0; block_after = whole.1.1 }

pub told-requires : goal.told-requires
told-requires c = (
  c.if-block-lt-FROM_BLOCK.false,
  sought-fits c.args.pattern.now c.args.strand c.args.state c.args.stretch.now c.args.marks.now c.args.block.now c.through-sought.result
      c.through-sought.ensures.result_value,
)

pub returns : goal.returns
returns c =
    let whole = form-room c.args.pattern.now c.args.strand c.args.state c.args.stretch.now c.args.marks.now c.args.block.now c.through-sought.result
    c.through-sought.ensures.result_value _ _ _
    c.if-block-lt-FROM_BLOCK.false c.through-sought.ensures.marks_after (c.told.ensures.value, c.told.ensures.block_after) in record { value = whole.0; marks_after = whole.1.0; block_after = whole.1.1 }
