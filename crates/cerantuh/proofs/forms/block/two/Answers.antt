-- `cerantuh::forms::block::two` meets its contract: 10 where there is no room, else the two numbers one after another.
use Rattle.cerantuh.proofs.Rooms.{two-short, two-room}
use Rattle.cerantuh.proofs.forms.block.two.Goals as goal

pub returns-then-block-lt-TWO_RESULTS : goal.returns-then-block-lt-TWO_RESULTS
returns-then-block-lt-TWO_RESULTS c = let whole = two-short _ _ _ c.if-block-lt-TWO_RESULTS.true in record { value = whole.0; block_after = whole.1 }

pub returns : goal.returns
returns c =
    let whole = two-room _ _ _ _ _ c.if-block-lt-TWO_RESULTS.false c.put.ensures c.put-2.ensures in record { value = whole.0; block_after = whole.1 }
