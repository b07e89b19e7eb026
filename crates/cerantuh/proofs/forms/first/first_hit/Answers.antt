-- `cerantuh::forms::first::first_hit` meets its contract: what is refused, or the two numbers of the first hit.
use Rattle.cerantuh.proofs.FirstForms.{first_fits, form-not, form-ends, form-clear}
use Rattle.cerantuh.proofs.forms.first.first_hit.Goals as goal

pub code-requires : goal.code-requires
code-requires c =
    first_fits _ _ _ _ c.args.block.now _ c.first.ensures _ c.in-Refused.is

pub returns-in-Refused : goal.returns-in-Refused
returns-in-Refused c =
    let whole = form-not _ _ _ _ _ _ c.first.ensures _ c.in-Refused.is _ c.code.ensures in record { value = whole.0; block_after = whole.1 }

pub returns-in-Ends : goal.returns-in-Ends
returns-in-Ends c =
    let whole = form-ends _ _ _ _ c.args.block.now _ c.first.ensures _ _ _ c.in-Ends.is
    (c.two.ensures.value, c.two.ensures.block_after) in record { value = whole.0; block_after = whole.1 }

pub returns-in-None : goal.returns-in-None
returns-in-None c =
    let whole = form-clear _ _ _ _ c.args.block.now _ c.first.ensures _ _ _ c.in-None.is
    (c.two-in-None.ensures.value, c.two-in-None.ensures.block_after) in record { value = whole.0; block_after = whole.1 }
