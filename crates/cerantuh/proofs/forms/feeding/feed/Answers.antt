-- `cerantuh::forms::feeding::feed` meets its contract: what the feed refuses, or its two numbers.
use Rattle.cerantuh.proofs.FeedForms.{fed-fits, form-not, form-met}
use Rattle.cerantuh.proofs.forms.feeding.feed.Goals as goal

pub code-requires : goal.code-requires
code-requires c =
    fed-fits _ _ _ _ c.args.block.now _ c.feed.ensures _ c.in-Refused.is

pub returns-in-Refused : goal.returns-in-Refused
returns-in-Refused c =
    let whole = form-not _ _ _ _ _ _ c.feed.ensures _ c.in-Refused.is _ c.code.ensures in record { value = whole.0; block_after = whole.1 }

pub returns-in-Next : goal.returns-in-Next
returns-in-Next c =
    let whole = form-met _ _ _ _ c.args.block.now _ c.feed.ensures _ _ _ _ c.in-Next.is
    (c.two.ensures.value, c.two.ensures.block_after) in record { value = whole.0; block_after = whole.1 }
