-- `cerantuh::forms::searching::told` meets its contract: a refusal's code, or the three numbers put one after another.
use Rattle.cerantuh.proofs.SearchForms.{told-not, told-fits, told-put}
use Rattle.cerantuh.proofs.forms.searching.told.Goals as goal

pub code-requires : goal.code-requires
code-requires c =
    told-fits _ c.args.block.now _ c.in-Refused.is
    c.requires.1

pub returns-in-Refused : goal.returns-in-Refused
returns-in-Refused c = let whole = told-not _ _ _ _ c.in-Refused.is c.code.ensures in record { value = whole.0; block_after = whole.1 }

pub returns-in-Marked : goal.returns-in-Marked
returns-in-Marked c =
    let whole = told-put _ c.args.block.now _ _ _ _ _ _ c.in-Marked.is c.requires.0 c.put.ensures
    c.put-in-Marked.ensures
    c.put-in-Marked-2.ensures in record { value = whole.0; block_after = whole.1 }
