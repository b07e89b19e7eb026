-- `cerantuh::forms::from::roomless` meets its contract: what the search refuses without room for a mark, else 10.
use Rattle.text.specs.declared.strand.Strand.TheVariants.{Given}
use Rattle.cerantuh.proofs.FromForms.{roomless-fits, roomless-not, roomless-met}
use Rattle.cerantuh.proofs.forms.from.roomless.Goals as goal

pub code-requires : goal.code-requires
code-requires c = roomless-fits _ Given _ _ _ c.through.ensures.result_value _ c.in-Refused.is

pub returns-in-Refused : goal.returns-in-Refused
returns-in-Refused c =
    roomless-not _ Given _ _ _ c.through.ensures.result_value _ _ c.in-Refused.is c.code.ensures

pub returns-in-Marked : goal.returns-in-Marked
returns-in-Marked c = roomless-met _ Given _ _ _ c.through.ensures.result_value _ _ _ _ c.in-Marked.is
