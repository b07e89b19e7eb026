-- `eds_notation::braced::is_there` meets its contract.
use Rattle.eds_notation.proofs.Shows.{there-as}
use Rattle.eds_notation.proofs.braced.is_there.Goals as goal

pub returns-in-Variant : goal.returns-in-Variant
returns-in-Variant c = there-as _ _ _ _ _ c.in-Variant.is c.read.ensures

pub returns-in-End : goal.returns-in-End
returns-in-End c = there-as _ _ _ _ _ c.in-End.is c.read.ensures

pub returns-in-Refused : goal.returns-in-Refused
returns-in-Refused c = there-as _ _ _ _ _ c.in-Refused.is c.read.ensures
