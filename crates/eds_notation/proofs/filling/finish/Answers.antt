-- `eds_notation::filling::finish` meets its contract.
use Rattle.eds_notation.proofs.Fillings.{acted-as}
use Rattle.eds_notation.proofs.filling.finish.Goals as goal

pub returns : goal.returns
returns c =
    let whole = acted-as _ _ _ _ _ _ _ c.end.ensures (c.put.ensures.value, c.put.ensures.counts_after) in record { value = whole.0; counts_after = whole.1 }
