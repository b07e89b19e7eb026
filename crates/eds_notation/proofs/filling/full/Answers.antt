-- `eds_notation::filling::full` meets its contract.
use Rattle.eds_notation.proofs.Fillings.{none-closed, some-closed}
use Rattle.eds_notation.proofs.filling.full.Goals as goal

pub returns-then-tape-eq0 : goal.returns-then-tape-eq0
returns-then-tape-eq0 c = none-closed _ c.if-tape-eq0.true

pub returns : goal.returns
returns c = some-closed _ c.if-tape-eq0.false
