-- `pool_files::held::Held::record` meets its contract.
use Rattle.std.proofs.Common.{◌∙◌, arith}
use Rattle.pool_files.proofs.Rooms.{record-full, record-fit}
use Rattle.pool_files.proofs.held.Held.record.Goals as goal

pub returns-in_err-bytes : goal.returns-in_err-bytes
returns-in_err-bytes c = c.from_residual.ensures ∙ record-full _ _ (omega (arith, c.in_err-bytes.ensures))

pub returns-then-bytes-gt-GREATEST_STRETCH : goal.returns-then-bytes-gt-GREATEST_STRETCH
returns-then-bytes-gt-GREATEST_STRETCH c = record-full _ _ (omega (arith, c.in_ok-bytes.ensures))

pub returns : goal.returns
returns c = rw c.in_ok-bytes.ensures.1 (record-fit _ _ (omega (arith, c.in_ok-bytes.ensures)))
