-- `screen::screen` meets its contract: the lines of what was read are those of the whole input, and there is room for them.
use Rattle.std.proofs.Common.{arith, rules}
use Rattle.screen.proofs.Cuts.{screened-is}
use Rattle.screen.proofs.screen.Goals as goal

pub returns : goal.returns
returns c =
    screened-is _ _ _ (λ i. omega (arith, c.shared_slice_known-1.given i)) c.requires.1 _ _ _ c.requires.2 (search rules)
    c.screened.ensures
