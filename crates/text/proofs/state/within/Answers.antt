-- `text::state::within` meets its contract: a number of 64 bits is at most its lowest m bits exactly when it is below 2 ^ m.
use mathlib.Core.Path.{ap, ◌∙◌}
use borrow.Author.Rules.{rules}
use lib.Dec.{leb}
use Rattle.text.proofs.States.{within_low}
use Rattle.text.proofs.state.within.Goals as goal

pub returns : goal.returns
returns c =
    ap (leb c.args.bits) c.low.ensures ∙ within_low c.args.m c.args.bits (search rules)
