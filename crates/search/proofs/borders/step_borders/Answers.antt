-- `search::borders::step_borders` meets its contract: what the carried lengths tell, joined with what a fresh start tells, is the step.
use Rattle.search.proofs.BorderSteps.{steps-begun}
use Rattle.search.proofs.borders.step_borders.Goals as goal

pub carried-sent-requires : goal.carried-sent-requires
carried-sent-requires c = let y = c.requires.bordered in record { sound_pattern = y.sized; state_bound = y.state.small }

pub begun-fresh-requires : goal.begun-fresh-requires
begun-fresh-requires c = let y = c.requires.bordered in record { sound_pattern = y.sized; borders = y.holds; variant_value = c.requires.variant_value }

pub returns : goal.returns
returns c =
    steps-begun c.requires.bordered.state.odd c.carried-sent.ensures c.begun-fresh.ensures
