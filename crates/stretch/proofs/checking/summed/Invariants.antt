-- `stretch::checking::summed` meets its contract. The loop's invariant, `Going`: the walk stands after the segments that were read. The measure is the
-- number of segments left.
use Prim.Native.Nat.{◌-◌}
use Rattle.text.specs.Text.{Text}
use Rattle.layout.proofs.Going.{Going}
use Rattle.stretch.proofs.checking.summed.Given as goal

abbrev pub invariant-loop-walk : goal.invariant-loop-walk
invariant-loop-walk l = (seen : Text) × Going l.stretch l.initial.walk.count l.initial.walk.at seen l.walk

abbrev pub decreases-loop-walk : goal.decreases-loop-walk
decreases-loop-walk l = l.initial.walk.count - l.walk.passed
