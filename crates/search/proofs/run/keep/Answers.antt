-- `search::run::keep` meets its contract, whether the run stops or not.
use mathlib.Core.Path.{refl}
use Rattle.search.proofs.run.keep.Goals as goal

pub bounds-marks-k : goal.bounds-marks-k
bounds-marks-k c = c.requires c.if-not-stop.true

pub returns-then-not-stop : goal.returns-then-not-stop
returns-then-not-stop c = let kept = c.if-not-stop.true in rw kept refl

pub returns-else-not-stop : goal.returns-else-not-stop
returns-else-not-stop c = let stops = c.if-not-stop.false in rw stops refl
