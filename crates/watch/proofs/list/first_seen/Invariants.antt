-- `watch::list::first_seen` meets its contract. The loop's invariant: no record before ends anywhere in the stretch.
use Rattle.std.proofs.Common.{◌≡◌, drop}
use Rattle.watch.specs.Watching.{first_seen}
use Rattle.watch.specs.Sight.{text_of}
use Rattle.watch.proofs.list.first_seen.Given as goal

abbrev pub invariant-loop-item : goal.invariant-loop-item
invariant-loop-item l = first_seen l.list (text_of l.stretch) ≡ first_seen (drop l.item-index l.list) (text_of l.stretch)
