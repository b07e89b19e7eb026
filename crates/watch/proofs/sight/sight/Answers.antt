-- `watch::sight::sight` meets its contract, by what `complements` and `first_end` ensure.
use borrow.Author.Rules.{rules}
use Prim.Native.Nat.{◌≤◌}
use native.Mathlib.Omega.{arith}
use mathlib.Core.Path.{◌≡◌, ap, ◌∙◌}
use lib.ListN.{length}
use Rattle.watch.specs.Sight.{some_end, text_of}
use Rattle.watch.proofs.Records.{sound-short}
use Rattle.watch.proofs.Sights.{record-vectors, first-is}
use Rattle.watch.proofs.sight.sight.Goals as goal
use Rattle.watch.proofs.sight.sight.Goals.{Start}

-- a record holds 64 bytes, and its pattern no more
full : (c : Start) → length c.args.item.now.pattern ≡ 64
full c = search rules

short : (c : Start) → c.args.item.now.m ≤ 64
short c = sound-short _ c.requires.spells

pub shared_ref_as_front-pattern : goal.shared_ref_as_front-pattern
shared_ref_as_front-pattern c = omega (arith, full (goal.at.shared_ref_as_front-pattern c).Start, short (goal.at.shared_ref_as_front-pattern c).Start)

pub first_end-requires : goal.first_end-requires
first_end-requires c =
    (record-vectors _ _ c.requires.spells c.complements.ensures, c.requires.means)

pub returns : goal.returns
returns c = c.first_end.ensures ∙ ap some_end (first-is c.args.item.now (text_of c.args.stretch.now))
