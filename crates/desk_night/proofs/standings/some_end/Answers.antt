-- `desk_night::standings::some_end` meets its contract: what the walk over the first of the standings finds.
use native.Mathlib.Omega.{arith}
use borrow.Author.Rules.{rules}
use borrow.Author.Tests.{tests}
use mathlib.Core.Path.{◌≡◌, ap, ◌∙◌}
use lib.ListN.{take}
use Prim.Native.Nat.{ℕ}
use Rattle.std.proofs.lemmas.Iterator.{YieldsList-from_slice, cases_from_any}
use Rattle.desk_verdict.specs.declared.standing.Standing.{Standing}
use Rattle.desk_night.specs.Standings.{some_end}
use Rattle.desk_night.proofs.Asks.{any-ended}
use Rattle.desk_night.proofs.standings.some_end.Goals as goal

pub returns : goal.returns
returns c =
    let found = cases_from_any _ _ _ (λ (x : Standing). x.ends ≡ 0 → ⊥) (λ (x : Standing). x.ends ≡ 0) c.any.ensures.ran
    (YieldsList-from_slice (take c.min.result c.args.standings.now) c.iter.ensures.rest)
    (λ x q k. search (rules, tests)) (λ x q k. search (rules, tests)) in
    any-ended c.min.result c.args.standings.now (omega arith) _ found ∙ ap (λ (n : ℕ). some_end n c.args.standings.now) c.min.ensures
