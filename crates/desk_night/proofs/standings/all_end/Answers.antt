-- `desk_night::standings::all_end` meets its contract: what the walk over the first of the standings finds.
use native.Mathlib.Omega.{arith}
use borrow.Author.Rules.{rules}
use borrow.Author.Tests.{tests}
use mathlib.Core.Path.{◌≡◌, ap, ◌∙◌}
use lib.ListN.{take}
use Prim.Native.Nat.{ℕ}
use Rattle.std.proofs.lemmas.Iterator.{YieldsList-from_slice, cases_from_all}
use Rattle.desk_verdict.specs.declared.standing.Standing.{Standing}
use Rattle.desk_night.specs.Standings.{all_end}
use Rattle.desk_night.proofs.Asks.{all-ended}
use Rattle.desk_night.proofs.standings.all_end.Goals as goal

pub returns : goal.returns
returns c =
    let found = cases_from_all _ _ _ (λ (x : Standing). x.ends ≡ 0 → ⊥) (λ (x : Standing). x.ends ≡ 0) c.all.ensures.ran
    (YieldsList-from_slice (take c.min.result c.args.standings.now) c.iter.ensures.rest)
    (λ x q k. search (rules, tests)) (λ x q k. search (rules, tests)) in
    all-ended c.min.result c.args.standings.now (omega arith) _ found ∙ ap (λ (n : ℕ). all_end n c.args.standings.now) c.min.ensures
