-- `lines::answer::put_first` meets its contract: the first mark that is 1 is the first segment that is named.
use Prim.Native.Nat.{◌<◌}
use native.Mathlib.Omega.{arith}
use mathlib.Core.Path.{◌≡◌}
use borrow.Author.Tests.{tests}
use borrow.Author.Rules.{rules}
use lib.ListN.{length}
use Rattle.std.proofs.lemmas.Iterator.{IsFirst-from_position, YieldsList-from_slice}
use Rattle.std.specs.List.{AllWithin, HoldsAt}
use Rattle.std.specs.Option.{MatchOption}
use Rattle.lines.proofs.Marked.{first-marked, none-marked}
use Rattle.lines.proofs.answer.put_first.Goals as goal
use Rattle.lines.proofs.answer.put_first.Goals.{After-position}

-- where the first mark that is 1 stands
first :
    (c : After-position) →
    MatchOption c.position.result (AllWithin (λ x. x ≡ 1 → ⊥) c.args.marks.now 0 (length c.args.marks.now))
    (λ i. (i < length c.args.marks.now) × HoldsAt (λ x. x ≡ 1) c.args.marks.now i × AllWithin (λ x. x ≡ 1 → ⊥) c.args.marks.now 0 i)
first c =
    IsFirst-from_position _ _ _ (λ x. x ≡ 1) (λ x. x ≡ 1 → ⊥) c.position.ensures.ran (YieldsList-from_slice c.args.marks.now cc)
    (λ x q k. search (rules, tests)) (λ x q k. search (rules, tests))

pub returns-in-Some : goal.returns-in-Some
returns-in-Some c =
    let f = rw c.in-Some.is at (first (goal.at.returns-in-Some c).After-position) in
    rw (← first-marked c.args.marks.now c.in-Some.j f.0 (f.1 0) (λ i l. f.2 i 0 (omega arith) l)) c.put_line.ensures

pub returns-in-None : goal.returns-in-None
returns-in-None c =
    let f = rw c.in-None.is at (first (goal.at.returns-in-None c).After-position) in
    rw (← none-marked c.args.marks.now (λ i l. f i 0 (omega arith) l)) c.put_bytes.ensures
