-- `desk_list::reading::line_at` meets its contract: what the line says, by places in the list.
use native.Mathlib.Omega.{arith}
use lib.ListN.{length-take}
use borrow.Author.Rules.{rules}
use Rattle.std.proofs.Common.{◌≤◌, length, ◌∙◌, ap, Ok}
use Rattle.desk_list.specs.Kinds.{in_line}
use Rattle.desk_list.proofs.Entries.{line-none, line-is, behind-on, close-there, inside-at}
use Rattle.desk_list.proofs.reading.line_at.Goals as goal
use Rattle.desk_list.proofs.reading.line_at.Goals.{After-close-end}

pub returns-then-list-at : goal.returns-then-list-at
returns-then-list-at c = record { value = line-none _ _ c.if-list-at.true; onward = tt }

-- the content ends in the list
ends : (c : After-close-end) → (c.args.at ≤ c.close-end.result) × (c.close-end.result ≤ length c.args.list.now)
ends c = close-there _ c.close-end.ensures c.past-stop.ensures.lower_bound.0 c.past-stop.ensures.lower_bound.1 c.if-list-at.false

pub slice_bounds-content-count : goal.slice_bounds-content-count
slice_bounds-content-count c = let k = ends (goal.at.slice_bounds-content-count c).After-close-end in search (rules, k)

pub slice_bounds-content-start : goal.slice_bounds-content-start
slice_bounds-content-start c = let k = ends (goal.at.slice_bounds-content-start c).After-close-end in search (rules, k)

pub slice_bounds-content-end : goal.slice_bounds-content-end
slice_bounds-content-end c = let k = ends (goal.at.slice_bounds-content-end c).After-close-end in search (rules, k)

pub returns-in-Ok-Some : goal.returns-in-Ok-Some
returns-in-Ok-Some c =
    let is = c.in-Ok-Some.is ∙ ap Ok c.in-Ok-Some.field-0-is in
    let i = inside-at is c.content.ensures.1 in
    let k = ends (goal.at.returns-in-Ok-Some c).After-close-end in
    let b = c.past-stop.ensures.lower_bound in record {
      value = line-is _ _ c.if-list-at.false (c.past-stop.ensures.value in_line (λ _ _ _ e. e)) c.behind-next.ensures c.close-end.ensures
          c.content.ensures.0 is;
      onward = (
        (omega (arith, i.0), omega (arith, simp length-take at i.1, k.0, k.1)),
        behind-on _ c.behind-next.ensures c.if-list-at.false b.0 b.1,
      );
    }

pub returns-in-Ok-None : goal.returns-in-Ok-None
returns-in-Ok-None c =
    let b = c.past-stop.ensures.lower_bound in record {
      value = line-is _ _ c.if-list-at.false (c.past-stop.ensures.value in_line (λ _ _ _ e. e)) c.behind-next.ensures c.close-end.ensures
          c.content.ensures.0 (c.in-Ok-None.is ∙ ap Ok c.in-Ok-None.field-0-is);
      onward = (tt, behind-on _ c.behind-next.ensures c.if-list-at.false b.0 b.1);
    }

pub returns-in-Err : goal.returns-in-Err
returns-in-Err c =
    let b = c.past-stop.ensures.lower_bound in record {
      value = line-is _ _ c.if-list-at.false (c.past-stop.ensures.value in_line (λ _ _ _ e. e)) c.behind-next.ensures c.close-end.ensures
          c.content.ensures.0 c.in-Err.is;
      onward = (tt, behind-on _ c.behind-next.ensures c.if-list-at.false b.0 b.1);
    }
