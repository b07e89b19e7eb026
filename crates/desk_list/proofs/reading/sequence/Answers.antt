-- `desk_list::reading::sequence` meets its contract: the refusals of a pattern, what stands after it, or the sequence.
use native.Mathlib.Omega.{arith}
use borrow.Author.Rules.{rules}
use Rattle.std.proofs.Common.{◌≡◌, Err}
use Rattle.desk_list.specs.Kinds.{blank, word}
use Rattle.desk_list.specs.declared.reading.Fault.TheVariants.{Sequence}
use Rattle.desk_list.proofs.Entries.{sequence-not, sequence-more, sequence-is}
use Rattle.desk_list.proofs.reading.sequence.Goals as goal

pub returns-in_err-check : goal.returns-in_err-check
returns-in_err-check c =
    let refused : c.from_residual.result ≡ Err (Sequence c.in_err-check.field-0.0) = search rules in
    let end = c.past-end.ensures.value word (λ _ _ _ e. e) in
    rw refused (sequence-not _ _ _ end _ c.check.ensures _ c.in_err-check.was, tt)

pub returns-then-not-ends_at : goal.returns-then-not-ends_at
returns-then-not-ends_at c =
    let end = c.past-end.ensures.value word (λ _ _ _ e. e) in
    let rest = c.past-rest.ensures.value blank (λ _ _ _ e. e) in
    (sequence-more _ _ _ end _ c.check.ensures c.in_ok-check.was rest c.ends_at.ensures c.if-not-ends_at.true, tt)

pub returns : goal.returns
returns c =
    let end = c.past-end.ensures.value word (λ _ _ _ e. e) in
    let rest = c.past-rest.ensures.value blank (λ _ _ _ e. e) in (
      sequence-is _ _ _ end _ c.check.ensures c.in_ok-check.was rest c.ends_at.ensures c.if-not-ends_at.false,
      (c.past-end.ensures.lower_bound.0, omega (arith, c.past-end.ensures.lower_bound.1, c.requires)),
    )
