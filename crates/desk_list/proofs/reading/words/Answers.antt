-- `desk_list::reading::words` meets its contract, test by test.
use borrow.Author.Rules.{rules}
use Rattle.std.proofs.Common.{◌≡◌, Err, None}
use Rattle.desk_list.specs.Kinds.{blank, digit}
use Rattle.desk_list.specs.declared.reading.Fault.TheVariants.{LargeLabel}
use Rattle.desk_list.proofs.Entries.{says_nothing, says-no-label, says-large, says-joined, says-no-sequence, says-sequence}
use Rattle.desk_list.proofs.reading.words.Goals as goal

pub returns-then-ends_at : goal.returns-then-ends_at
returns-then-ends_at c =
    let first = c.past-first.ensures.value blank (λ _ _ _ e. e) in
    (says_nothing _ first c.ends_at.ensures c.if-ends_at.true, tt)

pub returns-then-digits-first : goal.returns-then-digits-first
returns-then-digits-first c =
    let first = c.past-first.ensures.value blank (λ _ _ _ e. e) in
    let digits = c.past-digits.ensures.value digit (λ _ _ _ e. e) in
    (says-no-label _ first c.ends_at.ensures c.if-ends_at.false digits c.if-digits-first.true, tt)

pub returns-in_err-label : goal.returns-in_err-label
returns-in_err-label c =
    let first = c.past-first.ensures.value blank (λ _ _ _ e. e) in
    let digits = c.past-digits.ensures.value digit (λ _ _ _ e. e) in
    let none : c.told.result ≡ None = c.in_err-label.ensures.ok_part in
    let wrong : c.from_residual.result ≡ Err c.in_err-label.field-0.0 = search rules in
    let value = rw none at c.in_err-label.ensures.value in
    let large : c.in_err-label.field-0.0 ≡ LargeLabel = cc in
    rw (wrong, large) (says-large _ first c.ends_at.ensures c.if-ends_at.false digits c.if-digits-first.false c.told.ensures none, tt)

pub returns-then-start-digits : goal.returns-then-start-digits
returns-then-start-digits c =
    let first = c.past-first.ensures.value blank (λ _ _ _ e. e) in
    let digits = c.past-digits.ensures.value digit (λ _ _ _ e. e) in
    let start = c.past-start.ensures.value blank (λ _ _ _ e. e) in (
      says-joined _ first c.ends_at.ensures c.if-ends_at.false digits c.if-digits-first.false c.told.ensures c.in_ok-label.ensures.ok_part start
          c.if-start-digits.true,
      tt,
    )

pub returns-then-ends_at-2 : goal.returns-then-ends_at-2
returns-then-ends_at-2 c =
    let first = c.past-first.ensures.value blank (λ _ _ _ e. e) in
    let digits = c.past-digits.ensures.value digit (λ _ _ _ e. e) in
    let start = c.past-start.ensures.value blank (λ _ _ _ e. e) in (
      says-no-sequence _ first c.ends_at.ensures c.if-ends_at.false digits c.if-digits-first.false c.told.ensures c.in_ok-label.ensures.ok_part
          start c.if-start-digits.false c.ends_at-2.ensures c.if-ends_at-2.true,
      tt,
    )

pub returns : goal.returns
returns c =
    let first = c.past-first.ensures.value blank (λ _ _ _ e. e) in
    let digits = c.past-digits.ensures.value digit (λ _ _ _ e. e) in
    let start = c.past-start.ensures.value blank (λ _ _ _ e. e) in (
      says-sequence _ first c.ends_at.ensures c.if-ends_at.false digits c.if-digits-first.false c.told.ensures c.in_ok-label.ensures.ok_part start
          c.if-start-digits.false c.ends_at-2.ensures c.if-ends_at-2.false c.sequence.ensures.0,
      c.sequence.ensures.1,
    )
