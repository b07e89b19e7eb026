-- `manifest::reading::line_at` meets its contract, test by test.
use native.Mathlib.Omega.{arith}
use Rattle.std.proofs.Common.{rules, tests, ◌≡◌, ℕ, List, ap, ◌-◌, ◌∙◌, length, take, drop}
use Rattle.std.proofs.lemmas.Iterator.{YieldsList-from_slice}
use Rattle.std.proofs.lemmas.Iterator.Search.{position_from_yields_List}
use Rattle.std.specs.Option.{unwrap_or}
use Rattle.std.specs.Prelude.{position}
use lib.Dec.{eqb}
use Rattle.text.specs.Letter.{first_not}
use Rattle.text.proofs.Library.{position-first}
use Rattle.manifest.specs.Kinds.{in_line}
use Rattle.manifest.proofs.Sorts.{feed-test}
use Rattle.manifest.proofs.Entries.{line-none, line-cut, line-comment, line-entry, line_other, line-room, onward-is}
use Rattle.manifest.proofs.reading.line_at.Goals as goal
use Rattle.manifest.proofs.reading.line_at.Goals.{After-unwrap_or-length}

-- where the line feed is, or the end
feed :
    (c : After-unwrap_or-length) →
    c.unwrap_or-length.result ≡ first_not in_line (take (length c.args.manifest.now - c.args.at) (drop c.args.at c.args.manifest.now))
feed c =
    let rest : List ℕ = take (length c.args.manifest.now - c.args.at) (drop c.args.at c.args.manifest.now) in
    let found =
    position_from_yields_List (λ b. eqb b 10) _ _ c.position.result c.position.ensures.ran (YieldsList-from_slice rest cc)
    (λ x b q k. search (rules, tests)) in
    c.unwrap_or-length.ensures
    ∙ ap (λ p. unwrap_or p (length rest)) found
    ∙ (λ i. unwrap_or (position (λ b. feed-test b i) rest) (length rest))
    ∙ position-first in_line rest

pub returns-then-manifest-at : goal.returns-then-manifest-at
returns-then-manifest-at c = record { value = line-none _ _ c.if-manifest-at.true; onward = tt }

pub returns-then-manifest-end : goal.returns-then-manifest-end
returns-then-manifest-end c =
    let h = c.if-manifest-at.false in
    let e = line-cut _ _ h (feed (goal.at.returns-then-manifest-end c).After-unwrap_or-length) c.if-manifest-end.true in
    record { value = e; onward = onward-is _ _ h e }

pub returns-then-is_comment : goal.returns-then-is_comment
returns-then-is_comment c =
    let h = c.if-manifest-at.false in
    let e = line-comment _ _ h (feed (goal.at.returns-then-is_comment c).After-unwrap_or-length) c.if-manifest-end.false c.is_comment.ensures c.if-is_comment.true in
    record { value = e; onward = onward-is _ _ h e }

pub overflow_add-start : goal.overflow_add-start
overflow_add-start c =
    omega (
      arith,
      line-room _ _ c.if-manifest-at.false (feed (goal.at.overflow_add-start c).After-unwrap_or-length) c.if-manifest-end.false c.is_comment.ensures c.if-is_comment.false
          c.is_entry.ensures c.if-is_entry.true,
    )

pub returns-then-is_entry : goal.returns-then-is_entry
returns-then-is_entry c =
    let h = c.if-manifest-at.false in
    let e =
    line-entry _ _ h (feed (goal.at.returns-then-is_entry c).After-unwrap_or-length) c.if-manifest-end.false c.is_comment.ensures c.if-is_comment.false c.is_entry.ensures
    c.if-is_entry.true in
    record { value = e; onward = onward-is _ _ h e }

pub returns : goal.returns
returns c =
    let h = c.if-manifest-at.false in
    let e =
    line_other _ _ h (feed (goal.at.returns c).After-unwrap_or-length) c.if-manifest-end.false c.is_comment.ensures c.if-is_comment.false c.is_entry.ensures
    c.if-is_entry.false in
    record { value = e; onward = onward-is _ _ h e }
