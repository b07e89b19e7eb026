-- `manifest::reading::is_entry` meets its contract, test by test.
use native.Mathlib.Omega.{arith}
use lib.ListN.{take}
use lib.Seq.{length-take-le}
use Rattle.std.proofs.Common.{rules, tests, ◌≡◌, sym, ◌∙◌}
use Rattle.std.proofs.lemmas.Iterator.{YieldsList-from_slice}
use Rattle.std.proofs.lemmas.Iterator.Search.{all_from_yields_List}
use Rattle.text.specs.Letter.{every}
use Rattle.manifest.specs.Kinds.{hex_digit}
use Rattle.manifest.proofs.Sorts.{all-every}
use Rattle.manifest.proofs.Entries.{entry-short, entry-no-digits, entry-no-blanks, entry_named}
use Rattle.manifest.proofs.reading.is_entry.Goals as goal
use Rattle.manifest.proofs.reading.is_entry.Goals.{After-all}

pub returns-then-line-lt66 : goal.returns-then-line-lt66
returns-then-line-lt66 c = entry-short _ (omega (arith, c.if-line-lt66.true))

pub slice_bounds-iter-end : goal.slice_bounds-iter-end
slice_bounds-iter-end c = sym (length-take-le 64 c.args.line.now (omega (arith, c.if-line-lt66.false)))

-- whether the first 64 bytes are digits
digits : (c : After-all) → c.all.result ≡ every hex_digit (take 64 c.args.line.now)
digits c =
    all_from_yields_List hex_digit _ _ c.all.result c.all.ensures.ran (YieldsList-from_slice (take 64 c.args.line.now) cc)
    (λ x b q k. search (rules, tests))
    ∙ all-every hex_digit _

pub returns-then-not-all : goal.returns-then-not-all
returns-then-not-all c = entry-no-digits _ (digits (goal.at.returns-then-not-all c).After-all) c.if-not-all.true

pub returns-then-not-same : goal.returns-then-not-same
returns-then-not-same c =
    entry-no-blanks _ (digits (goal.at.returns-then-not-same c).After-all) c.if-not-all.false c.same.ensures c.if-not-same.true

pub returns : goal.returns
returns c =
    entry_named _ (digits (goal.at.returns c).After-all) c.if-not-all.false c.same.ensures c.if-not-same.false c.is_name.ensures
