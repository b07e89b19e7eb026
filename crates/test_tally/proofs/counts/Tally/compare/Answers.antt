-- `test_tally::Tally::compare` meets its contract: it counts one more, and one more that differs where the answers are not the same.
use Rattle.std.proofs.Common.{◌≡◌, true, false, sym, ◌∙◌}
use Rattle.std.proofs.lemmas.Bool.{not-true, not-false}
use Rattle.test_tally.specs.Answers.{alike}
use Rattle.test_tally.proofs.counts.Tally.compare.Goals as goal

pub returns-then-ne : goal.returns-then-ne
unfolding alike
returns-then-ne c =
    let differs : alike c.args.got c.args.wanted ≡ false = not-true _ (sym c.ne.ensures ∙ c.if-ne.true) in
    rw (c.or-self.ensures, c.more.ensures, differs)

pub returns-else-ne : goal.returns-else-ne
unfolding alike
returns-else-ne c =
    let same : alike c.args.got c.args.wanted ≡ true = not-false _ (sym c.ne.ensures ∙ c.if-ne.false) in
    rw (c.more.ensures, same)
