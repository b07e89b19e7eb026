-- `text::pattern::check` meets its contract. Each answer is a law of `pattern`, from the tests that led to it
-- and from what `any_other` and `first_other` ensure.
use mathlib.Core.Path.{sym}
use Rattle.text.specs.Refusal.{ok}
use Rattle.text.proofs.Patterns.{pattern-empty, pattern-long, pattern-byte, bases-sound, sound-pattern}
use Rattle.text.proofs.pattern.check.Goals as goal

pub returns-then-m-eq0 : goal.returns-then-m-eq0
returns-then-m-eq0 c = sym (pattern-empty _ (ok tt) c.if-m-eq0.true)

pub returns-then-m-gt-GREATEST_PATTERN : goal.returns-then-m-gt-GREATEST_PATTERN
returns-then-m-gt-GREATEST_PATTERN c = sym (pattern-long _ (ok tt) c.if-m-gt-GREATEST_PATTERN.true)

pub returns-then-any_other : goal.returns-then-any_other
returns-then-any_other c =
    let k = c.first_other.ensures in
    sym (pattern-byte _ c.if-m-eq0.false c.if-m-gt-GREATEST_PATTERN.false c.any_other.ensures (ok tt) _ k c.if-any_other.true)

pub returns : goal.returns
returns c =
    sym (sound-pattern _ (bases-sound _ c.if-m-eq0.false c.if-m-gt-GREATEST_PATTERN.false c.any_other.ensures c.if-any_other.false) (ok tt))
