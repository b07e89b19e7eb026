-- `watch::Watched::is_sound` meets its contract: what `check` says of the pattern.
use mathlib.Core.Path.{◌∙◌}
use Rattle.watch.proofs.Records.{wrong-long, sound-checked}
use Rattle.watch.proofs.watched.Watched.is_sound.Goals as goal

pub returns-then-m-gt-GREATEST_PATTERN : goal.returns-then-m-gt-GREATEST_PATTERN
returns-then-m-gt-GREATEST_PATTERN c = wrong-long _ c.if-m-gt-GREATEST_PATTERN.true

pub returns : goal.returns
returns c = c.is_ok.ensures.value ∙ sound-checked _ c.if-m-gt-GREATEST_PATTERN.false _ c.check.ensures
