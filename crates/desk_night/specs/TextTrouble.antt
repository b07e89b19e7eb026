-- What is wrong with a manifest, as a trouble of the night.
use Rattle.std.specs.Prelude.{ℕ, List, Option, Result}
use Rattle.std.specs.Option.{option_map}
use Rattle.std.specs.Result.{result_err}
use Rattle.manifest.specs.Check.{checked_of}
use Rattle.manifest.specs.declared.checking.Unsound.{Unsound}
use Rattle.desk_night.specs.Trouble.{of_text}
use Rattle.desk_night.specs.declared.trouble.Trouble.{Trouble}

-- the trouble with a manifest of which this is said
abbrev pub text_trouble : Result ℕ Unsound → Option Trouble
text_trouble said = option_map of_text (result_err said)

-- the trouble with the manifest m
abbrev pub trouble_of : List ℕ → Option Trouble
trouble_of m = text_trouble (checked_of m)
