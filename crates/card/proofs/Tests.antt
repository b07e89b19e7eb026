-- What the answer of a test says, where code asks `if !test(..)`.
use mathlib.Core.Path.{◌≡◌, sym, ◌∙◌}
use mathlib.Core.Bool.{Bool, true, false, not}
use borrow.Author.Tests.{not-true, not-false}

pub passed : {b t : Bool} → b ≡ t → not b ≡ false → t ≡ true
passed {b} e f = sym e ∙ not-false b f

pub failed : {b t : Bool} → b ≡ t → not b ≡ true → t ≡ false
failed {b} e f = sym e ∙ not-true b f
