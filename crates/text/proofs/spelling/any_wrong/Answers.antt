-- `text::spelling::any_wrong` meets its contract, from what `first_wrong` tells of few bytes and `wrong_in_blocks` of many.
use Prim.Native.Nat.{ℕ}
use mathlib.Core.Path.{ap, ◌∙◌}
use lib.Dec.{ltb}
use lib.ListN.{length}
use Rattle.text.specs.Letter.{letter}
use Rattle.text.proofs.Letters.{first-before}
use Rattle.text.proofs.spelling.any_wrong.Goals as goal

pub returns-then-part-lt-BLOCK : goal.returns-then-part-lt-BLOCK
returns-then-part-lt-BLOCK c =
    let part = c.args.part.now in
    ap (λ (n : ℕ). ltb n (length part)) c.first_wrong.ensures ∙ first-before letter part
