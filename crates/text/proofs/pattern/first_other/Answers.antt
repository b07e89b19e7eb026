-- `text::pattern::first_other` meets its contract: it is std's search for a place.
use Rattle.std.proofs.Common.{not, rules, tests, ap, ◌∙◌, length}
use Rattle.std.proofs.lemmas.Iterator.{YieldsList-from_slice}
use Rattle.std.proofs.lemmas.Iterator.Search.{position_from_yields_List}
use Rattle.std.specs.Option.{unwrap_or}
use Rattle.text.specs.Letter.{base}
use Rattle.text.proofs.Library.{position-first}
use Rattle.text.proofs.pattern.first_other.Goals as goal

pub returns : goal.returns
returns c =
    let found =
    position_from_yields_List (λ b. not (base b)) _ _ c.position.result c.position.ensures.ran
    (YieldsList-from_slice c.args.bytes.now cc) (λ x b q k. search (rules, tests)) in
    c.unwrap_or.ensures ∙ ap (λ p. unwrap_or p (length c.args.bytes.now)) found ∙ position-first base _
