-- `card::rows::ends::first_end` meets its contract: it is std's search for a place.
use Rattle.std.proofs.Common.{◌≡◌, ◌∙◌, ap, sym, ℕ, length, cond, Option, Some, None, rules, tests}
use lib.Dec.{ltb}
use Rattle.std.specs.List.{position_or_len}
use Rattle.std.specs.Option.{unwrap_or}
use Rattle.std.proofs.lemmas.Iterator.{YieldsList-from_slice}
use Rattle.std.proofs.lemmas.Iterator.Search.{position_from_yields_List}
use Rattle.text.specs.Card.{none}
use Rattle.card.proofs.FirstEnds.{is_one, first-position}
use Rattle.card.proofs.rows.ends.first_end.Goals as goal
use Rattle.card.proofs.rows.ends.first_end.Goals.{After-position}

-- what std finds
found : (c : After-position) → let marks = c.args.marks.now in
    c.position.result ≡ cond (ltb (position_or_len is_one marks) (length marks)) (Some (position_or_len is_one marks)) None
found c =
    position_from_yields_List is_one _ _ c.position.result c.position.ensures.ran
    (YieldsList-from_slice c.args.marks.now cc) (λ x b q k. search (rules, tests))

pub returns-in-Some : goal.returns-in-Some
returns-in-Some c =
    ap (λ (o : Option ℕ). unwrap_or o none) (sym c.in-Some.is)
    ∙ first-position _ _ c.requires (found (goal.at.returns-in-Some c).After-position)

pub returns-in-None : goal.returns-in-None
returns-in-None c =
    ap (λ (o : Option ℕ). unwrap_or o none) (sym c.in-None.is)
    ∙ first-position _ _ c.requires (found (goal.at.returns-in-None c).After-position)
