-- `watch::list::wrong` meets its contract: it is std's search for a place.
use Rattle.std.proofs.Common.{◌∙◌, rules, tests}
use Rattle.std.proofs.lemmas.Iterator.{YieldsList-from_slice}
use Rattle.std.proofs.lemmas.Iterator.Search.{position_from_yields_List}
use Rattle.watch.proofs.Calls.{is_wrong, wrong-is}
use Rattle.watch.proofs.list.wrong.Goals as goal

pub returns : goal.returns
returns c =
    position_from_yields_List is_wrong _ _ c.position.result c.position.ensures.ran
    (YieldsList-from_slice c.args.list.now cc) (λ x b q k. search (rules, tests))
    ∙ wrong-is c.args.list.now
