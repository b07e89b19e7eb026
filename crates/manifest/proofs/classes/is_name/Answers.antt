-- `manifest::classes::is_name` meets its contract: every byte is one of a name's, after the tests before.
use Rattle.std.proofs.Common.{rules, tests, sym, ◌∙◌}
use Rattle.std.proofs.lemmas.Iterator.{YieldsList-from_slice}
use Rattle.std.proofs.lemmas.Iterator.Search.{all_from_yields_List}
use borrow.Author.Tests.{eqb-false}
use Rattle.manifest.specs.Kinds.{of_name}
use Rattle.manifest.proofs.Sorts.{all-every, name-is}
use Rattle.manifest.proofs.classes.is_name.Goals as goal

pub returns : goal.returns
returns c =
    let every =
    all_from_yields_List of_name _ _ c.all.result c.all.ensures.ran (YieldsList-from_slice c.args.name.now cc)
    (λ x b q k. search (rules, tests)) in
    name-is _ (eqb-false _ _ (sym c.is_empty.ensures ∙ c.if-is_empty.false)) c.if-name-eq47.false (every ∙ all-every of_name _)
