use Rattle.std.proofs.Common.{◌≡◌, Err, sym, ap, ◌∙◌, rules}
use Rattle.text.specs.Refusal.{ok, outcome}
use Rattle.watch.specs.Watching.{Sighting, listing, accepted, told_seen}
use Rattle.watch.proofs.Calls.{watching-refused, watching-is, sought-at, seen-some, seen-none, first-here, first-later, first-none}
use Rattle.watch.proofs.list.first_seen.Goals as goal
use Rattle.watch.proofs.list.first_seen.Goals.{In_ok-check_all}

-- the list and the stretch were accepted
passed : (c : In_ok-check_all) → accepted (listing c.args.list.now c.args.stretch.now) ≡ ok tt
passed c = sym c.check_all.ensures ∙ ap outcome c.in_ok-check_all.was

pub returns-in_err-check_all : goal.returns-in_err-check_all
returns-in_err-check_all c =
    let same : c.from_residual.result ≡ Err c.in_err-check_all.field-0.0 = search rules in
    ap told_seen same
    ∙ watching-refused c.args.list.now c.args.stretch.now _ _ (sym c.check_all.ensures ∙ ap outcome c.in_err-check_all.was)

pub sight-requires : goal.sight-requires
sight-requires c = sought-at _ _ (passed (goal.at.sight-requires c).In_ok-check_all) _ c.loop-item-test.true

pub returns-in-Some : goal.returns-in-Some
returns-in-Some c =
    let here = first-here _ _ _ c.loop-item-test.true c.loop-item.invariant _ (seen-some _ _ _ c.sight.ensures _ c.in-Some.is) in
    ap (λ (x : Sighting). ok x) here ∙ sym (watching-is _ _ (passed (goal.at.returns-in-Some c).In_ok-check_all))

pub loop-item-preserved : goal.loop-item-preserved
loop-item-preserved c =
    first-later _ _ _ c.loop-item-test.true c.loop-item.invariant (seen-none _ _ _ c.sight.ensures c.in_default.is)

pub returns : goal.returns
returns c =
    ap (λ (x : Sighting). ok x) (first-none _ _ _ c.loop-item-test.false c.loop-item.invariant)
    ∙ sym (watching-is _ _ (passed (goal.at.returns c).In_ok-check_all))
