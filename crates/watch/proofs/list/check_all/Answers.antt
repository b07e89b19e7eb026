-- `watch::list::check_all` meets its contract: 20 and 21, then what `check` says of the stretch.
use Rattle.std.proofs.Common.{◌≡◌, Err, sym, ap, ◌∙◌, rules}
use Rattle.text.specs.Refusal.{outcome}
use Rattle.watch.proofs.Calls.{list-refused, all-passed, all-refused}
use Rattle.watch.proofs.list.check_all.Goals as goal

pub returns-in_err-check_list : goal.returns-in_err-check_list
returns-in_err-check_list c =
    let same : c.from_residual.result ≡ Err c.in_err-check_list.field-0.0 = search rules in
    ap outcome same ∙ sym (list-refused _ _ _ _ (sym c.check_list.ensures ∙ ap outcome c.in_err-check_list.was))

pub returns-in-Sound : goal.returns-in-Sound
returns-in-Sound c =
    all-passed c.args.list.now c.args.stretch.now (sym c.check_list.ensures ∙ ap outcome c.in_ok-check_list.was) _ c.check.ensures c.in-Sound.is

pub returns-in-Refused : goal.returns-in-Refused
returns-in-Refused c =
    all-refused c.args.list.now c.args.stretch.now (sym c.check_list.ensures ∙ ap outcome c.in_ok-check_list.was) _ c.check.ensures c.in-Refused.is
