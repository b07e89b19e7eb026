-- `layout::repetition::stands` meets its contract: letters of another length are others, and as many are compared.
use Rattle.std.proofs.Common.{◌≡◌, ℕ, ◌+◌, ◌-◌, take, drop, sym, ap, ◌∙◌, arith}
use Rattle.text.specs.Compare.{alike}
use Rattle.layout.proofs.RepeatsInBytes.{other_length}
use Rattle.layout.proofs.repetition.stands.Goals as goal

pub returns-then-letters-variant : goal.returns-then-letters-variant
returns-then-letters-variant c = sym (other_length _ _ _ _ c.requires c.if-letters-variant.true)

pub returns : goal.returns
returns c =
    let long : c.args.start + c.args.letters - c.args.start ≡ c.args.letters = omega arith in
    c.alike_from_end.ensures ∙ ap (λ (n : ℕ). alike c.args.variant.now (take n (drop c.args.start c.args.stretch.now))) long
