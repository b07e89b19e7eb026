-- `digest::Hashing::pass` meets its contract: F reads the offset modulo 2 ^ 128.
use Rattle.std.proofs.Common.{ℕ, ◌+◌, ◌%◌, ◌^◌, false, List, refl, ap, ◌∙◌}
use Rattle.digest.specs.Updating.{emptied, passed}
use Rattle.digest.proofs.Offsets.{F-offset}
use Rattle.digest.proofs.Hashing.pass.Goals as goal

pub returns : goal.returns
unfolding passed
returns c =
    let x = c.args.self.now in
    c.emptied.ensures
    ∙ ap (λ (h : List ℕ). emptied h ((x.t + 128) % 2 ^ 128)) (F-offset x.h (x.t + 128) false c.compress-h.ensures c.read.ensures refl)
