-- `digest::digest` meets its contract: a new hash, over the bytes, ended.
use Rattle.std.proofs.Common.{ap, ◌∙◌}
use Rattle.digest.specs.Updating.{with_bytes, end_of}
use Rattle.digest.specs.declared.Hashing.{Hashing}
use Rattle.digest.proofs.Theorems.{whole}
use Rattle.digest.proofs.digest.Goals as goal

pub returns : goal.returns
returns c =
    let b = c.args.bytes.now in
    c.end.ensures ∙ ap end_of (c.over.ensures ∙ ap (λ (x : Hashing). with_bytes x b) c.new.ensures) ∙ whole b
