-- `manifest::checking::is_sealed` meets its contract: what a buffer of the line's size holds is the line.
use Prim.Native.Nat.{◌-◌, ◌≤◌}
use native.Mathlib.Omega.{arith}
use mathlib.Core.Path.{refl, sym}
use lib.ListN.{length}
use lib.Seq.{length-take-le}
use Rattle.manifest.proofs.Seals.{sealed-short, sealed-is}
use Rattle.manifest.proofs.checking.is_sealed.Goals as goal

pub returns-then-manifest-lt-SEAL : goal.returns-then-manifest-lt-SEAL
returns-then-manifest-lt-SEAL c = sealed-short _ c.if-manifest-lt-SEAL.true

pub slice_bounds-digest-end : goal.slice_bounds-digest-end
slice_bounds-digest-end c =
    let m = c.args.manifest.now in
    let few : length m - 74 ≤ length m = omega arith in
    sym (length-take-le (length m - 74) m few)

pub returns : goal.returns
returns c =
    sealed-is _ refl c.digest.ensures refl c.put_seal.ensures c.same.ensures
