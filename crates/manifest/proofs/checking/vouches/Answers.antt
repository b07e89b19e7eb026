-- `manifest::checking::vouches` meets its contract: what a buffer of 64 bytes holds are the digits.
use mathlib.Core.Path.{refl}
use Rattle.manifest.proofs.Seals.{vouches-early, vouches-late, vouches-is}
use Rattle.manifest.proofs.checking.vouches.Goals as goal

pub returns-then-start-lt66 : goal.returns-then-start-lt66
returns-then-start-lt66 c = vouches-early _ _ _ c.if-start-lt66.true

pub returns-then-manifest-end : goal.returns-then-manifest-end
returns-then-manifest-end c = vouches-late _ _ _ c.if-start-lt66.false c.if-manifest-end.true

pub returns : goal.returns
returns c =
    vouches-is _ _ _ refl refl c.digest.ensures refl c.put_digest.ensures c.same.ensures
