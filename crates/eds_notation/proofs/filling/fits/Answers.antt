-- `eds_notation::filling::fits` meets its contract.
use Prim.Native.Nat.{◌+◌}
use mathlib.Core.Path.{◌≡◌}
use native.Mathlib.Omega.{arith}
use Rattle.layout.specs.Sizes.{text_bytes}
use Rattle.eds_notation.proofs.Fillings.{fits_not, fits_last}
use Rattle.eds_notation.proofs.filling.fits.Goals as goal
use Rattle.eds_notation.proofs.filling.fits.Goals.{After-text_bytes}

size : (c : After-text_bytes) →
    let t = c.args.tape in
    c.text_bytes.result
    ≡ text_bytes (t.letters + c.wide.result) (t.lengths + 1 + c.wide-2.result) (t.counts + 1)
size c =
    omega (
      arith,
      c.text_bytes.ensures,
      c.wide-2.ensures.1,
      c.wide.ensures.1,
      c.if-counts-gt-GREATEST_STRETCH.false,
      c.if-lengths-gt-GREATEST_STRETCH.false,
      c.if-letters-gt-GREATEST_STRETCH.false,
    )

-- each test that fails is one of the facts
pub returns-then-letters-gt-GREATEST_STRETCH : goal.returns-then-letters-gt-GREATEST_STRETCH
returns-then-letters-gt-GREATEST_STRETCH c = fits_not _ _ _ λ f. omega (arith, f.bytes, c.if-letters-gt-GREATEST_STRETCH.true)

pub returns-then-lengths-gt-GREATEST_STRETCH : goal.returns-then-lengths-gt-GREATEST_STRETCH
returns-then-lengths-gt-GREATEST_STRETCH c = fits_not _ _ _ λ f. omega (arith, f.bytes, c.if-lengths-gt-GREATEST_STRETCH.true)

pub returns-then-counts-gt-GREATEST_STRETCH : goal.returns-then-counts-gt-GREATEST_STRETCH
returns-then-counts-gt-GREATEST_STRETCH c = fits_not _ _ _ λ f. omega (arith, f.bytes, c.if-counts-gt-GREATEST_STRETCH.true)

pub returns-then-begun : goal.returns-then-begun
returns-then-begun c = fits_not _ _ _ λ f. omega (arith, f.spelt, c.if-begun.true)

pub returns-then-letters-begun : goal.returns-then-letters-begun
returns-then-letters-begun c = fits_not _ _ _ λ f. omega (arith, f.letters, c.if-letters-begun.true)

pub returns-then-lengths-begun : goal.returns-then-lengths-begun
returns-then-lengths-begun c = fits_not _ _ _ λ f. omega (arith, f.lengths, c.if-lengths-begun.true)

pub returns-then-begun-gt254 : goal.returns-then-begun-gt254
returns-then-begun-gt254 c = fits_not _ _ _ λ f. omega (arith, f.variants, c.if-begun-gt254.true)

pub returns : goal.returns
returns c =
    fits_last _ _ _ c.if-begun.false c.if-letters-begun.false c.if-lengths-begun.false c.if-begun-gt254.false _ _ _ c.wide.ensures.0
    c.wide-2.ensures.0 (size (goal.at.returns c).After-text_bytes)
