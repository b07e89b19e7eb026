-- `eds_notation::filling::put_variant` meets its contract.
use Prim.Native.Nat.{◌≤◌}
use native.Mathlib.Omega.{arith}
use mathlib.Core.Path.{◌≡◌, sym, ◌∙◌}
use mathlib.Core.Bool.{true}
use lib.ListN.{length}
use Rattle.eds_notation.specs.Filling.{fits}
use Rattle.eds_notation.proofs.Fillings.{Fitting, fits-is, stop-leaves, done-leaves}
use Rattle.eds_notation.proofs.Fillings.{open-size, variant-far, variant-many, variant-full, variant-repeated, variant-done}
use Rattle.eds_notation.proofs.filling.put_variant.Goals as goal
use Rattle.eds_notation.proofs.filling.put_variant.Goals.{Else-not-fits}

-- there is room in a stretch, so that the numbers of the tape are sound
room :
    (c : Else-not-fits) →
    fits c.args.tape 0 c.args.another ≡ true
room c = sym c.fits.ensures ∙ c.if-not-fits.false

fitting :
    (c : Else-not-fits) →
    Fitting c.args.tape 0 c.args.another
fitting c = fits-is _ _ _ (room c)

-- the letters of the tape are there, and the lengths have room for one more
there : (c : Else-not-fits) → c.args.tape.letters ≤ length c.args.letters.now
there c = c.if-letters-end.false

pub returns-then-letters-end : goal.returns-then-letters-end
returns-then-letters-end c =
    rw c.full.ensures (record { value = variant-far _ _ _ _ _ c.if-letters-end.true; lengths_after = stop-leaves _ _ _ })

pub returns-then-lengths-at : goal.returns-then-lengths-at
returns-then-lengths-at c =
    rw c.full-then-lengths-at.ensures (record { value = variant-many _ _ _ _ _ c.if-lengths-at.true; lengths_after = stop-leaves _ _ _ })

pub returns-then-not-fits : goal.returns-then-not-fits
returns-then-not-fits c =
    let none = sym c.fits.ensures ∙ c.if-not-fits.true in
    rw c.full-then-not-fits.ensures (record { value = variant-full _ _ _ _ _ none; lengths_after = stop-leaves _ _ _ })

pub overflow_sub-first : goal.overflow_sub-first
overflow_sub-first c = (fitting (goal.at.overflow_sub-first c).Else-not-fits).lengths

pub overflow_sub-from : goal.overflow_sub-from
overflow_sub-from c = (fitting (goal.at.overflow_sub-from c).Else-not-fits).letters

pub stands-requires : goal.stands-requires
stands-requires c = open-size _ _ _ (fitting (goal.at.stands-requires c).Else-not-fits) (there (goal.at.stands-requires c).Else-not-fits)

pub returns-then-stands : goal.returns-then-stands
returns-then-stands c =
    record { value = variant-repeated _ _ _ _ _ (there (goal.at.returns-then-stands c).Else-not-fits) c.if-lengths-at.false (room (goal.at.returns-then-stands c).Else-not-fits) _ c.stands.ensures c.if-stands.true; lengths_after = stop-leaves _ _ _ }

pub overflow_cast-lengths : goal.overflow_cast-lengths
overflow_cast-lengths c =
    let f = fitting (goal.at.overflow_cast-lengths c).Else-not-fits in
    omega (arith, f.spelt, f.letters, f.bytes)

pub returns : goal.returns
returns c =
    record {
      value = variant-done _ _ _ _ _ (there (goal.at.returns c).Else-not-fits) c.if-lengths-at.false (room (goal.at.returns c).Else-not-fits) _ c.stands.ensures
          c.if-stands.false;
      lengths_after = done-leaves _ _ _;
    }
