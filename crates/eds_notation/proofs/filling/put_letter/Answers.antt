-- `eds_notation::filling::put_letter` meets its contract.
use mathlib.Core.Path.{sym, ◌∙◌}
use Rattle.eds_notation.proofs.Fillings.{stop-leaves, done-leaves, letter-far, letter-full, letter-done}
use Rattle.eds_notation.proofs.filling.put_letter.Goals as goal

pub returns-then-letters-at : goal.returns-then-letters-at
returns-then-letters-at c =
    rw c.full.ensures (record { value = letter-far _ _ _ c.if-letters-at.true; letters_after = stop-leaves _ _ _ })

pub returns-then-not-fits : goal.returns-then-not-fits
returns-then-not-fits c =
    let none = sym c.fits.ensures ∙ c.if-not-fits.true in
    rw c.full-then-not-fits.ensures (record { value = letter-full _ _ _ none; letters_after = stop-leaves _ _ _ })

pub returns : goal.returns
returns c =
    let room = sym c.fits.ensures ∙ c.if-not-fits.false in
    record { value = letter-done _ _ _ c.if-letters-at.false room; letters_after = done-leaves _ _ _ }
