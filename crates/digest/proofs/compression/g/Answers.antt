-- `digest::compression::g` meets its contract: its eight lines one after another.
use Rattle.digest.proofs.Round.{G-of}
use Rattle.digest.proofs.compression.g.Goals as goal

pub returns : goal.returns
returns c =
    let a = c.args in
    G-of a.v.now a.a a.b a.c a.d a.x a.y c.fits-v c.rotate_right.type_inv c.rotate_right-2.type_inv c.rotate_right-3.type_inv
    c.rotate_right.ensures c.rotate_right-2.ensures c.rotate_right-3.ensures c.rotate_right-4.ensures
