-- `writer::sound::variant_given` meets its contract. Each answer is a law of `variant_given`, from the tests that led to it
-- and from what `first_wrong` and `repeated` ensure.
use Prim.Native.Nat.{◌+◌, ◌-◌, ◌≤◌}
use native.Mathlib.Omega.{arith}
use mathlib.Core.Path.{sym, ◌∙◌}
use lib.ListN.{length}
use Rattle.text.proofs.Likes.{meant-length}
use Rattle.layout.proofs.Raised.{first_part, among-part}
use Rattle.writer.proofs.Cuts.{next-in, before-in}
use Rattle.writer.proofs.GivenSegment.{given-wrong, given-again, given-sound}
use Rattle.writer.proofs.sound.variant_given.Goals as goal
use Rattle.writer.proofs.sound.variant_given.Goals.{After-stated}

inside : (c : After-stated) → c.args.at + c.stated.result ≤ length c.args.parts.letters.now
inside c = rw meant-length at (next-in c.requires c.stated.ensures)

pub overflow_add-end : goal.overflow_add-end
overflow_add-end c = omega (arith, inside (goal.at.overflow_add-end c).After-stated)

pub slice_bounds-variant-end : goal.slice_bounds-variant-end
slice_bounds-variant-end c = omega (arith, inside (goal.at.slice_bounds-variant-end c).After-stated)

pub overflow_add-place : goal.overflow_add-place
overflow_add-place c = omega (arith, inside (goal.at.overflow_add-place c).After-stated)

pub returns-then-wrong-end : goal.returns-then-wrong-end
returns-then-wrong-end c =
    let a = c.args in
    let w = first_part a.parts.letters.now a.at (a.at + c.stated.result - a.at) c.first_wrong-wrong.ensures in
    sym (given-wrong _ _ _ _ _ c.stated.ensures w (rw meant-length (inside (goal.at.returns-then-wrong-end c).After-stated)) c.if-wrong-end.true)

pub repeated-requires : goal.repeated-requires
repeated-requires c = before-in c.requires

pub returns-then-repeated : goal.returns-then-repeated
returns-then-repeated c =
    let a = c.args in
    let n = a.at + c.stated.result - a.at in
    let w = first_part a.parts.letters.now a.at n c.first_wrong-wrong.ensures in
    let again = sym (among-part a.parts.letters.now a.at n _) ∙ sym c.repeated.ensures ∙ c.if-repeated.true in
    sym (given-again _ _ _ _ _ c.stated.ensures w c.if-wrong-end.false again)

pub returns : goal.returns
returns c =
    let a = c.args in
    let n = a.at + c.stated.result - a.at in
    let w = first_part a.parts.letters.now a.at n c.first_wrong-wrong.ensures in
    let once = sym (among-part a.parts.letters.now a.at n _) ∙ sym c.repeated.ensures ∙ c.if-repeated.false in
    sym (given-sound _ _ _ _ _ c.stated.ensures w c.if-wrong-end.false once)
