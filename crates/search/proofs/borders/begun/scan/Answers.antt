use native.Mathlib.Omega.{arith}
use Rattle.search.proofs.BorderLetters.{spelt-inside, spelt-next, spelt-read}
use Rattle.search.proofs.BorderScans.{scanning-none, scanning-matched, scanning-whole, scanning-part, scanning-all}
use Rattle.search.proofs.borders.begun.scan.Goals as goal
use Rattle.search.proofs.borders.begun.scan.Goals.{then-longest-m, else-longest-m}

pub loop-letter-init : goal.loop-letter-init
loop-letter-init c = scanning-none c.requires.sound_pattern

pub fallback-longest-requires : goal.fallback-longest-requires
fallback-longest-requires c =
    scanning-matched c.requires.sound_pattern c.requires.borders c.loop-letter.invariant

pub offset_bounds-table-m : goal.offset_bounds-table-m
offset_bounds-table-m c = omega arith

pub bounds-table-m : goal.bounds-table-m
bounds-table-m c = omega arith

pub loop-letter-preserved : goal.loop-letter-preserved
loop-letter-preserved c =
    let sized = c.requires.sound_pattern in
    let borders = c.requires.borders in
    let good = c.requires.variant_value in
    let inv = c.loop-letter.invariant in
    let read = c.loop-letter-test.true in
    let v = c.args.variant.now in
    let inside = spelt-inside v _ read in
    let next = spelt-next v _ read good _ c.loop-letter.longest _ c.fallback-longest.ensures in
    elim c.if-longest-m.branch [
      | then-longest-m w ↦ scanning-whole sized borders inv inside next w.if-longest-m.true w.longest-is w.whole-is
      | else-longest-m w ↦ scanning-part sized borders inv inside next w.if-longest-m.false w.longest-is w.whole-is
    ]

pub returns : goal.returns
returns c = scanning-all c.loop-letter.invariant (spelt-read c.args.variant.now _ c.loop-letter-test.false)
