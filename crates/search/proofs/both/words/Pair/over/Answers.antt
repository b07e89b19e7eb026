use Prim.Native.Nat.{ℕ, ◌-◌, ◌*◌, ◌%◌, ◌^◌, ◌<◌}
use native.Mathlib.Omega.{arith}
use Rattle.std.proofs.Common.{◌≡◌, Err, refl, sym, ap, ◌∙◌, rules}
use lib.ListN.{length}
use mathlib.Core.Bool.{false}
use Rattle.layout.specs.Prints.{repeats_at}
use Rattle.text.proofs.Strands.{opposite-length}
use Rattle.text.specs.Refusal.{outcome}
use Rattle.layout.proofs.Heads.{Whole, head-is}
use Rattle.layout.proofs.Walking.{walk-not, walk_none, walk-cut, walk-misspelt, walk-again}
use Rattle.layout.proofs.Walking.{walk-new, walk-unsuspected, walk-past, walk-less}
use Rattle.search.proofs.Pairs.{ready, sweeping-on}
use Rattle.search.proofs.Passes.{segment-passed-not, segment-passed}
use Rattle.search.proofs.Words.{swept-by, sweeping-none, sweeping-taken}
use Rattle.search.proofs.both.words.Pair.over.Goals as goal
use Rattle.search.proofs.both.words.Pair.over.Goals.{After-enter, In_ok-part, then-suspects+in_ok-compared, else-suspects}

-- the stretch is no longer than a number can say
narrow : (c : After-enter) → length c.args.stretch.now < 2 ^ 64
narrow c = omega arith

-- where the letters stand
here : (c : In_ok-part)
    → Whole c.args.stretch.now c.loop-cursor.cursor.at c.in_ok-part.part.start
    c.in_ok-part.part.next
here c = head-is _ _ _ _ (sym c.head.ensures ∙ ap outcome c.in_ok-part.was)

pub returns-in_err-cursor : goal.returns-in_err-cursor
returns-in_err-cursor c =
    let same : c.from_residual.result ≡ Err c.in_err-cursor.field-0.0 = search rules in
    let none = walk-not _ _ c.enter.ensures c.in_err-cursor.was in
    rw same record { result_value = sym (segment-passed-not _ _ _ _ _ _ none); result_value_2 = sym (segment-passed-not _ _ _ _ _ _ none) }

pub loop-cursor-init : goal.loop-cursor-init
loop-cursor-init c =
    let few : c.in_ok-cursor.cursor.count < 2 ^ 64 = omega arith in
    let w = walk_none _ _ c.enter.ensures c.in_ok-cursor.was few in
    (sweeping-none c.requires.vectors.0.founded.some c.requires.vectors.1.odd w, sweeping-none c.requires.vectors_2.0.founded.some c.requires.vectors_2.1.odd w)

pub returns-in_err-part : goal.returns-in_err-part
returns-in_err-part c =
    let same : c.from_residual-in_err-part.result ≡ Err c.in_err-part.field-0.0 = search rules in
    let none = walk-cut c.loop-cursor.invariant.0.walk c.loop-cursor-test.true c.head.ensures c.in_err-part.was in
    rw same record { result_value = sym (segment-passed-not _ _ _ _ _ _ none); result_value_2 = sym (segment-passed-not _ _ _ _ _ _ none) }

pub slice_bounds-letters-count : goal.slice_bounds-letters-count
slice_bounds-letters-count c = let w = here (goal.at.slice_bounds-letters-count c).In_ok-part in omega (arith, w.starts, w.ends)

pub slice_bounds-letters-start : goal.slice_bounds-letters-start
slice_bounds-letters-start c = let w = here (goal.at.slice_bounds-letters-start c).In_ok-part in omega (arith, w.starts, w.ends)

pub slice_bounds-letters-end : goal.slice_bounds-letters-end
slice_bounds-letters-end c = let w = here (goal.at.slice_bounds-letters-end c).In_ok-part in omega (arith, w.ends, w.inside)

pub returns-then-scanned : goal.returns-then-scanned
returns-then-scanned c =
    let spelt = (c.scan_both-scanned.ensures.scanned_by _ (ready _ _ _ _ c.requires.vectors)).1 in
    let none = walk-misspelt c.loop-cursor.invariant.0.walk c.loop-cursor-test.true (here (goal.at.returns-then-scanned c).In_ok-part) spelt c.if-scanned.true c.misspelt.ensures in
    record { result_value = sym (segment-passed-not _ _ _ _ _ _ none); result_value_2 = sym (segment-passed-not _ _ _ _ _ _ none) }

pub returns-in_err-compared : goal.returns-in_err-compared
returns-in_err-compared c =
    let same : c.from_residual-in_err-compared.result ≡ Err c.in_err-compared.field-0.0 = search rules in
    let spelt = (c.scan_both-scanned.ensures.scanned_by _ (ready _ _ _ _ c.requires.vectors)).1 in
    let none = walk-again c.loop-cursor.invariant.0.walk c.loop-cursor-test.true (here (goal.at.returns-in_err-compared c).In_ok-part) spelt c.if-scanned.false c.compared.ensures
    c.in_err-compared.was in
    rw same record { result_value = sym (segment-passed-not _ _ _ _ _ _ none); result_value_2 = sym (segment-passed-not _ _ _ _ _ _ none) }

pub loop-cursor-smaller : goal.loop-cursor-smaller
loop-cursor-smaller c =
    walk-less c.loop-cursor.invariant.0.walk c.loop-cursor-test.true _ _ c.past-cursor.ensures

pub loop-cursor-preserved : goal.loop-cursor-preserved
loop-cursor-preserved c =
    let q = c.loop-cursor.invariant in
    let x = c.scan_both-scanned.ensures.scanned_by _ (ready _ _ _ _ c.requires.vectors) in
    let y = c.scan_both-scanned.ensures.scanned_by_2 _ (ready _ _ _ _ c.requires.vectors_2) in
    let fits = narrow (goal.at.loop-cursor-preserved c).After-enter in
    let new = elim c.if-suspects.branch as (λ _. repeats_at c.args.stretch.now c.loop-cursor.cursor.first c.loop-cursor.cursor.at ≡ false) [
      | then-suspects+in_ok-compared n ↦ walk-new q.0.walk c.loop-cursor-test.true (here (goal.at.loop-cursor-preserved c).In_ok-part) x.1 n.compared.ensures n.in_ok-compared.was
      | else-suspects n ↦ walk-unsuspected q.0.walk c.loop-cursor-test.true (here (goal.at.loop-cursor-preserved c).In_ok-part) x.1 (sym c.suspects.ensures ∙ n.if-suspects.false)
    ] in (
      sweeping-on q.0 (walk-past q.0.walk c.loop-cursor-test.true (here (goal.at.loop-cursor-preserved c).In_ok-part) x.1 fits c.if-scanned.false new refl c.past-cursor.ensures)
          (swept-by _ _ (here (goal.at.loop-cursor-preserved c).In_ok-part) x.0) c.and-words.ensures.0,
      sweeping-on q.1 (walk-past q.1.walk c.loop-cursor-test.true (here (goal.at.loop-cursor-preserved c).In_ok-part) y.1 fits c.if-scanned.false new refl c.past-cursor.ensures)
          (swept-by _ _ (here (goal.at.loop-cursor-preserved c).In_ok-part) y.0) c.and-words.ensures.1,
    )

pub returns : goal.returns
returns c =
    let none : c.loop-cursor.cursor.left ≡ 0 = omega arith in
    let high = ap (λ (m : ℕ). 0xffff_ffff_ffff_ffff * 2 ^ (m - 1) % 2 ^ 64) (sym (opposite-length c.args.pattern.now)) in record { result_value = sym (segment-passed (sweeping-taken c.loop-cursor.invariant.0 c.requires.vectors.0.founded.some c.requires.vectors.0.founded.short _ refl) none); result_value_2 = sym (segment-passed (sweeping-taken c.loop-cursor.invariant.1 c.requires.vectors_2.0.founded.some c.requires.vectors_2.0.founded.short _ high) none) }
