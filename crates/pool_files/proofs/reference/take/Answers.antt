use Rattle.std.proofs.Common.{◌≡◌, ◌<◌, refl, sym, ap, ◌∙◌, arith}
use Rattle.pool_files.specs.Reference.{Filled}
use Rattle.pool_files.proofs.Takes.{takes_none, takes_all, takes-room, takes-full, takes-end, takes-more}
use Rattle.pool_files.proofs.reference.take.Goals as goal

pub loop-at-init : goal.loop-at-init
loop-at-init c = takes_none _ _ _ _ _ _ _ _ c.wanted.ensures

pub shape_of-bases-then-space-eq0 : goal.shape_of-bases-then-space-eq0
shape_of-bases-then-space-eq0 c = c.loop-at.invariant.size

pub returns-then-space-eq0 : goal.returns-then-space-eq0
returns-then-space-eq0 c =
    let e = takes-full c.loop-at.invariant c.loop-at-test.true c.if-space-eq0.true in
    record { answer = ap (λ (f : Filled). f.taken) e; buffer = ap (λ (f : Filled). f.buffer) e }

pub shape_of-bases-then-is_end : goal.shape_of-bases-then-is_end
shape_of-bases-then-is_end c = c.loop-at.invariant.size

pub returns-then-is_end : goal.returns-then-is_end
returns-then-is_end c =
    let e =
    takes-end c.loop-at.invariant c.loop-at-test.true c.if-space-eq0.false _ c.step-next.ensures _ refl
    (sym c.is_end.ensures ∙ c.if-is_end.true) in
    record { answer = ap (λ (f : Filled). f.taken) e; buffer = ap (λ (f : Filled). f.buffer) e }

pub put_base-space-requires : goal.put_base-space-requires
put_base-space-requires c =
    let some : 0 < c.loop-at.space.left = omega (arith, c.if-space-eq0.false) in
    (takes-room c.loop-at.invariant c.if-space-eq0.false, some)

pub loop-at-preserved : goal.loop-at-preserved
loop-at-preserved c =
    takes-more c.loop-at.invariant c.loop-at-test.true c.if-space-eq0.false _ _ _ _ c.step-next.ensures refl
    (sym c.is_end.ensures ∙ c.if-is_end.false) c.put_base-space.ensures.value c.put_base-space.ensures.bases_after

pub shape_of-bases : goal.shape_of-bases
shape_of-bases c = c.loop-at.invariant.size

pub returns : goal.returns
returns c =
    let e = takes_all c.loop-at.invariant c.loop-at-test.false in
    let at : c.max.result ≡ c.loop-at.at = omega (arith, c.max.ensures, c.loop-at-test.false, c.loop-at.invariant.inside, c.loop-at.auto.at) in
    record { answer = rw at (ap (λ (f : Filled). f.taken) e); buffer = ap (λ (f : Filled). f.buffer) e }
