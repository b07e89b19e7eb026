use Prim.Native.Nat.{ℕ, ◌+◌, ◌-◌, ◌<◌, ◌≤◌}
use native.Mathlib.Omega.{arith}
use mathlib.Core.Path.{◌≡◌, ◌∙◌}
use lib.ListN.{length}
use Rattle.layout.specs.Sizes.{after_variant}
use Rattle.vcf.proofs.Emitting.{alleles-none, alleles-room, alleles-kept, alleles-more, alleles-end}
use Rattle.vcf.proofs.put.put_alleles.Goals as goal
use Rattle.vcf.proofs.put.put_alleles.Goals.{After-after_variant-next, After-end_of-end, After-slice_known-1}

narrow : (c : After-slice_known-1) → length c.args.out.now < 18446744073709551616
narrow c = omega arith

-- the place after the allele
place : (c : After-after_variant-next) →
    c.after_variant-next.result ≡ after_variant c.loop-at.next (c.end_of-end.result - c.loop-at.from)
place c =
    let h = alleles-room c.loop-at.invariant c.end_of-end.ensures in
    let k = alleles-kept c.loop-at.invariant c.end_of-end.ensures in
    omega (arith, c.after_variant-next.ensures, narrow (goal.at.After-after_variant-next c).After-slice_known-1)

-- fewer bytes are left after it
ends : (d : After-end_of-end) → (d.loop-at.from ≤ d.end_of-end.result) ×
    (d.end_of-end.result ≤ length d.args.alt.now)
ends d = (d.end_of-end.ensures.behind, omega (arith, d.end_of-end.ensures.inside, d.loop-at.invariant.inside))

less : (n from end : ℕ) → from ≤ end → end ≤ n → (end ≡ n → ⊥) → n - (end + 1) < n - from
less n from end a b c = omega (arith, c)

pub loop-at-init : goal.loop-at-init
loop-at-init c = alleles-none _ _ _ c.requires

pub shape_of-out-then-end-alt : goal.shape_of-out-then-end-alt
shape_of-out-then-end-alt c =
    c.put_variant.auto.out ∙ alleles-kept c.loop-at.invariant c.end_of-end.ensures

pub returns-then-end-alt : goal.returns-then-end-alt
returns-then-end-alt c =
    let whole = alleles-end c.loop-at.invariant c.end_of-end.ensures c.put_variant.ensures (place (goal.at.returns-then-end-alt c).After-after_variant-next) c.if-end-alt.true in record { value = whole.0; out_after = whole.1 }

pub overflow_add-from : goal.overflow_add-from
overflow_add-from c = omega (arith, c.if-end-alt.false)

pub loop-at-smaller : goal.loop-at-smaller
loop-at-smaller c = less _ _ _ (ends (goal.at.loop-at-smaller c).After-end_of-end).0 (ends (goal.at.loop-at-smaller c).After-end_of-end).1 c.if-end-alt.false

pub loop-at-preserved : goal.loop-at-preserved
loop-at-preserved c =
    alleles-more c.loop-at.invariant c.end_of-end.ensures c.put_variant.ensures (place (goal.at.loop-at-preserved c).After-after_variant-next) c.if-end-alt.false
