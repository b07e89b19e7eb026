-- `vcf::put::put_record` meets its contract: with ALT `.`, and with alleles.
use Prim.Native.Nat.{ℕ, ◌+◌, ◌<◌, ◌≤◌}
use native.Mathlib.Omega.{arith}
use mathlib.Core.Path.{◌≡◌, sym, ap, ◌∙◌}
use mathlib.Core.Bool.{false}
use lib.ListN.{length}
use Rattle.layout.specs.Bytes.{over}
use Rattle.layout.specs.Sizes.{segment_bytes, after_variant}
use Rattle.vcf.specs.Records.{none}
use Rattle.vcf.proofs.Emitting.{segment_of, alleles_of, segment-size, segment-put, segment-put-none, none-size, one_more, few-pieces}
use Rattle.vcf.proofs.Emitting.{counted-all, alleles-bytes}
use Rattle.vcf.proofs.put.put_record.Goals as goal
use Rattle.vcf.proofs.put.put_record.Goals.{After-after_variant-next, After-count-others, After-slice_known-1, Else-is_none, Start}

size :
    (s : Start) →
    length (segment_of s.args.alleles.reference.now s.args.alleles.alt.now)
    ≡ segment_bytes (length s.args.alleles.reference.now) 1 + length (alleles_of s.args.alleles.alt.now)
size s = segment-size s.args.alleles.reference.now s.args.alleles.alt.now

narrow : (c : After-slice_known-1) → length c.args.out.now < 18446744073709551616
narrow c = omega arith

-- the place after REF
next : (v : After-after_variant-next) → v.after_variant-next.result ≡ after_variant (v.args.at + 1) (length v.args.alleles.reference.now)
next v = omega (arith, v.after_variant-next.ensures, size (goal.at.After-after_variant-next v).Start, v.requires.alt_in_bounds, narrow (goal.at.After-after_variant-next v).After-slice_known-1)

some : (c : Else-is_none) → none c.args.alleles.alt.now ≡ false
some c = sym c.is_none.ensures ∙ c.if-is_none.false

-- at most 255 variants
few : (k : After-count-others) → 1 + k.count-others.result ≤ 255
few k =
    omega (arith, few-pieces k.args.alleles.alt.now (some (goal.at.After-count-others k).Else-is_none) k.requires.alt_len_bound, k.count-others.ensures)

pub overflow_add-start : goal.overflow_add-start
overflow_add-start c = omega (arith, size (goal.at.overflow_add-start c).Start, c.requires.alt_in_bounds, narrow (goal.at.overflow_add-start c).After-slice_known-1)

pub shape_of-out-then-is_none : goal.shape_of-out-then-is_none
shape_of-out-then-is_none c =
    c.put_variant.auto.out ∙ c.put_variants.auto.out

pub returns-then-is_none : goal.returns-then-is_none
returns-then-is_none c =
    let ref = c.args.alleles.reference.now in
    let alt = c.args.alleles.alt.now in
    let n = sym c.is_none.ensures ∙ c.if-is_none.true in record { value = omega (arith, none-size ref alt n, next (goal.at.returns-then-is_none c).After-after_variant-next); out_after = segment-put-none ref alt _ _ c.requires.alt_in_bounds _ (one_more alt n) (omega arith) _ c.put_variants.ensures _ c.put_variant.ensures n }

pub count-others-requires : goal.count-others-requires
count-others-requires c = few-pieces c.args.alleles.alt.now (some (goal.at.count-others-requires c).Else-is_none) c.requires.alt_len_bound

pub overflow_add-others : goal.overflow_add-others
overflow_add-others c = omega (arith, few (goal.at.overflow_add-others c).After-count-others)

pub put_alleles-requires : goal.put_alleles-requires
put_alleles-requires c =
    let z = ap length (alleles-bytes c.args.alleles.alt.now (some (goal.at.put_alleles-requires c).Else-is_none)) in
    omega (arith, size (goal.at.put_alleles-requires c).Start, c.requires.alt_in_bounds, z, next (goal.at.put_alleles-requires c).After-after_variant-next, c.put_variant-2.auto.out, c.put_variants-2.auto.out)

pub shape_of-out : goal.shape_of-out
shape_of-out c =
    c.put_alleles.auto.out ∙ c.put_variant-2.auto.out ∙ c.put_variants-2.auto.out

pub returns : goal.returns
returns c =
    let ref = c.args.alleles.reference.now in
    let alt = c.args.alleles.alt.now in
    let e = some (goal.at.returns c).Else-is_none in
    let z = ap length (alleles-bytes alt e) in
    let x = c.put_variant-2.new.out in
    let last = c.put_alleles.ensures.out_after ∙ ap (over x c.after_variant-next.result) (alleles-bytes alt e) ∙ ap (λ (n : ℕ). over x n (alleles_of alt)) (next (goal.at.returns c).After-after_variant-next) in record {
      value = omega (arith, size (goal.at.returns c).Start, c.put_alleles.ensures.value, next (goal.at.returns c).After-after_variant-next);
      out_after = segment-put ref alt _ _ c.requires.alt_in_bounds _ (counted-all alt e _ c.count-others.ensures) (few (goal.at.returns c).After-count-others) _ c.put_variants-2.ensures _
          c.put_variant-2.ensures _ last;
    }
