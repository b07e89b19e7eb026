-- `vcf::put::put_gap` meets its contract.
use Prim.Native.Nat.{◌<◌}
use native.Mathlib.Omega.{arith}
use mathlib.Core.Path.{◌≡◌, ◌∙◌}
use lib.ListN.{length}
use Rattle.text.specs.Letter.{meant}
use Rattle.layout.specs.Encoding.{bytes_of, encode_segment}
use Rattle.layout.specs.Sizes.{segment_bytes}
use Rattle.vcf.specs.Emission.{gap_of}
use Rattle.vcf.proofs.Emitting.{gap-nothing, gap-size, gap-put}
use Rattle.vcf.proofs.put.put_gap.Goals as goal
use Rattle.vcf.proofs.put.put_gap.Goals.{After-segment_bytes, Else-n-eq0}

size :
    (e : Else-n-eq0) →
    length (bytes_of encode_segment (gap_of (meant e.args.bases.now))) ≡ segment_bytes (length e.args.bases.now) 1
size e = gap-size e.args.bases.now e.args.out.now e.args.at e.if-n-eq0.false

narrow : (e : Else-n-eq0) → length e.args.out.now < 18446744073709551616
narrow e = omega arith

exact : (c : After-segment_bytes) → c.segment_bytes.result ≡ segment_bytes (length c.args.bases.now) 1
exact c = omega (arith, c.segment_bytes.ensures, size (goal.at.After-segment_bytes c).Else-n-eq0, narrow (goal.at.After-segment_bytes c).Else-n-eq0, c.requires)

pub returns-then-n-eq0 : goal.returns-then-n-eq0
returns-then-n-eq0 c = let whole = gap-nothing c.args.bases.now _ _ c.if-n-eq0.true in record { value = whole.0; out_after = whole.1 }

pub overflow_add-at : goal.overflow_add-at
overflow_add-at c = omega (arith, size (goal.at.overflow_add-at c).Else-n-eq0, narrow (goal.at.overflow_add-at c).Else-n-eq0, c.requires)

pub overflow_add-result : goal.overflow_add-result
overflow_add-result c = omega (arith, exact (goal.at.overflow_add-result c).After-segment_bytes, size (goal.at.overflow_add-result c).Else-n-eq0, narrow (goal.at.overflow_add-result c).Else-n-eq0, c.requires)

pub shape_of-out : goal.shape_of-out
shape_of-out c = c.put_variant.auto.out ∙ c.put_variants.auto.out

pub returns : goal.returns
returns c =
    record { value = omega (arith, exact (goal.at.returns c).After-segment_bytes, size (goal.at.returns c).Else-n-eq0); out_after = gap-put c.args.bases.now _ _ c.if-n-eq0.false c.requires _ _ c.put_variants.ensures c.put_variant.ensures }
