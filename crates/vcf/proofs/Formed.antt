-- The text of a window has 1 to 255 variants of letters in each segment, so that it can be written where 4 and 8 do not refuse it.
use Prim.Native.Nat.{ℕ, suc, ◌-◌, ◌<◌, ◌≤◌}
use native.Mathlib.Omega.{arith}
use mathlib.Core.Path.{◌≡◌, refl, ◌∙◌}
use mathlib.Core.Bool.{Bool, true, false, ◌&&◌, cond}
use mathlib.Core.List.{List, [], ◌∷◌, map}
use lib.Dec.{leb, ltb}
use lib.ListN.{length, drop, length-map}
use borrow.Author.Tests.{lt-ltb, le-leb, leb-true, ltb-true}
use Rattle.text.specs.Letter.{letter, capital, meant, every}
use Rattle.text.specs.Text.{Variant, Segment, Text}
use Rattle.text.specs.Compare.{same}
use Rattle.text.proofs.Letters.{every_take, every_drop}
use Rattle.text.proofs.Truth.{and_both, and_left, and_right}
use Rattle.text.proofs.Meanings.{letters-capital}
use Rattle.layout.specs.Bytes.{part}
use Rattle.layout.specs.Encoding.{all}
use Rattle.writer.specs.Putting.{formed_segment}
use Rattle.text.proofs.Spellings.{Filled}
use Rattle.layout.proofs.Rows.{all_append}
use Rattle.writer.proofs.RoundTrips.{some-variants}
use Rattle.vcf.specs.Pieces.{pieces}
use Rattle.vcf.specs.Records.{field, position, reference, alts, alternates, behind, allele, alternates_sound, is_record}
use Rattle.vcf.specs.Building.{gap, text_from}
use Rattle.vcf.proofs.Kept.{Kept}

-- alleles are letters in upper case once they are raised
allele-capitals : (v : Variant) → allele v ≡ true → every capital (meant v) ≡ true
unfolding allele
allele-capitals v e = letters-capital v (and_right (ltb 0 (length v)) (every letter v) e)

alleles-capitals : (g : List Variant) → all allele g ≡ true → all (every capital) (map meant g) ≡ true
unfolding all
alleles-capitals [] e = refl
alleles-capitals (v ∷ g) e =
    and_both (every capital (meant v)) (all (every capital) (map meant g)) (allele-capitals v (and_left (allele v) (all allele g) e))
    (alleles-capitals g (and_right (allele v) (all allele g) e))

-- the segment of a record
record-formed : (name l : List ℕ) → is_record name l ≡ true → formed_segment (reference l ∷ alts l) ≡ true
unfolding is_record alternates_sound formed_segment all
record-formed name l e =
    let own : List Variant = alternates (field l 4) in
    let eight : Bool = leb 8 (length (pieces 0x09 l)) && same (field l 0) name in
    let few : Bool = leb (length own) 254 in
    let front : (eight && allele (field l 3) && (few && all allele own)) ≡ true =
    and_left (eight && allele (field l 3) && (few && all allele own)) (ltb 0 (position l)) e in
    let ref : allele (field l 3) ≡ true =
    and_right eight (allele (field l 3)) (and_left (eight && allele (field l 3)) (few && all allele own) front) in
    let alt : (few && all allele own) ≡ true = and_right (eight && allele (field l 3)) (few && all allele own) front in
    let most : length own ≤ 254 = leb-true (length own) 254 (and_left few (all allele own) alt) in
    let small : suc (length (alts l)) ≤ 255 = omega (arith, length-map own meant) in
    let some : 0 < suc (length (alts l)) = omega arith in
    rw (lt-ltb 0 (suc (length (alts l))) some, le-leb (suc (length (alts l))) 255 small, allele-capitals (field l 3) ref)
    (alleles-capitals own (and_right few (all allele own) alt))

-- the bases between records
gap-formed : (w : List ℕ) (a b : ℕ) → every capital w ≡ true → all formed_segment (gap w a b) ≡ true
unfolding gap all formed_segment
gap-formed w a b e = step (ltb a b)
  where
    step : (r : Bool) → all formed_segment (cond r ((part w a (b - a) ∷ []) ∷ []) []) ≡ true
    step true = rw (every_take capital (b - a) (drop a w) (every_drop capital a w e))
    step false = refl

-- each segment of such a text has a variant
pub formed-filled : (T : Text) → all formed_segment T ≡ true → Filled T
unfolding all
formed-filled [] e = tt
formed-filled (g ∷ T) e =
    let some : 0 < length g = ltb-true 0 (length g) (some-variants g (and_left (formed_segment g) (all formed_segment T) e)) in
    (some, formed-filled T (and_right (formed_segment g) (all formed_segment T) e))

pub text-formed :
    (name w : List ℕ) (p : ℕ) → every capital w ≡ true → (ls : List (List ℕ)) (base from : ℕ) → Kept name w p from ls →
    all formed_segment (text_from w p base ls) ≡ true
unfolding text_from Kept all
text-formed name w p e [] base from k = gap-formed w base (length w) e
text-formed name w p e (l ∷ ls) base from k =
    let rest : Text = text_from w p (behind l - p) ls in
    let own : Segment = reference l ∷ alts l in
    all_append formed_segment (gap w base (position l - p)) (own ∷ rest)
    ∙ and_both (all formed_segment (gap w base (position l - p))) (formed_segment own && all formed_segment rest)
    (gap-formed w base (position l - p) e)
    (and_both (formed_segment own) (all formed_segment rest) (record-formed name l k.0.sound)
    (text-formed name w p e ls (behind l - p) (behind l) k.1))
