-- Laws of a record by itself: each answer of the code is the definition's, in its order.
use Prim.Native.Nat.{ℕ, ◌+◌, ◌-◌, ◌<◌, ◌≤◌}
use native.Mathlib.Omega.{arith}
use mathlib.Core.Path.{◌≡◌, sym, ap, ◌∙◌}
use mathlib.Core.Bool.{true, false}
use mathlib.Core.List.{List, [], ◌∷◌}
use borrow.Author.Tests.{le-leb}
use lib.ListN.{length, length-append}
use Rattle.text.specs.Letter.{letter, meant, every, first_not}
use Rattle.text.specs.Text.{Segment, Text}
use Rattle.text.specs.Refusal.{ok, refused}
use Rattle.text.proofs.Letters.{first-le, first-every, first-not-every}
use Rattle.text.proofs.Likes.{meant-length}
use Rattle.layout.specs.Bytes.{greatest_stretch, word_bytes}
use Rattle.layout.specs.Encoding.{bytes_of, encode_segment, encode}
use Rattle.layout.specs.Sizes.{first_segment}
use Rattle.writer.specs.Putting.{putting}
use Rattle.vcf.specs.Records.{field, position, reference, alternates, alts, is_record, placed}
use Rattle.vcf.specs.Tallies.{Tally, nothing, opened, tally_in, tally_text, Sane}
use Rattle.vcf.specs.Measures.{measuring}
use Rattle.vcf.specs.declared.survey.needed.Needed.{Needed}
use Rattle.std.proofs.Common.{Ok, Err}
use Rattle.text.specs.declared.refusal.Refusal.{Refusal}
use Rattle.vcf.proofs.Windows.{placed-zero}
use Rattle.vcf.proofs.Meant.{alternates-meant}
use Rattle.vcf.proofs.Verdicts.{told-long, told-repeated, told-fits}

pub sane-nothing : Sane nothing
sane-nothing = (omega arith, omega arith, omega arith)

-- the bytes of a text of one segment
pub one-segment : (g : Segment) → length (encode (g ∷ [])) ≡ first_segment + length (encode_segment g)
unfolding encode bytes_of word_bytes
one-segment g = omega (arith, length-append (encode_segment g) [])

module _ (name l : List ℕ) where
  abbrev segment : Segment
  segment = reference l ∷ alts l

  abbrev T : Text
  T = segment ∷ []

  pub measure-place : placed (field l 3) (position l) ≡ false → refused 28 0 ≡ measuring name l
  unfolding measuring
  measure-place e = rw e

  pub measure-nowhere : position l ≡ 0 → refused 28 0 ≡ measuring name l
  measure-nowhere e = measure-place (placed-zero (field l 3) (position l) e)

  module _ (put : placed (field l 3) (position l) ≡ true) {r : ℕ} (first : r ≡ first_not letter (field l 3)) where
    pub measure-letter : r < length (field l 3) → refused 7 r ≡ measuring name l
    unfolding measuring
    measure-letter m =
        let h : first_not letter (field l 3) < length (field l 3) = omega arith in
        rw (put, first-not-every letter (field l 3) h, first)

    module _ (m : length (field l 3) ≤ r) where
      spelt : every letter (field l 3) ≡ true
      spelt =
          let h : first_not letter (field l 3) ≡ length (field l 3) = omega (arith, first-le letter (field l 3)) in
          first-every letter (field l 3) h

      pub measure-unsound : is_record name l ≡ false → refused 19 0 ≡ measuring name l
      unfolding measuring
      measure-unsound e = rw (put, spelt, e)

      module _
          (sound : is_record name l ≡ true) {t : Tally}
          (is : t ≡ tally_in (opened nothing) [] (meant (field l 3) ∷ alternates (meant (field l 4)))) where
        needed : tally_text nothing T ≡ t
        unfolding tally_text
        needed = sym (is ∙ ap (λ (g : Segment). tally_in (opened nothing) [] (reference l ∷ g)) (alternates-meant (field l 4)))

        pub measure-long : {x : Refusal} → t ≡ Err x → refused x.number x.place ≡ measuring name l
        unfolding measuring
        measure-long e = rw (put, spelt, sound, told-long T greatest_stretch (needed ∙ e))

        module _ {n : Needed} (e : t ≡ Ok n) where
          pub measure-repeated : {x : Refusal} → n.variants ≡ Err x → refused x.number x.place ≡ measuring name l
          unfolding measuring
          measure-repeated f = rw (put, spelt, sound, told-repeated T greatest_stretch (needed ∙ e) f)

          module _ {v : ℕ} (f : n.variants ≡ Ok v) where
            bytes : n.bytes ≡ first_segment + length (encode_segment segment)
            bytes = sym (told-fits T greatest_stretch (needed ∙ e) f).bytes ∙ one-segment segment

            pub measure-some : first_segment ≤ n.bytes
            measure-some = omega (arith, bytes)

            pub measure-fits :
                {p k : ℕ} → p ≡ position l → k ≡ length (field l 3) →
                ok (record { position = p; bases = k; bytes = n.bytes - first_segment }) ≡ measuring name l
            unfolding measuring
            measure-fits {p} {k} at count =
                let f = told-fits T greatest_stretch (needed ∙ e) f in
                let whole : putting T greatest_stretch ≡ ok T = f.asks ∙ rw (le-leb n.bytes greatest_stretch f.small) in
                let size : n.bytes - first_segment ≡ length (encode_segment segment) = omega (arith, bytes) in
                rw (put, spelt, sound, whole, at, size, count, meant-length (field l 3))
