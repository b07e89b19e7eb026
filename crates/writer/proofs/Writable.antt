-- What a write accepts is the text that it was given, and that text can be written: its bytes are a stretch that reads back as it.
use Prim.Native.Nat.{ℕ, zero, suc, ◌<◌, ◌≤◌}
use native.Mathlib.Nat.{zero-add}
use native.Mathlib.Omega.{arith}
use mathlib.Core.Path.{◌≡◌, refl, sym, ◌∙◌}
use mathlib.Core.Bool.{Bool, true, not, ◌&&◌, and_assoc, and-true}
use mathlib.Core.List.{List, [], ◌∷◌, ◌++◌, append_assoc, append-nil}
use borrow.Author.Tests.{le-leb}
use lib.Dec.{ltb}
use lib.ListN.{length, get_or}
use Rattle.text.specs.Letter.{capital, every}
use Rattle.text.specs.Text.{Variant, Segment, Text}
use Rattle.text.specs.Refusal.{Outcome, ok}
use Rattle.text.proofs.Truth.{and_both}
use Rattle.text.proofs.Outcomes.{ok-inj, demand-met, after-met}
use Rattle.layout.specs.Bytes.{greatest_stretch}
use Rattle.layout.specs.Reading.{Taken, among, many}
use Rattle.layout.specs.Encoding.{encode, distinct, all, writable_segment, writable}
use Rattle.writer.specs.Writing.{Spot, spot, given, variant_given, segment_given, segments_given, writing_capitals}
use Rattle.layout.proofs.Rows.{all_append}
use Rattle.layout.proofs.Walks.{many-length}
use Rattle.writer.proofs.GivenSegment.{variant-met}
use Rattle.writer.proofs.GivenText.{next-segment, text-is}
use Rattle.writer.proofs.Texts.{needed-is}
use Rattle.writer.proofs.Writings.{Met, writing-met}

-- what each accepted thing keeps, an accepted walk keeps
pub many-keeps :
    {A B : Type 0} (f : List A → B → Outcome (Taken A B)) (P : List A → Type 0) →
    ((seen : List A) (at : B) (x : Taken A B) → P seen → f seen at ≡ ok x → P (seen ++ (x.value ∷ []))) →
    (n : ℕ) (seen : List A) (at : B) (x : Taken (List A) B) → P seen → many f n seen at ≡ ok x → P x.value
unfolding many
many-keeps f P step zero seen at x p e = rw (← ok-inj e) p
many-keeps f P step (suc n) seen at x p e =
    let (y, g, h) = after-met (f seen at) (λ y. many f n (seen ++ (y.value ∷ [])) y.next) x e in
    many-keeps f P step n (seen ++ (y.value ∷ [])) y.next x (step seen at y p g) h

all_snoc : {A : Type 0} (f : A → Bool) (l : List A) (a : A) → all f (l ++ (a ∷ [])) ≡ (all f l && f a)
unfolding all
all_snoc f l a = all_append f l (a ∷ []) ∙ rw and-true

distinct_snoc : (g seen : Segment) (v : Variant) → distinct seen (g ++ (v ∷ [])) ≡ (distinct seen g && not (among v (seen ++ g)))
unfolding distinct
distinct_snoc [] seen v = rw append-nil (and-true (not (among v seen)))
distinct_snoc (s ∷ g) seen v =
    rw (distinct_snoc g (seen ++ (s ∷ [])) v, append_assoc)
    (sym (and_assoc (not (among s seen)) (distinct (seen ++ (s ∷ [])) g) (not (among v (seen ++ (s ∷ g))))))

-- variants of letters, none twice
pub record Sound (g : Segment) : Type 0 where
  pub letters : all (every capital) g ≡ true
  pub once : distinct [] g ≡ true

module _ (letters lengths counts : List ℕ) where
  variants-sound : (n : ℕ) (at : Spot) (x : Taken Segment Spot) → many (variant_given letters lengths) n [] at ≡ ok x → Sound x.value
  unfolding all distinct
  variants-sound n at x e = many-keeps (variant_given letters lengths) Sound step n [] at x (record { letters = refl; once = refl }) e
    where
      step :
          (seen : Segment) (at : Spot) (x : Taken Variant Spot) → Sound seen → variant_given letters lengths seen at ≡ ok x →
          Sound (seen ++ (x.value ∷ []))
      step seen at x s e =
          let a = variant-met letters lengths seen at.variant at.letter x e in
          rw a.is
          record {
            letters = all_snoc (every capital) seen _ ∙ and_both _ _ s.letters a.spelt;
            once = distinct_snoc seen [] _ ∙ and_both _ _ s.once a.once;
          }

  -- the counts are bytes
  module _ (bytes : (k : ℕ) → get_or counts k 0 < 256) where
    segment-writable :
        (j : ℕ) (at : Spot) (x : Taken Segment Spot) → segment_given letters lengths counts j at ≡ ok x → writable_segment x.value ≡ true
    unfolding segment_given writable_segment
    segment-writable j at x e =
        let n : ℕ = get_or counts j 0 in
        let (some, f) = demand-met (ltb 0 n) 6 j (many (variant_given letters lengths) n [] at) x e in
        let size : length x.value ≡ n = many-length (variant_given letters lengths) n [] at x f ∙ zero-add n in
        let most : n ≤ 255 = omega (arith, bytes j) in
        let s = variants-sound n at x f in
        rw (size, some, le-leb n 255 most, s.letters) s.once

    segments-writable : (x : Taken Text Spot) → segments_given letters lengths counts ≡ ok x → all writable_segment x.value ≡ true
    unfolding segments_given all
    segments-writable x e =
        many-keeps (next-segment letters lengths counts) (λ T. all writable_segment T ≡ true) step (length counts) [] (spot 0 0) x refl e
      where
        step :
            (seen : Text) (at : Spot) (x : Taken Segment Spot) → all writable_segment seen ≡ true →
            next-segment letters lengths counts seen at ≡ ok x → all writable_segment (seen ++ (x.value ∷ [])) ≡ true
        step seen at x s e = all_snoc writable_segment seen x.value ∙ and_both _ _ s (segment-writable (length seen) at x e)

    -- the theorem
    pub writing-writable :
        (room : ℕ) (t : Text) → writing_capitals letters lengths counts room ≡ ok t
        → (t ≡ given letters lengths counts) × (writable t ≡ true)
    unfolding writable
    writing-writable room t e =
        let m : Met letters lengths counts t = writing-met letters lengths counts room t e in
        let x : Taken Text Spot = record { value = t; next = m.last } in
        let is : t ≡ given letters lengths counts = text-is m.fitting.matching x m.all in
        let small : length (encode t) ≤ greatest_stretch = rw (is, ← needed-is m.fitting.matching) m.fitting.small in
        (is, and_both _ _ (segments-writable x m.all) (le-leb (length (encode t)) greatest_stretch small))
