-- What a needed says of a text: whether its bytes fit, how many segments and variants there are, and its first repeated variant.
use Prim.Native.Nat.{ℕ, suc, ◌+◌, ◌<◌, ◌≤◌}
use native.Mathlib.Numerals.{add-one}
use native.Mathlib.Omega.{arith}
use mathlib.Core.Path.{◌≡◌, refl, sym, ap, ◌∙◌}
use mathlib.Core.Bool.{Bool, true, false, not, cond}
use mathlib.Core.List.{[], ◌∷◌, ◌++◌}
use lib.Dec.{leb}
use lib.ListN.{length, length-append}
use borrow.Author.Tests.{lt-leb, leb-true, leb-false}
use Rattle.text.specs.Text.{Variant, Segment, Text}
use Rattle.text.specs.Refusal.{Outcome, ok, refused, demand, after}
use Rattle.text.proofs.Outcomes.{after-after}
use Rattle.layout.specs.Bytes.{greatest_stretch, word_bytes}
use Rattle.layout.specs.Reading.{among}
use Rattle.layout.specs.Encoding.{bytes_of, encode_variant, encode_segment, encode}
use Rattle.layout.specs.Sizes.{first_segment, first_variant, first_letter}
use Rattle.layout.proofs.Lengths.{length-variant}
use Rattle.writer.specs.Putting.{once_in, once, putting}
use Rattle.std.proofs.Common.{Result, Ok, Err}
use Rattle.text.specs.declared.refusal.Refusal.{Refusal}
use Rattle.vcf.specs.Tallies.{Tally, within, nothing, needs, too_long, counted, grown, segmented, opened, recounted, tallied, tally_in}
use Rattle.vcf.specs.Tallies.{tally_text}
use Rattle.vcf.specs.declared.survey.needed.Needed.{Needed}

-- how many variants, or which is repeated
abbrev number : Outcome ℕ → Result ℕ Refusal
number (ok v) = Ok v
number (refused n k) = Err (record { number = n; place = k })

-- b bytes, g segments, and that number, if the bytes fit
abbrev meaning : Bool → ℕ → ℕ → Outcome ℕ → Tally
meaning true b g o = needs b g (number o)
meaning false b g o = too_long

abbrev meant : ℕ → ℕ → Outcome ℕ → Tally
meant b g o = meaning (within b) b g o

-- what no longer fits never fits again
within_more : (b n : ℕ) → within b ≡ false → within (b + n) ≡ false
within_more b n e = let l : greatest_stretch < b = leb-false b greatest_stretch e in lt-leb (b + n) greatest_stretch (omega arith)

grown-meant : (b g : ℕ) (o : Outcome ℕ) (n : ℕ) → grown (meant b g o) n ≡ meant (b + n) g o
grown-meant b g o n = step (within b) (within_more b n)
  where
    fits : (x : Bool) → cond x (needs (b + n) g (number o)) too_long ≡ meaning x (b + n) g o
    fits true = refl
    fits false = refl

    step : (w : Bool) → (w ≡ false → within (b + n) ≡ false) → grown (meaning w b g o) n ≡ meant (b + n) g o
    step true h = fits (within (b + n))
    step false h = rw (h refl)

opened-meant : (b g : ℕ) (o : Outcome ℕ) → opened (meant b g o) ≡ meant (b + first_variant) (g + 1) o
opened-meant b g o = ap segmented (grown-meant b g o first_variant) ∙ step (within (b + first_variant))
  where
    step : (w : Bool) → segmented (meaning w (b + first_variant) g o) ≡ meaning w (b + first_variant) (g + 1) o
    step true = refl
    step false = refl

-- the number after a variant that is repeated or not
abbrev next_number : Bool → ℕ → Outcome ℕ
next_number again v = demand (not again) 8 v (ok (v + 1))

number-counted : (o : Outcome ℕ) (again : Bool) → counted (number o) again ≡ number (after o (next_number again))
number-counted (ok v) true = refl
number-counted (ok v) false = refl
number-counted (refused n k) again = refl

tallied-meant : (b g : ℕ) (o : Outcome ℕ) (n : ℕ) (again : Bool) → tallied (meant b g o) n again ≡ meant (b + (n + first_letter)) g
    (after o (next_number again))
tallied-meant b g o n again =
    let sum : b + first_letter + n ≡ b + (n + first_letter) = omega arith in
    ap (λ (t : Tally). recounted (grown t n) again) (grown-meant b g o first_letter)
    ∙ ap (λ (t : Tally). recounted t again) (grown-meant (b + first_letter) g o n)
    ∙ step (within (b + first_letter + n))
    ∙ ap (λ (m : ℕ). meant m g (after o (next_number again))) sum
  where
    step :
        (w : Bool) →
        recounted (meaning w (b + first_letter + n) g o) again
        ≡ meaning w (b + first_letter + n) g (after o (next_number again))
    step true = ap (needs (b + first_letter + n) g) (number-counted o again)
    step false = refl

-- one variant after the other
once-next : (o : Outcome ℕ) (seen : Segment) (v : Variant) (g : Segment) →
    after (after o (next_number (among v seen))) (λ k. once_in k (seen ++ (v ∷ [])) g) ≡ after o (λ k. once_in k seen (v ∷ g))
unfolding once_in
once-next (refused n k) seen v g = refl
once-next (ok k) seen v g = step (among v seen)
  where
    step :
        (a : Bool) → after (demand (not a) 8 k (ok (k + 1))) (λ m. once_in m (seen ++ (v ∷ [])) g) ≡ demand (not a) 8 k
        (once_in (suc k) (seen ++ (v ∷ [])) g)
    step true = refl
    step false = rw add-one

size-more : (b : ℕ) (v : Variant) (g : Segment) → b + (length v + first_letter) + length (bytes_of encode_variant g) ≡ b + length
    (bytes_of encode_variant (v ∷ g))
unfolding bytes_of
size-more b v g = omega (arith, length-append (encode_variant v) (bytes_of encode_variant g), length-variant v)

pub in-meant : (g : Segment) (b s : ℕ) (o : Outcome ℕ) (seen : Segment) →
    tally_in (meant b s o) seen g ≡ meant (b + length (bytes_of encode_variant g)) s (after o (λ k. once_in k seen g))
unfolding tally_in bytes_of once_in
in-meant [] b s (ok k) seen = let e : b + 0 ≡ b = omega arith in rw e
in-meant [] b s (refused n k) seen = let e : b + 0 ≡ b = omega arith in rw e
in-meant (v ∷ g) b s o seen =
    let next : Outcome ℕ = after o (next_number (among v seen)) in
    let h = in-meant g (b + (length v + first_letter)) s next (seen ++ (v ∷ [])) in
    rw (tallied-meant b s o (length v) (among v seen)) (h ∙ rw (size-more b v g, once-next o seen v g))

segment-more : (b : ℕ) (g : Segment) (T : Text) → b + first_variant + length (bytes_of encode_variant g) + length (bytes_of encode_segment T) ≡ b + length
    (bytes_of encode_segment (g ∷ T))
unfolding bytes_of encode_segment
segment-more b g T = omega (arith, length-append (encode_segment g) (bytes_of encode_segment T))

text-meant : (T : Text) (b s : ℕ) (o : Outcome ℕ) →
    tally_text (meant b s o) T ≡ meant (b + length (bytes_of encode_segment T)) (s + length T) (after o (λ k. once k T))
unfolding tally_text bytes_of once
text-meant [] b s (ok k) = let e : b + 0 ≡ b = omega arith in let f : s + 0 ≡ s = omega arith in rw (e, f)
text-meant [] b s (refused n k) = let e : b + 0 ≡ b = omega arith in let f : s + 0 ≡ s = omega arith in rw (e, f)
text-meant (g ∷ T) b s o =
    let next : Outcome ℕ = after o (λ k. once_in k [] g) in
    let h = text-meant T (b + first_variant + length (bytes_of encode_variant g)) (s + 1) next in
    let z : s + 1 + length T ≡ s + suc (length T) = omega arith in
    rw (opened-meant b s o, in-meant g (b + first_variant) (s + 1) o [])
    (h ∙ rw (segment-more b g T, z, after-after o (λ k. once_in k [] g) (λ k. once k T)))

-- the theorem
pub tally-means : (T : Text) → tally_text nothing T ≡ meant (length (encode T)) (length T) (once 0 T)
unfolding encode word_bytes
tally-means T =
    let e : first_segment + length (bytes_of encode_segment T) ≡ length (encode T) =
    sym (length-append (word_bytes (length T)) (bytes_of encode_segment T)) in
    let z : 0 + length T ≡ length T = omega arith in
    text-meant T first_segment 0 (ok 0) ∙ rw (e, z)

-- what each case of the needed says of the write
module _ (T : Text) (room : ℕ) where
  pub told-long : {r : Refusal} → tally_text nothing T ≡ Err r → putting T room ≡ refused r.number r.place
  unfolding putting
  told-long {r} e = step (within (length (encode T))) (once 0 T) (sym (tally-means T) ∙ e)
    where
      step :
          (w : Bool) (o : Outcome ℕ) → meaning w (length (encode T)) (length T) o ≡ Err r →
          demand w 4 0 (after o λ _. demand (leb (length (encode T)) room) 15 0 (ok T)) ≡ refused r.number r.place
      step true o h = absurd (let x : ◌≡◌ {A = ℕ} 0 1 = cc in let y : ⊥ = omega arith in y)
      step false o h =
          let y : ◌≡◌ {A = Refusal} (record { number = 4; place = 0 }) r = cc in
          ap (λ (r : Refusal). refused r.number r.place) y

  module _ {t : Needed} (e : tally_text nothing T ≡ Ok t) where
    pub told-repeated : {r : Refusal} → t.variants ≡ Err r → putting T room ≡ refused r.number r.place
    unfolding putting
    told-repeated {r} f = step (within (length (encode T))) (once 0 T) (sym (tally-means T) ∙ e)
      where
        step :
            (w : Bool) (o : Outcome ℕ) → meaning w (length (encode T)) (length T) o ≡ Ok t →
            demand w 4 0 (after o λ _. demand (leb (length (encode T)) room) 15 0 (ok T)) ≡ refused r.number r.place
        step true (ok v) h = absurd (let x : ◌≡◌ {A = ℕ} 0 1 = cc in let y : ⊥ = omega arith in y)
        step true (refused n q) h =
            let y : ◌≡◌ {A = Needed} (record { bytes = length (encode T); segments = length T; variants = number (refused n q) }) t = cc in
            let z : ◌≡◌ {A = Result ℕ Refusal} (Err (record { number = n; place = q })) (Err r) = ap (λ (t : Needed). t.variants) y ∙ f in
            let x : ◌≡◌ {A = Refusal} (record { number = n; place = q }) r = cc in
            ap (λ (r : Refusal). refused r.number r.place) x
        step false o h = absurd (let x : ◌≡◌ {A = ℕ} 0 1 = cc in let y : ⊥ = omega arith in y)

    -- a text that fits
    pub record Fitting : Type 0 where
      pub bytes : length (encode T) ≡ t.bytes
      pub segments : length T ≡ t.segments
      pub small : t.bytes ≤ greatest_stretch
      pub asks : putting T room ≡ demand (leb t.bytes room) 15 0 (ok T)

    pub told-fits : {v : ℕ} → t.variants ≡ Ok v → Fitting
    unfolding putting
    told-fits {v} g = step (within (length (encode T))) (once 0 T) refl refl (sym (tally-means T) ∙ e)
      where
        step :
            (w : Bool) (o : Outcome ℕ) → within (length (encode T)) ≡ w → once 0 T ≡ o →
            meaning w (length (encode T)) (length T) o ≡ Ok t → Fitting
        step true (ok m) f o h =
            let x : ◌≡◌ {A = Needed} (record { bytes = length (encode T); segments = length T; variants = Ok m }) t = cc in
            let y : length (encode T) ≡ t.bytes = ap (λ (t : Needed). t.bytes) x in
            let z : length T ≡ t.segments = ap (λ (t : Needed). t.segments) x in
            record { bytes = y; segments = z; small = rw y at (leb-true (length (encode T)) greatest_stretch f); asks = rw (f, o, y) }
        step true (refused n q) f o h =
            let x : ◌≡◌ {A = Needed} (record { bytes = length (encode T); segments = length T; variants = number (refused n q) }) t = cc in
            let z : ◌≡◌ {A = Result ℕ Refusal} (Err (record { number = n; place = q })) (Ok v) = ap (λ (t : Needed). t.variants) x ∙ g in
            absurd (let x : ◌≡◌ {A = ℕ} 0 1 = cc in let y : ⊥ = omega arith in y)
        step false o f p h = absurd (let x : ◌≡◌ {A = ℕ} 0 1 = cc in let y : ⊥ = omega arith in y)
