-- Laws of the text that a write is given: its segments one after another, and the bytes that they need.
use Prim.Native.Nat.{ℕ, ◌+◌, ◌<◌, ◌≤◌}
use native.Mathlib.Numerals.{add-one}
use native.Mathlib.Omega.{arith}
use mathlib.Core.Path.{◌≡◌, refl, sym, ap, ◌∙◌}
use mathlib.Core.List.{List, [], ◌∷◌, ◌++◌}
use lib.ListN.{length, take, drop, get_or, length-append, take-append-drop}
use lib.Seq.{drop-cons, drop-drop, take-add, take_all, take_at, drop_at}
use Rattle.text.specs.Text.{Segment, total}
use Rattle.text.proofs.Sizes.{total-append}
use Rattle.layout.specs.Bytes.{part}
use Rattle.layout.specs.Encoding.{encode_segment, encode}
use Rattle.layout.specs.Sizes.{segment_bytes}
use Rattle.writer.specs.Cuts.{cut, sum, sum_from, pieces, Within}
use Rattle.writer.specs.Writing.{given, Matching, needed}
use Rattle.layout.proofs.Lengths.{length-segment, length-text}
use Rattle.writer.proofs.Totals.{sum-at}
use Rattle.writer.proofs.Cuts.{cut-append, length_cut, length-pieces, length_part}

-- j segments are passed, up to variant v and its letter `at`; what is left of the counts and of the lengths still matches
pub record Matched (letters lengths counts : List ℕ) (j v at : ℕ) : Type 0 where
  pub listed : v + sum (drop j counts) ≡ length lengths
  pub spelt : at + sum (drop v lengths) ≡ length letters

pub matched-none : {letters lengths counts : List ℕ} → Matching letters lengths counts → Matched letters lengths counts 0 0 0
matched-none m = record { listed = omega (arith, m.listed); spelt = omega (arith, m.spelt) }

-- the numbers from number k on: n of them, and the rest
rest-split : (ns : List ℕ) (k n : ℕ) → drop k ns ≡ part ns k n ++ drop (k + n) ns
rest-split ns k n = sym (take-append-drop n (drop k ns)) ∙ rw drop-drop

sum-rest : (ns : List ℕ) (k n : ℕ) → sum (drop k ns) ≡ sum_from ns k n + sum (drop (k + n) ns)
sum-rest ns k n = ap sum (rest-split ns k n) ∙ total-append (λ n. n) (part ns k n) (drop (k + n) ns)

-- the next segment, of n variants
module _ {letters lengths counts : List ℕ} {j v at : ℕ} (m : Matched letters lengths counts j v at) (l : j < length counts) where
  abbrev n : ℕ
  n = get_or counts j 0

  pub matched-within : Within (length letters) lengths v at n
  matched-within = record { listed = omega (arith, m.listed, sum-at counts j l); inside = omega (arith, m.spelt, sum-rest lengths v n) }

  pub matched-more : Matched letters lengths counts (j + 1) (v + n) (at + sum_from lengths v n)
  matched-more = record { listed = omega (arith, m.listed, sum-at counts j l); spelt = omega (arith, m.spelt, sum-rest lengths v n) }

  -- the variants from there on are its own and the rest
  variants-split :
      cut (drop v lengths) (drop at letters)
      ≡ pieces letters lengths v at n ++ cut (drop (v + n) lengths) (drop (at + sum_from lengths v n) letters)
  variants-split =
      ap (λ (ns : List ℕ). cut ns (drop at letters)) (rest-split lengths v n)
      ∙ cut-append (part lengths v n) (drop (v + n) lengths) (drop at letters)
      ∙ rw drop-drop

  pub given-first :
      given (drop at letters) (drop v lengths) (drop j counts)
      ≡ pieces letters lengths v at n ∷ given (drop (at + sum_from lengths v n) letters) (drop (v + n) lengths) (drop (j + 1) counts)
  unfolding given cut
  given-first =
      let g : Segment = pieces letters lengths v at n in
      let rest : Segment = cut (drop (v + n) lengths) (drop (at + sum_from lengths v n) letters) in
      let size : length g ≡ n = length-pieces letters lengths v at n matched-within.listed in
      rw (add-one, drop-cons counts j 0, variants-split, take_at g rest n size, drop_at g rest n size)

-- what the pieces of a list have together
module _ {A : Type 0} where
  cut-lengths : (ns : List ℕ) (l : List A) → total length (cut ns l) ≡ length (take (sum ns) l)
  unfolding cut total
  cut-lengths [] l = refl
  cut-lengths (n ∷ ns) l =
      omega (
        arith,
        cut-lengths ns (drop n l),
        ap length (take-add n (sum ns) l),
        length-append (take n l) (take (sum ns) (drop n l)),
      )

  cut-total : (f : A → ℕ) (ns : List ℕ) (l : List A) → total (total f) (cut ns l) ≡ total f (take (sum ns) l)
  unfolding cut total
  cut-total f [] l = refl
  cut-total f (n ∷ ns) l =
      omega (
        arith,
        cut-total f ns (drop n l),
        ap (total f) (take-add n (sum ns) l),
        total-append f (take n l) (take (sum ns) (drop n l)),
      )

-- the bytes that a write needs are those of its text
pub needed-is :
    {letters lengths counts : List ℕ} → Matching letters lengths counts →
    needed letters lengths counts ≡ length (encode (given letters lengths counts))
unfolding needed given
needed-is {letters} {lengths} {counts} m =
    let g : Segment = cut lengths letters in
    let variants : length g ≤ sum counts = omega (arith, m.listed, length_cut lengths letters) in
    let spelt : length letters ≤ sum lengths = omega (arith, m.spelt) in
    omega (
      arith,
      length-text (cut counts g),
      length_cut counts g,
      length_cut lengths letters,
      cut-lengths counts g,
      ap length (take_all (sum counts) g variants),
      cut-total length counts g,
      ap (total length) (take_all (sum counts) g variants),
      cut-lengths lengths letters,
      ap length (take_all (sum lengths) letters spelt),
    )

pub segment-size :
    (letters : List ℕ) {lengths : List ℕ} {v at n : ℕ} → Within (length letters) lengths v at n →
    length (encode_segment (pieces letters lengths v at n)) ≡ segment_bytes (sum_from lengths v n) n
segment-size letters {lengths} {v} {at} {n} w =
    omega (
      arith,
      length-segment (pieces letters lengths v at n),
      length-pieces letters lengths v at n w.listed,
      cut-lengths (part lengths v n) (drop at letters),
      length_part letters at (sum_from lengths v n) w.inside,
    )
