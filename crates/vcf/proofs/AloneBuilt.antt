-- What `build` makes of a record alone: of a window of its REF, from a file that has no other record.
use Prim.Native.Nat.{ℕ, suc, ◌+◌, ◌-◌, ◌<◌, ◌≤◌}
use native.Mathlib.Omega.{arith}
use mathlib.Core.Path.{◌≡◌, refl, sym, ap, ap₂, ◌∙◌}
use mathlib.Core.Bool.{Bool, true, false, ◌||◌, ◌&&◌, cond}
use mathlib.Core.List.{List, [], ◌∷◌}
use borrow.Author.Tests.{le-leb, lt-leb, le-ltb, ne_eqb, ltb-true}
use lib.Dec.{leb, ltb}
use lib.ListN.{length, drop, get_or}
use lib.Seq.{take-length}
use Rattle.text.specs.Letter.{letter, every, first_not}
use Rattle.text.specs.Text.{Text}
use Rattle.text.specs.Compare.{same, prefix}
use Rattle.text.specs.Refusal.{Outcome, ok, refused, demand, after}
use Rattle.text.proofs.Likes.{meant-length}
use Rattle.text.proofs.Outcomes.{ok-inj, refused-ok, refused-inj, demand-met, after-met}
use Rattle.text.proofs.Strings.{same_refl}
use Rattle.text.proofs.Truth.{and_left, and_right}
use Rattle.layout.specs.Bytes.{greatest_stretch}
use Rattle.layout.specs.Encoding.{encode}
use Rattle.layout.specs.Sizes.{first_segment}
use Rattle.writer.specs.Putting.{once, putting}
use Rattle.vcf.specs.Pieces.{pieces, lines}
use Rattle.vcf.specs.Records.{heading, field, position, reference, alts, behind, allele, alternates_sound, is_record, placed}
use Rattle.vcf.specs.Records.{outside, agrees, passed_over, comment, fitting, records, noted}
use Rattle.vcf.specs.Building.{gap, text_from, building}
use Rattle.vcf.specs.Measures.{measure_of, measuring}
use Rattle.vcf.specs.declared.measuring.Measured.{Measured}
use Rattle.vcf.proofs.Alone.{one-segment}

-- lines of which none is a record, and lines of which one is: that one is asked, at its number
module _ (name w : List ℕ) (p : ℕ) where
  none-noted : (ls : List (List ℕ)) (n from : ℕ) → noted ls ≡ [] → records name w p n from ls ≡ ok []
  unfolding records noted
  none-noted [] n from e = refl
  none-noted (x ∷ ls) n from e = cases (comment x) e (none-noted ls (suc n) from)
    where
      cases :
          (b : Bool) → cond b (noted ls) (x ∷ noted ls) ≡ [] → (noted ls ≡ [] → records name w p (suc n) from ls ≡ ok []) →
          cond b (records name w p (suc n) from ls)
          (demand (fitting name w p from x) 19 n
          (after (records name w p (suc n) (behind x) ls) λ xs. ok (cond (passed_over w p x) xs (x ∷ xs))))
          ≡ ok []
      cases true e i = i e
      cases false e i = absurd (let z : ⊥ = omega (arith, ap length e) in z)

  abbrev asked : List ℕ → ℕ → ℕ → Outcome (List (List ℕ))
  asked l k from = demand (fitting name w p from l) 19 k (ok (cond (passed_over w p l) [] (l ∷ [])))

  only-noted :
      (l : List ℕ) (ls : List (List ℕ)) (n from : ℕ) → noted ls ≡ l ∷ [] → (k : ℕ) × (records name w p n from ls ≡ asked l k from)
  unfolding records noted
  only-noted l [] n from e = absurd (let z : ⊥ = omega (arith, ap length e) in z)
  only-noted l (x ∷ ls) n from e = cases (comment x) e (only-noted l ls (suc n) from)
    where
      cases :
          (b : Bool) → cond b (noted ls) (x ∷ noted ls) ≡ l ∷ [] →
          (noted ls ≡ l ∷ [] → (k : ℕ) × (records name w p (suc n) from ls ≡ asked l k from)) →
          (k : ℕ)
          × (cond b (records name w p (suc n) from ls)
          (demand (fitting name w p from x) 19 n
          (after (records name w p (suc n) (behind x) ls) λ xs. ok (cond (passed_over w p x) xs (x ∷ xs))))
          ≡ asked l k from)
      cases true e i = i e
      cases false e i =
          let is : x ≡ l = ap (λ (ys : List (List ℕ)). get_or ys 0 []) e in
          let rest : noted ls ≡ [] = ap (drop 1) e in
          (n, rw (none-noted ls (suc n) (behind x) rest, is))

-- in the window of its REF a record lies whole, and agrees
module _ (name l : List ℕ) where
  abbrev T : Text
  T = (reference l ∷ alts l) ∷ []

  agreed : agrees (reference l) (position l) (position l) (reference l) ≡ true
  unfolding agrees
  agreed =
      let p : ℕ = position l in
      let end : ℕ = p + length (reference l) in
      let none : p - p ≡ 0 = omega arith in
      rw (le-leb p p (omega arith), le-leb end end (omega arith), none, take-length (reference l)) (same_refl (reference l))

  fitting-is : fitting name (reference l) (position l) 0 l ≡ is_record name l
  unfolding fitting
  fitting-is =
      rw (le-leb 0 (position l) (omega arith), agreed)
      (step (is_record name l) (passed_over (reference l) (position l) l))
    where
      step : (a b : Bool) → (a && true && (b || true)) ≡ a
      step true true = refl
      step true false = refl
      step false true = refl
      step false false = refl

  module _ (sound : is_record name l ≡ true) where
    some : 0 < length (reference l)
    unfolding is_record allele
    some =
        let a : Bool = leb 8 (length (pieces 0x09 l)) && same (field l 0) name in
        let r : Bool = ltb 0 (length (field l 3)) && every letter (field l 3) in
        let alt : Bool = alternates_sound (field l 4) in
        let front : (a && r && alt) ≡ true = and_left (a && r && alt) (ltb 0 (position l)) sound in
        let ref : r ≡ true = and_right a r (and_left (a && r) alt front) in
        let most : 0 < length (field l 3) = ltb-true 0 (length (field l 3)) (and_left _ (every letter (field l 3)) ref) in
        rw (meant-length (field l 3)) most

    inside : passed_over (reference l) (position l) l ≡ false
    unfolding outside
    inside =
        let end : ℕ = position l + length (reference l) in
        let far : position l < end = omega (arith, some) in
        rw (ne_eqb (length (reference l)) 0 (λ (z : length (reference l) ≡ 0). omega (arith, some)), lt-leb end (position l) far)

  text : text_from (reference l) (position l) 0 (l ∷ []) ≡ T
  unfolding text_from gap
  text =
      let size : ℕ = length (reference l) in
      let none : position l - position l ≡ 0 = omega arith in
      let last : position l + size - position l ≡ size = omega arith in
      rw (none, last, le-ltb size size (omega arith))

  -- what is put into one room is put into another that has the bytes, and what is refused for the text is refused in each
  roomy : (U : Text) (room : ℕ) → putting T greatest_stretch ≡ ok U → length (encode T) ≤ room → putting T room ≡ ok T
  unfolding putting
  roomy U room e l =
      let (small, a) = demand-met (leb (length (encode T)) greatest_stretch) 4 0 _ U e in
      let (n, once, _) = after-met (once 0 T) _ U a in
      rw (small, once, le-leb (length (encode T)) room l)

  refused-alike : (room n q : ℕ) → putting T greatest_stretch ≡ refused n q → putting T room ≡ refused n q
  unfolding putting
  refused-alike room n q e = step (leb (length (encode T)) greatest_stretch) (once 0 T) e
    where
      step :
          (b : Bool) (o : Outcome ℕ) → demand b 4 0 (after o λ _. demand b 15 0 (ok T)) ≡ refused n q →
          demand b 4 0 (after o λ _. demand (leb (length (encode T)) room) 15 0 (ok T)) ≡ refused n q
      step false o e = e
      step true (refused a b) e = e
      step true (ok v) e = absurd (refused-ok n q T (sym e))

  module _ (file : List ℕ) (begun : prefix heading file ≡ true) (only : noted (lines file) ≡ l ∷ []) (room : ℕ) where
    abbrev answer : Outcome Text
    answer = building file (field l 3) (position l) name room

    abbrev chain : ℕ → Outcome Text
    chain k =
        demand (placed (field l 3) (position l)) 28 0
        (demand (every letter (field l 3)) 7 (first_not letter (field l 3))
        (demand (is_record name l) 19 k
        (putting T room)))

    alone-built : (k : ℕ) × (answer ≡ chain k)
    unfolding building
    alone-built =
        let (k, h) = only-noted name (reference l) (position l) l (lines file) 1 0 only in
        (k, rw (begun, h, fitting-is) (step k (is_record name l) refl))
      where
        step :
            (k : ℕ) (b : Bool) → is_record name l ≡ b →
            demand (placed (field l 3) (position l)) 28 0
            (demand (every letter (field l 3)) 7 (first_not letter (field l 3))
            (after (demand b 19 k (ok (cond (passed_over (reference l) (position l) l) [] (l ∷ []))))
            λ ls. putting (text_from (reference l) (position l) 0 ls) room))
            ≡ demand (placed (field l 3) (position l)) 28 0
            (demand (every letter (field l 3)) 7 (first_not letter (field l 3)) (demand b 19 k (putting T room)))
        step k true e = rw (inside e, text)
        step k false e = refl

    -- a record that is measured is built, where there is room, and its segment has the bytes that were measured
    pub measured_built :
        (m : Measured) → measuring name l ≡ ok m → first_segment + m.bytes ≤ room → (answer ≡ ok T) × (m ≡ measure_of l)
    unfolding measuring
    measured_built m e fits =
        let (put, e1) = demand-met (placed (field l 3) (position l)) 28 0 _ m e in
        let (spelt, e2) = demand-met (every letter (field l 3)) 7 (first_not letter (field l 3)) _ m e1 in
        let (sound, e3) = demand-met (is_record name l) 19 0 _ m e2 in
        let (U, u, e4) = after-met (putting T greatest_stretch) (λ _. ok (measure_of l)) m e3 in
        let is : measure_of l ≡ m = ok-inj e4 in
        let bytes : (measure_of l).bytes ≡ m.bytes = ap (λ (x : Measured). x.bytes) is in
        let size : length (encode T) ≤ room = omega (arith, one-segment (reference l ∷ alts l), bytes) in
        (alone-built.1 ∙ rw (put, spelt, sound, roomy U room u size), sym is)

    -- one that is refused is refused by that number
    pub measured-refused : (n q : ℕ) → measuring name l ≡ refused n q → (j : ℕ) × (answer ≡ refused n j)
    unfolding measuring
    measured-refused n q e =
        let (j, h) = step (placed (field l 3) (position l)) (every letter (field l 3)) (is_record name l) (putting T greatest_stretch) e
        (refused-alike room n q) in
        (j, alone-built.1 ∙ h)
      where
        step :
            (a b c : Bool) (x : Outcome Text) →
            demand a 28 0 (demand b 7 (first_not letter (field l 3)) (demand c 19 0 (after x λ _. ok (measure_of l)))) ≡ refused n q →
            (x ≡ refused n q → putting T room ≡ refused n q) →
            (j : ℕ)
            × (demand a 28 0 (demand b 7 (first_not letter (field l 3)) (demand c 19 alone-built.0 (putting T room))) ≡ refused n j)
        step false b c x e h = let (i, _) = refused-inj e in (0, ap (λ (k : ℕ). refused k 0) i)
        step true false c x e h =
            let (i, _) = refused-inj e in (first_not letter (field l 3), ap (λ (k : ℕ). refused k (first_not letter (field l 3))) i)
        step true true false x e h = let (i, _) = refused-inj e in (alone-built.0, ap (λ (k : ℕ). refused k alone-built.0) i)
        step true true true (ok U) e h = absurd (refused-ok n q (measure_of l) (sym e))
        step true true true (refused a b) e h = let (i, j) = refused-inj e in (q, h (ap₂ refused i j))
