-- Every refusal of a reading has a number from 4 to 9 and a place up to 32,768; so 16, "more than 10,922 segments", is never given.
use Rattle.std.proofs.Common.{◌≡◌, ℕ, zero, suc, ◌+◌, ◌*◌, ◌<◌, ◌≤◌, Bool, true, false, not, eqb, ltb, leb, List, [], ◌∷◌, ◌++◌, length, get_or, drop, refl, ap, ◌∙◌, subst, arith, length-take, ltb-true, eqb-true, le-leb, leb-true}
use Rattle.text.specs.Letter.{letter, every}
use Rattle.text.specs.Text.{Segment, Text}
use Rattle.text.specs.Refusal.{Outcome, ok, refused, demand, after}
use Rattle.text.proofs.Letters.{first-le}
use Rattle.layout.specs.Bytes.{greatest_stretch, word}
use Rattle.layout.specs.Pieces.{open_at, variants_at, head_at, letters_at, next_of, wrong_place, most_in_stretch, closed_at}
use Rattle.layout.specs.Reading.{Taken, value_of, among, formed, many, variant_at, segment_at, segments_of, whole_stretch, stretch_of}
use Rattle.layout.specs.Reading.{lone_segment, segment_of}
use Rattle.layout.proofs.Walks.{walk-length}
use Rattle.layout.proofs.Frames.{Opens}
use Rattle.layout.proofs.Decoding.{segments-read, stretch-room}

-- such a number and place
pub record Low (n p : ℕ) : Type 0 where
  pub least : 4 ≤ n
  pub number : n ≤ 9
  pub place : p ≤ greatest_stretch

-- what was accepted has P, or the refusal is low
abbrev Kept : {A : Type 0} → (A → Type 0) → Outcome A → Type 0
Kept P (ok a) = P a
Kept P (refused n p) = Low n p

abbrev Any : {A : Type 0} → A → Type 0
Any _ = Unit {0}

demand-kept :
    {A : Type 0} (P : A → Type 0) (t : Bool) (n p : ℕ) (o : Outcome A) → Low n p → (t ≡ true → Kept P o) → Kept P (demand t n p o)
demand-kept P true n p o low k = k refl
demand-kept P false n p o low k = low

after_kept :
    {A B : Type 0} (P : A → Type 0) (Q : B → Type 0) (o : Outcome A) (f : A → Outcome B) → Kept P o →
    ((a : A) → o ≡ ok a → P a → Kept Q (f a)) → Kept Q (after o f)
after_kept P Q (ok a) f k h = h a refl k
after_kept P Q (refused n p) f k h = k

module _ (s : List ℕ) where
  -- the place after what was read lies in the bytes
  abbrev Inside : {A : Type 0} → Taken A ℕ → Type 0
  Inside x = x.next ≤ length s

  many-kept :
      {A : Type 0} (f : List A → ℕ → Outcome (Taken A ℕ)) → ((seen : List A) (at : ℕ) → at ≤ length s → Kept Inside (f seen at)) →
      (n : ℕ) (seen : List A) (at : ℕ) → at ≤ length s → Kept Inside (many f n seen at)
  unfolding many
  many-kept f h zero seen at l = l
  many-kept f h (suc n) seen at l =
      after_kept Inside Inside (f seen at) _ (h seen at l) (λ x _ k. many-kept f h n (seen ++ (x.value ∷ [])) x.next k)

  module _ (short : length s ≤ greatest_stretch) where
    variant-kept : (seen : Segment) (at : ℕ) → at ≤ length s → Kept Inside (variant_at s seen at)
    unfolding variant_at formed head_at
    variant-kept seen at l =
        after_kept (λ _. next_of s at ≤ length s) Inside (head_at s at) _
        (demand-kept (λ _. next_of s at ≤ length s) (leb (next_of s at) (length s)) 5 at _ (omega arith) (leb-true (next_of s at) (length s)))
        λ _ _ fits.
        let wrong : Low 7 (wrong_place s at) = omega (arith, first-le letter (letters_at s at), length-take (word s at) (drop (at + 2) s)) in
        demand-kept Inside (every letter (letters_at s at)) 7 (wrong_place s at) _ wrong λ _.
        demand-kept Inside (not (among (value_of s at) seen)) 8 at _ (omega arith) λ _.
        fits

    segment-kept : (at : ℕ) → at ≤ length s → Kept Inside (segment_at s at)
    unfolding segment_at variants_at
    segment-kept at l =
        after_kept (λ _. at < length s) Inside (variants_at s at) _
        (demand-kept (λ _. at < length s) (ltb at (length s)) 5 at _ (omega arith) λ inside.
        demand-kept (λ _. at < length s) (ltb 0 (get_or s at 0)) 6 at _ (omega arith) λ _.
        ltb-true at (length s) inside)
        λ n _ inside. many-kept (variant_at s) variant-kept n [] (at + 1) (omega arith)

  -- bytes left after the end are refused where they begin; where none are, the segments are few
  closed-kept :
      (at n : ℕ) → length s ≤ greatest_stretch → at ≤ length s → (at ≡ length s → n ≤ most_in_stretch) → Kept Any (closed_at s at n)
  unfolding closed_at
  closed-kept at n short l few =
      demand-kept Any (eqb at (length s)) 9 at _ (omega arith) λ end.
      let low : n ≤ most_in_stretch = few (eqb-true at (length s) end) in
      rw (le-leb n most_in_stretch low) tt

  open_kept : Kept (Opens s) (open_at s)
  unfolding open_at
  open_kept =
      demand-kept (Opens s) (leb 2 (length s)) 5 0 _ (omega arith) λ two.
      record { counted = leb-true 2 (length s) two; count = refl }

  stretch-kept : Kept Any (stretch_of s)
  unfolding stretch_of whole_stretch segments_of
  stretch-kept =
      demand-kept Any (leb (length s) greatest_stretch) 4 0 _ (omega arith) λ fits.
      let short : length s ≤ greatest_stretch = leb-true (length s) greatest_stretch fits in
      after_kept (Opens s) Any (open_at s) _ open_kept λ n _ o.
      after_kept Inside Any (many (λ _. segment_at s) n [] 2) _
      (many-kept (λ _. segment_at s) (λ _. segment-kept short) n [] 2 o.counted) λ x e k.
      after_kept Any Any (closed_at s x.next n) _ (closed-kept x.next n short k (few n o short x e)) (λ _ _ _. tt)
    where
      -- where the segments end with the bytes, they take three bytes each
      few : (n : ℕ) → Opens s n → length s ≤ greatest_stretch → (x : Taken Text ℕ) → many (λ _. segment_at s) n [] 2 ≡ ok x
          → x.next ≡ length s → n ≤ most_in_stretch
      few n o short x e end =
          let all : many (λ _. segment_at s) n [] 2 ≡ ok (record { value = x.value; next = length s }) =
          e ∙ ap (λ (at : ℕ). ok (record { value = x.value; next = at })) end in
          let room : 2 + 3 * length x.value ≤ length s = stretch-room s x.value (segments-read s n x.value o all) in
          let count : length x.value ≡ n = walk-length (λ _. segment_at s) 2 n x.value (length s) all in
          omega (arith, short)

  segment-of-kept : Kept Any (segment_of s)
  unfolding segment_of lone_segment
  segment-of-kept =
      demand-kept Any (leb (length s) greatest_stretch) 4 0 _ (omega arith) λ fits.
      let short : length s ≤ greatest_stretch = leb-true (length s) greatest_stretch fits in
      after_kept Inside Any (segment_at s 0) _ (segment-kept short 0 (omega arith)) λ x _ k.
      after_kept Any Any (closed_at s x.next 1) _ (closed-kept x.next 1 short k (λ _. omega arith)) (λ _ _ _. tt)

-- the refusals of a stretch and of a lone segment are low
pub stretch-low : (s : List ℕ) (n p : ℕ) → stretch_of s ≡ refused n p → Low n p
stretch-low s n p e = subst (Kept Any) e (stretch-kept s)

pub segment-low : (s : List ℕ) (n p : ℕ) → segment_of s ≡ refused n p → Low n p
segment-low s n p e = subst (Kept Any) e (segment-of-kept s)

pub stretch-never-16 : (s : List ℕ) (p : ℕ) → stretch_of s ≡ refused 16 p → ⊥
stretch-never-16 s p e = omega (arith, stretch-low s 16 p e)
