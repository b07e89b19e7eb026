-- Laws of the frame of a stretch: how long it may be, how it opens, what a segment's count says and how it closes; and what the reading of
-- a segment and of a stretch is by these.
use Rattle.std.proofs.Common.{◌≡◌, ℕ, ◌+◌, ◌<◌, ◌≤◌, Bool, true, false, eqb, ltb, leb, List, [], length, get_or, sym, ap, ◌∙◌, arith, ltb-true, le-ltb, lt-ltb, eq-eqb, ne_eqb, eqb-true, le-leb, leb-true}
use borrow.Author.Tests.{lt-leb}
use Rattle.text.specs.Text.{Segment, Text}
use Rattle.text.specs.Refusal.{Outcome, ok, refused, demand, outcome}
use Rattle.text.specs.declared.refusal.Refusal.{Refusal}
use Rattle.text.proofs.Outcomes.{ok-inj, refused-ok, demand-met, after-met}
use Rattle.layout.specs.Bytes.{greatest_stretch, word, word_at}
use Rattle.layout.specs.Pieces.{fits_at, fits, open_at, variants_at, most_in_stretch, closed_at}
use Rattle.layout.specs.Reading.{Taken, variant_at, many, segment_at, segments_of, whole_stretch, stretch_of}
use Rattle.std.specs.Prelude.{Result, Ok, Err}

-- a demand that is refused is refused whatever follows
demand-refused :
    {A B : Type 0} (t : Bool) (n p : ℕ) (a : A) (o : Outcome B) (j q : ℕ) → demand t n p (ok a) ≡ refused j q →
    demand t n p o ≡ refused j q
demand-refused true n p a o j q e = absurd (refused-ok j q a (sym e))
demand-refused false n p a o j q e = let x : n ≡ j = cc in let y : p ≡ q = cc in cc

-- a stretch that opens, with its segment count
pub record Opens (s : List ℕ) (n : ℕ) : Type 0 where
  pub counted : 2 ≤ length s
  pub count : n ≡ word s 0

-- a segment's count, which is there and not 0
pub record Counts (s : List ℕ) (at n : ℕ) : Type 0 where
  pub inside : at < length s
  pub some : 0 < n
  pub count : n ≡ get_or s at 0

module _ (s : List ℕ) where
  -- the answers, from the tests
  pub fits-long : greatest_stretch < length s → fits_at s ≡ refused 4 0
  unfolding fits_at
  fits-long l = rw (lt-leb (length s) greatest_stretch l)

  pub fits-short : length s ≤ greatest_stretch → fits_at s ≡ ok tt
  unfolding fits_at
  fits-short l = rw (le-leb (length s) greatest_stretch l)

  -- what `fits` tells, whatever is asked after it
  module _ {v : Result (Unit {0}) Refusal} (told : outcome v ≡ fits_at s) where
    pub fits_refused : {w : Refusal} → v ≡ Err w → {A : Type 0} (o : Outcome A) → fits s o ≡ refused w.number w.place
    unfolding fits_at
    fits_refused {w} is o =
        demand-refused (leb (length s) greatest_stretch) 4 0 tt o w.number w.place (sym told ∙ ap outcome is)

    pub fits-met : v ≡ Ok tt → length s ≤ greatest_stretch
    unfolding fits_at
    fits-met is =
        leb-true (length s) greatest_stretch
        (demand-met (leb (length s) greatest_stretch) 4 0 (ok tt) tt (sym told ∙ ap outcome is)).0

  -- whoever asks it twice asks it once
  pub fits-once : {A : Type 0} (o : Outcome A) → length s ≤ greatest_stretch → fits s o ≡ o
  fits-once o l = rw (le-leb (length s) greatest_stretch l)

  pub open-cut : length s < 2 → open_at s ≡ refused 5 0
  unfolding open_at
  open-cut l = rw (lt-leb 2 (length s) l)

  pub open-counts : 2 ≤ length s → open_at s ≡ ok (word s 0)
  unfolding open_at
  open-counts l = rw (le-leb 2 (length s) l)

  module _ (at : ℕ) where
    pub variants-cut : length s ≤ at → variants_at s at ≡ refused 5 at
    unfolding variants_at
    variants-cut l = rw (le-ltb at (length s) l)

    module _ (l : at < length s) (n : ℕ) (e : n ≡ get_or s at 0) where
      pub variants-none : n ≡ 0 → variants_at s at ≡ refused 6 at
      unfolding variants_at
      variants-none z = rw (lt-ltb at (length s) l, ← e, z)

      pub variants-some : (n ≡ 0 → ⊥) → variants_at s at ≡ ok n
      unfolding variants_at
      variants-some some = let pos : 0 < n = omega arith in rw (lt-ltb at (length s) l, ← e, lt-ltb 0 n pos)

  module _ (at n : ℕ) where
    pub closed-left : (at ≡ length s → ⊥) → closed_at s at n ≡ refused 9 at
    unfolding closed_at
    closed-left l = rw (ne_eqb at (length s) l)

    module _ (end : at ≡ length s) where
      pub closed-many : most_in_stretch < n → closed_at s at n ≡ refused 16 0
      unfolding closed_at
      closed-many l = rw (eq-eqb at (length s) end, lt-leb n most_in_stretch l)

      pub closed-sound : n ≤ most_in_stretch → closed_at s at n ≡ ok tt
      unfolding closed_at
      closed-sound l = rw (eq-eqb at (length s) end, le-leb n most_in_stretch l)

  -- what an acceptance says
  pub open-met : (n : ℕ) → open_at s ≡ ok n → Opens s n
  unfolding open_at
  open-met n e =
      let a = demand-met (leb 2 (length s)) 5 0 _ n e in
      record { counted = leb-true 2 (length s) a.0; count = sym (ok-inj a.1) }

  -- and such a stretch states its count
  pub open-stated : (n : ℕ) → open_at s ≡ ok n → word_at s 0 ≡ n
  unfolding open_at word_at
  open-stated n e = let a = demand-met (leb 2 (length s)) 5 0 _ n e in rw a.0 (ok-inj a.1)

  pub variants-met : (at n : ℕ) → variants_at s at ≡ ok n → Counts s at n
  unfolding variants_at
  variants-met at n e =
      let a = demand-met (ltb at (length s)) 5 at _ n e in
      let b = demand-met (ltb 0 (get_or s at 0)) 6 at _ n a.1 in
      let is : get_or s at 0 ≡ n = ok-inj b.1 in
      record { inside = ltb-true at (length s) a.0; some = omega (arith, ltb-true 0 (get_or s at 0) b.0); count = sym is }

  -- a byte counts at most 255
  pub counts-few : ((i : ℕ) → get_or s i 0 < 256) → (at n : ℕ) → Counts s at n → n ≤ 255
  counts-few bytes at n c = omega (arith, bytes at, c.count)

  pub closed-met : (at n : ℕ) → closed_at s at n ≡ ok tt → (at ≡ length s) × (n ≤ most_in_stretch)
  unfolding closed_at
  closed-met at n e =
      let a = demand-met (eqb at (length s)) 9 at _ tt e in
      let b = demand-met (leb n most_in_stretch) 16 0 _ tt a.1 in
      (eqb-true at (length s) a.0, leb-true n most_in_stretch b.0)

-- a segment that was read: its count, and its variants
pub record SegmentMet (s : List ℕ) (at : ℕ) (x : Taken Segment ℕ) : Type 0 where
  pub count : ℕ
  pub counts : Counts s at count
  pub all : many (variant_at s) count [] (at + 1) ≡ ok x

pub segment-met : (s : List ℕ) (at : ℕ) (x : Taken Segment ℕ) → segment_at s at ≡ ok x → SegmentMet s at x
unfolding segment_at
segment-met s at x e =
    let (n, c, all) = after-met (variants_at s at) (λ n. many (variant_at s) n [] (at + 1)) x e in
    record { count = n; counts = variants-met s at n c; all = all }

-- bytes that were read as a stretch, their length apart: the count, the segments, and that nothing is left
pub record WholeMet (s : List ℕ) (t : Text) : Type 0 where
  pub count : ℕ
  pub opens : Opens s count
  pub all : many (λ _. segment_at s) count [] 2 ≡ ok (record { value = t; next = length s })
  pub few : count ≤ most_in_stretch

pub whole-met : (s : List ℕ) (t : Text) → whole_stretch s ≡ ok t → WholeMet s t
unfolding whole_stretch segments_of
whole-met s t e =
    let (n, o, f) = after-met (open_at s) _ t e in
    let (x, all, g) = after-met (many (λ _. segment_at s) n [] 2) _ t f in
    let (_, c, h) = after-met (closed_at s x.next n) (λ _. ok x.value) t g in
    let (end, few) = closed-met s x.next n c in
    record {
      count = n;
      opens = open-met s n o;
      all = all ∙ (λ i. ok (record { value = ok-inj h i; next = end i }));
      few = few;
    }

-- a stretch is such bytes, if they are not too many
module _ (s : List ℕ) where
  pub stretch-is : length s ≤ greatest_stretch → stretch_of s ≡ whole_stretch s
  unfolding stretch_of
  stretch-is short = fits-once s (whole_stretch s) short

  pub stretch-over : {v : Result (Unit {0}) Refusal} → outcome v ≡ fits_at s → {w : Refusal} → v ≡ Err w
      → stretch_of s ≡ refused w.number w.place
  unfolding stretch_of
  stretch-over told is = fits_refused s told is (whole_stretch s)

  pub stretch-whole : (t : Text) → stretch_of s ≡ ok t → (length s ≤ greatest_stretch) × (whole_stretch s ≡ ok t)
  unfolding stretch_of
  stretch-whole t e =
      let a = demand-met (leb (length s) greatest_stretch) 4 0 (whole_stretch s) t e in
      (leb-true (length s) greatest_stretch a.0, a.1)

-- one segment, from what `variants` tells
module _ (s : List ℕ) (at : ℕ) {r : Result ℕ Refusal} (told : outcome r ≡ variants_at s at) where
  pub count-met : {n : ℕ} → r ≡ Ok n → Counts s at n
  count-met {n} is = variants-met s at n (sym told ∙ ap outcome is)
