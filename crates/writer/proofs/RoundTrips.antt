-- A text taken apart and written has the answer of a text written whole. So one that can be written is written as itself, and one
-- whose letters, raised to upper case, can be written, is written raised.
use Prim.Native.Nat.{ℕ, suc, ◌+◌, ◌≤◌}
use native.Mathlib.Nat.{add-zero}
use native.Mathlib.Numerals.{add-one}
use native.Mathlib.Omega.{arith}
use mathlib.Core.Path.{◌≡◌, refl, sym, ap, ap₂, ◌∙◌}
use mathlib.Core.Bool.{Bool, true, false, not, ◌&&◌}
use mathlib.Core.List.{List, [], ◌∷◌, ◌++◌, append_assoc, append-nil, map, map-append, flatten}
use borrow.Author.Tests.{le-leb, eq-eqb}
use lib.Dec.{leb, ltb}
use lib.ListN.{length, get_or, length-append, length-map}
use lib.Seq.{take-length, take-append_seam, drop-append_seam}
use Rattle.text.specs.Text.{Variant, Segment, Text, total}
use Rattle.text.specs.Letter.{capital, raised, meant, every}
use Rattle.text.specs.Refusal.{Outcome, ok, refused, demand, after}
use Rattle.text.proofs.Likes.{meant-length}
use Rattle.text.proofs.Meanings.{capitals-meant}
use Rattle.text.proofs.Truth.{and_both, and_left, and_right}
use Rattle.text.proofs.Outcomes.{ok-inj, demand-met, after-met}
use Rattle.layout.specs.Bytes.{greatest_stretch, part}
use Rattle.layout.specs.Reading.{Taken, among, many}
use Rattle.layout.specs.Encoding.{encode, raised_text, all, distinct, writable_segment, writable}
use Rattle.writer.specs.Cuts.{cut, sum}
use Rattle.writer.specs.Writing.{Spot, spot, given, Matching, needed, variant_given, segment_given, segments_given, writing_capitals}
use Rattle.writer.specs.Writing.{writing, letters_of, lengths_of, counts_of}
use Rattle.writer.specs.Putting.{formed_segment, once_in, once, putting}
use Rattle.layout.proofs.Stands.{Stands, stands-front, stands-back, stands_at}
use Rattle.writer.proofs.Texts.{needed-is}
use Rattle.writer.proofs.GivenText.{next-segment}

flatten-append : {A : Type 0} (l k : List (List A)) → flatten (l ++ k) ≡ flatten l ++ flatten k
unfolding flatten
flatten-append [] k = refl
flatten-append (a ∷ l) k = rw (flatten-append l k) (sym (append_assoc a (flatten l) (flatten k)))

-- the lengths of lists sum to the length of all of them in a row
sum-lengths : {A : Type 0} (l : List (List A)) → sum (map length l) ≡ length (flatten l)
unfolding flatten total
sum-lengths [] = refl
sum-lengths (a ∷ l) = omega (arith, length-append a (flatten l), sum-lengths l)

cut-flatten : {A : Type 0} (l : List (List A)) → cut (map length l) (flatten l) ≡ l
unfolding flatten cut
cut-flatten [] = refl
cut-flatten (a ∷ l) = rw (take-append_seam a (flatten l), drop-append_seam a (flatten l), cut-flatten l)

-- so the numbers of a text taken apart match
apart-matching : (t : Text) → Matching (letters_of t) (lengths_of t) (counts_of t)
unfolding letters_of lengths_of counts_of
apart-matching t = record { listed = sum-lengths t ∙ sym (length-map (flatten t) length); spelt = sum-lengths (flatten t) }

-- it is cut out of its own letters, and needs the bytes that it has
given-apart : (t : Text) → given (letters_of t) (lengths_of t) (counts_of t) ≡ t
unfolding given letters_of lengths_of counts_of
given-apart t = rw (cut-flatten (flatten t)) (cut-flatten t)

pub record Apart (t : Text) : Type 0 where
  pub matching : Matching (letters_of t) (lengths_of t) (counts_of t)
  pub size : needed (letters_of t) (lengths_of t) (counts_of t) ≡ length (encode t)

pub apart : (t : Text) → Apart t
apart t = let m = apart-matching t in record { matching = m; size = rw (given-apart t) at (needed-is m) }

-- what is asked of a segment besides that no variant is there twice
pub some-variants : (g : Segment) → formed_segment g ≡ true → ltb 0 (length g) ≡ true
unfolding formed_segment
some-variants g f =
    and_left (ltb 0 (length g)) (leb (length g) 255) (and_left (ltb 0 (length g) && leb (length g) 255) (all (every capital) g) f)

pub all-capitals : (g : Segment) → formed_segment g ≡ true → all (every capital) g ≡ true
unfolding formed_segment
all-capitals g f = and_right (ltb 0 (length g) && leb (length g) 255) (all (every capital) g) f

-- an accepted segment gives the number after its variants
once-count : (g : Segment) (v : ℕ) (seen : Segment) (k : ℕ) → once_in v seen g ≡ ok k → k ≡ v + length g
unfolding once_in
once-count [] v seen k e = let h : v ≡ k = ok-inj e in omega arith
once-count (x ∷ g) v seen k e =
    let d = demand-met (not (among x seen)) 8 v (once_in (suc v) (seen ++ (x ∷ [])) g) k e in
    let h : k ≡ suc v + length g = once-count g (suc v) (seen ++ (x ∷ [])) k d.1 in
    omega arith

module _ (letters lengths : List ℕ) where
  -- the lengths and the letters of the variants l stand in those of a call, from number v and letter `at` on
  record Standing (v at : ℕ) (l : Segment) : Type 0 where
    listed : Stands lengths v (map length l)
    spelt : Stands letters at (flatten l)

  standing-front : (v at : ℕ) (g l : Segment) → Standing v at (g ++ l) → Standing v at g
  standing-front v at g l h = record {
    listed = stands-front lengths v (map length g) (map length l) (rw map-append at h.listed);
    spelt = stands-front letters at (flatten g) (flatten l) (rw flatten-append at h.spelt);
  }

  standing-back : (v at : ℕ) (g l : Segment) → Standing v at (g ++ l) → Standing (v + length g) (at + length (flatten g)) l
  standing-back v at g l h =
      let listed = stands-back lengths v (map length g) (map length l) (rw map-append at h.listed) in
      record {
        listed = rw (length-map g length) at listed;
        spelt = stands-back letters at (flatten g) (flatten l) (rw flatten-append at h.spelt);
      }

  -- what is after a segment, and after a text
  abbrev behind : Segment → ℕ → ℕ → Outcome (Taken Segment Spot)
  behind g at k = ok (record { value = g; next = spot k at })

  abbrev behind_text : Text → ℕ → ℕ → Outcome (Taken Text Spot)
  behind_text T at k = ok (record { value = T; next = spot k at })

  -- variants of letters are asked for repetition alone, one after another
  first-written :
      (x : Variant) (l seen : Segment) (v at : ℕ) → get_or lengths v 0 ≡ length x → part letters at (length x) ≡ x → every capital x ≡ true →
      many (variant_given letters lengths) (length l) (seen ++ (x ∷ [])) (spot (v + 1) (at + length x))
      ≡ after (once_in (v + 1) (seen ++ (x ∷ [])) l) (behind (seen ++ (x ∷ []) ++ l) (at + length x + length (flatten l))) →
      after (variant_given letters lengths seen (spot v at))
      (λ y. many (variant_given letters lengths) (length l) (seen ++ (y.value ∷ [])) y.next)
      ≡ after (demand (not (among x seen)) 8 v (once_in (suc v) (seen ++ (x ∷ [])) l))
      (behind (seen ++ (x ∷ l)) (at + length x + length (flatten l)))
  unfolding variant_given
  first-written x l seen v at n own s ih = rw (n, own, s) (step (among x seen))
    where
      step :
          (b : Bool) →
          after {A = Taken Variant Spot} (demand (not b) 8 v (ok (record { value = x; next = spot (v + 1) (at + length x) })))
          (λ y. many (variant_given letters lengths) (length l) (seen ++ (y.value ∷ [])) y.next)
          ≡ after (demand (not b) 8 v (once_in (suc v) (seen ++ (x ∷ [])) l)) (behind (seen ++ (x ∷ l)) (at + length x + length (flatten l)))
      step true = refl
      step false = ih ∙ rw (add-one, append_assoc seen (x ∷ []) l)

  variants-written :
      (l seen : Segment) (v at : ℕ) → all (every capital) l ≡ true → Standing v at l →
      many (variant_given letters lengths) (length l) seen (spot v at) ≡ after (once_in v seen l)
      (behind (seen ++ l) (at + length (flatten l)))
  unfolding many once_in flatten all
  variants-written [] seen v at f h = rw (append-nil, add-zero at)
  variants-written (x ∷ l) seen v at f h =
      let n : get_or lengths v 0 ≡ length x = rw add-zero at (stands_at lengths v (map length (x ∷ l)) h.listed 0 (omega arith)) in
      let own : part letters at (length x) ≡ x = stands-front letters at x (flatten l) h.spelt in
      let rest : Standing (v + 1) (at + length x) l = record {
        listed = stands-back lengths v (length x ∷ []) (map length l) h.listed;
        spelt = stands-back letters at x (flatten l) h.spelt;
      } in
      let q : at + length (x ++ flatten l) ≡ at + length x + length (flatten l) = omega (arith, length-append x (flatten l)) in
      let capitals = and_left (every capital x) (all (every capital) l) f in
      let more = and_right (every capital x) (all (every capital) l) f in
      rw q (first-written x l seen v at n own capitals (variants-written l (seen ++ (x ∷ [])) (v + 1) (at + length x) more rest))

  module _ (counts : List ℕ) where
    segment-written :
        (g : Segment) (j v at : ℕ) → formed_segment g ≡ true → get_or counts j 0 ≡ length g → Standing v at g →
        segment_given letters lengths counts j (spot v at) ≡ after (once_in v [] g) (behind g (at + length (flatten g)))
    unfolding segment_given
    segment-written g j v at f n h = rw (n, some-variants g f) (variants-written g [] v at (all-capitals g f) h)

    segments-written :
        (t seen : Text) (v at : ℕ) → all formed_segment t ≡ true → Stands counts (length seen) (map length t) → Standing v at (flatten t) →
        many (next-segment letters lengths counts) (length t) seen (spot v at)
        ≡ after (once v t) (behind_text (seen ++ t) (at + length (flatten (flatten t))))
    unfolding many once flatten all
    segments-written [] seen v at f c h = rw (append-nil, add-zero at)
    segments-written (g ∷ t) seen v at f c h =
        let n : get_or counts (length seen) 0 ≡ length g =
        rw add-zero at (stands_at counts (length seen) (map length (g ∷ t)) c 0 (omega arith)) in
        let first = and_left (formed_segment g) (all formed_segment t) f in
        let more = and_right (formed_segment g) (all formed_segment t) f in
        let c' : Stands counts (length (seen ++ (g ∷ []))) (map length t) =
        rw length-append (stands-back counts (length seen) (length g ∷ []) (map length t) c) in
        let at' : ℕ = at + length (flatten g) in
        let q : at + length (flatten (g ++ flatten t)) ≡ at' + length (flatten (flatten t)) =
        omega (arith, ap length (flatten-append g (flatten t)), length-append (flatten g) (flatten (flatten t))) in
        let here = segment-written g (length seen) v at first n (standing-front v at g (flatten t) h) in
        let rest = segments-written t (seen ++ (g ∷ [])) (v + length g) at' more c' (standing-back v at g (flatten t) h) in
        rw (q, here) (step (once_in v [] g) (once-count g v []) rest)
      where
        step :
            (o : Outcome ℕ) → ((k : ℕ) → o ≡ ok k → k ≡ v + length g) →
            many (next-segment letters lengths counts) (length t) (seen ++ (g ∷ [])) (spot (v + length g) (at + length (flatten g)))
            ≡ after (once (v + length g) t) (behind_text (seen ++ (g ∷ []) ++ t) (at + length (flatten g) + length (flatten (flatten t)))) →
            after (after o (behind g (at + length (flatten g))))
            (λ y. many (next-segment letters lengths counts) (length t) (seen ++ (y.value ∷ [])) y.next)
            ≡ after (after o λ k. once k t) (behind_text (seen ++ (g ∷ t)) (at + length (flatten g) + length (flatten (flatten t))))
        step (refused n p) m ih = refl
        step (ok k) m ih = rw (m k refl) (ih ∙ rw (append_assoc seen (g ∷ []) t))

-- so the segments of a text taken apart are asked for repetition alone
apart-walk :
    (t : Text) → all formed_segment t ≡ true →
    segments_given (letters_of t) (lengths_of t) (counts_of t) ≡ after (once 0 t) λ k. ok
    (record { value = t; next = spot k (length (letters_of t)) })
unfolding segments_given letters_of lengths_of counts_of
apart-walk t f =
    let letters : List ℕ = letters_of t in
    let lengths : List ℕ = lengths_of t in
    let counts : List ℕ = counts_of t in
    let h : Standing letters lengths 0 0 (flatten t) = record { listed = take-length lengths; spelt = take-length letters } in
    let walk = segments-written letters lengths counts t [] 0 0 f (take-length counts) h in
    let z : 0 + length (flatten (flatten t)) ≡ length (flatten (flatten t)) = omega arith in
    rw (length-map t length) (walk ∙ rw z)

-- a text of such segments, taken apart and written, has the answer of the text written whole
capitals-written :
    (t : Text) (room : ℕ) → all formed_segment t ≡ true → writing_capitals (letters_of t) (lengths_of t) (counts_of t) room ≡ putting t room
unfolding writing_capitals putting
capitals-written t room f =
    let a = apart t in
    rw (
      eq-eqb (sum (counts_of t)) (length (lengths_of t)) a.matching.listed,
      eq-eqb (sum (lengths_of t)) (length (letters_of t)) a.matching.spelt,
      a.size,
      apart-walk t f,
    )
    (ap (demand (leb (length (encode t)) greatest_stretch) 4 0) (told (once 0 t)))
  where
    told :
        (o : Outcome ℕ) →
        after (after {B = Taken Text Spot} o (λ k. ok (record { value = t; next = spot k (length (letters_of t)) })))
        (λ x. demand (leb (length (encode t)) room) 15 0 (ok x.value))
        ≡ after o (λ _. demand (leb (length (encode t)) room) 15 0 (ok t))
    told (ok k) = refl
    told (refused n p) = refl

-- no variant is there twice exactly where 8 is not given
distinct-once : (g : Segment) (k : ℕ) (seen : Segment) → distinct seen g ≡ true → once_in k seen g ≡ ok (k + length g)
unfolding distinct once_in
distinct-once [] k seen e = rw (add-zero k)
distinct-once (x ∷ g) k seen e =
    let first : not (among x seen) ≡ true = and_left (not (among x seen)) (distinct (seen ++ (x ∷ [])) g) e in
    let rest = distinct-once g (suc k) (seen ++ (x ∷ [])) (and_right (not (among x seen)) (distinct (seen ++ (x ∷ [])) g) e) in
    let n : suc k + length g ≡ k + suc (length g) = omega arith in
    rw first (rest ∙ ap ok n)

once-distinct : (g : Segment) (k : ℕ) (seen : Segment) (n : ℕ) → once_in k seen g ≡ ok n → distinct seen g ≡ true
unfolding distinct once_in
once-distinct [] k seen n e = refl
once-distinct (x ∷ g) k seen n e =
    let (a, h) = demand-met (not (among x seen)) 8 k (once_in (suc k) (seen ++ (x ∷ [])) g) n e in
    and_both (not (among x seen)) (distinct (seen ++ (x ∷ [])) g) a (once-distinct g (suc k) (seen ++ (x ∷ [])) n h)

-- so a text can be written exactly where it is formed and written whole without 4 and 8
pub writable-formed : (t : Text) → all writable_segment t ≡ true → all formed_segment t ≡ true
unfolding all writable_segment formed_segment
writable-formed [] w = refl
writable-formed (g ∷ t) w =
    and_both (formed_segment g) (all formed_segment t)
    (and_left (formed_segment g) (distinct [] g) (and_left (writable_segment g) (all writable_segment t) w))
    (writable-formed t (and_right (writable_segment g) (all writable_segment t) w))

writable-once : (t : Text) (k : ℕ) → all writable_segment t ≡ true → (n : ℕ) × (once k t ≡ ok n)
unfolding all once writable_segment formed_segment
writable-once [] k w = (k, refl)
writable-once (g ∷ t) k w =
    let first = and_right (formed_segment g) (distinct [] g) (and_left (writable_segment g) (all writable_segment t) w) in
    let (n, rest) = writable-once t (k + length g) (and_right (writable_segment g) (all writable_segment t) w) in
    (n, rw (distinct-once g k [] first) rest)

once-writable : (t : Text) (k n : ℕ) → all formed_segment t ≡ true → once k t ≡ ok n → all writable_segment t ≡ true
unfolding all once writable_segment formed_segment
once-writable [] k n f e = refl
once-writable (g ∷ t) k n f e =
    let (m, h, i) = after-met (once_in k [] g) (λ m. once m t) n e in
    and_both (writable_segment g) (all writable_segment t)
    (and_both (formed_segment g) (distinct [] g) (and_left (formed_segment g) (all formed_segment t) f) (once-distinct g k [] m h))
    (once-writable t m n (and_right (formed_segment g) (all formed_segment t) f) i)

-- a text that can be written, taken apart and written, is the same text
pub written-again :
    (t : Text) (room : ℕ) → writable t ≡ true → length (encode t) ≤ room → writing_capitals (letters_of t) (lengths_of t) (counts_of t) room
    ≡ ok t
unfolding putting writable
written-again t room w l =
    let segments = and_left (all writable_segment t) (leb (length (encode t)) greatest_stretch) w in
    let (n, once) = writable-once t 0 segments in
    capitals-written t room (writable-formed t segments)
    ∙ rw (and_right (all writable_segment t) (leb (length (encode t)) greatest_stretch) w, once, le-leb (length (encode t)) room l)

-- what is written whole is the text, and can be written
pub putting-writable : (t : Text) (room : ℕ) (u : Text) → all formed_segment t ≡ true → putting t room ≡ ok u → (u ≡ t) × (writable t ≡ true)
unfolding putting writable
putting-writable t room u f e =
    let (small, a) = demand-met (leb (length (encode t)) greatest_stretch) 4 0 _ u e in
    let (n, once, b) = after-met (once 0 t) (λ _. demand (leb (length (encode t)) room) 15 0 (ok t)) u a in
    let (fits, c) = demand-met (leb (length (encode t)) room) 15 0 (ok t) u b in
    (sym (ok-inj c), and_both (all writable_segment t) (leb (length (encode t)) greatest_stretch) (once-writable t 0 n f once) small)

-- raised letters are those of the raised text, in as many variants and segments
flatten-map : {A B : Type 0} (f : A → B) (l : List (List A)) → flatten (map (map f) l) ≡ map f (flatten l)
unfolding flatten
flatten-map f [] = refl
flatten-map f (a ∷ l) = rw (flatten-map f l) (sym (map-append f a (flatten l)))

lengths-raised : (g : Segment) → map length (map meant g) ≡ map length g
lengths-raised [] = refl
lengths-raised (v ∷ g) = ap₂ ◌∷◌ (meant-length v) (lengths-raised g)

pub letters-of-raised : (T : Text) → letters_of (raised_text T) ≡ meant (letters_of T)
unfolding letters_of raised_text
letters-of-raised T = ap flatten (flatten-map meant T) ∙ flatten-map raised (flatten T)

pub lengths-of-raised : (T : Text) → lengths_of (raised_text T) ≡ lengths_of T
unfolding lengths_of raised_text
lengths-of-raised T = ap (map length) (flatten-map meant T) ∙ lengths-raised (flatten T)

pub counts-of-raised : (T : Text) → counts_of (raised_text T) ≡ counts_of T
unfolding counts_of raised_text
counts-of-raised [] = refl
counts-of-raised (g ∷ T) = ap₂ ◌∷◌ (length-map g meant) (counts-of-raised T)

-- a text in upper case is its own raised text, so that a write of its letters has the answer of the text written whole
capitals-raised : (g : Segment) → all (every capital) g ≡ true → map meant g ≡ g
unfolding all
capitals-raised [] e = refl
capitals-raised (v ∷ g) e =
    ap₂ ◌∷◌ (capitals-meant v (and_left (every capital v) (all (every capital) g) e))
    (capitals-raised g (and_right (every capital v) (all (every capital) g) e))

formed-raised : (t : Text) → all formed_segment t ≡ true → raised_text t ≡ t
unfolding all raised_text
formed-raised [] f = refl
formed-raised (g ∷ t) f =
    ap₂ ◌∷◌ (capitals-raised g (all-capitals g (and_left (formed_segment g) (all formed_segment t) f)))
    (formed-raised t (and_right (formed_segment g) (all formed_segment t) f))

pub as_written : (t : Text) (room : ℕ) → all formed_segment t ≡ true → writing (letters_of t) (lengths_of t) (counts_of t) room ≡ putting t room
as_written t room f =
    let own : meant (letters_of t) ≡ letters_of t = sym (letters-of-raised t) ∙ ap letters_of (formed-raised t f) in
    rw own (capitals-written t room f)

-- so a text whose raised form can be written is written as that
pub written-raised :
    (T : Text) (room : ℕ) → writable (raised_text T) ≡ true → length (encode (raised_text T)) ≤ room →
    writing (letters_of T) (lengths_of T) (counts_of T) room ≡ ok (raised_text T)
written-raised T room w l =
    rw (letters-of-raised T, lengths-of-raised T, counts-of-raised T) at (written-again (raised_text T) room w l)
