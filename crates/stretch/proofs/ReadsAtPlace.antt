-- Reading from a place, case by case: what a sound stretch answers, by its text and by the bytes.
use Prim.Native.Nat.{ℕ, ◌+◌, ◌-◌, ◌≤◌, ◌<◌}
use native.Mathlib.Numerals.{add-one}
use native.Mathlib.Omega.{arith}
use mathlib.Core.Path.{◌≡◌, refl, sym, ap, ◌∙◌}
use mathlib.Core.Logic.{◌⊎◌, inl, inr, ⊎_elim, by_cases}
use native.Mathlib.Decide.{dec_lt}
use mathlib.Core.List.{List, []}
use borrow.Author.Tests.{lt-ltb, le-ltb}
use lib.ListN.{length, get_or, take, drop, get_or-eq_default}
use Rattle.text.specs.Text.{Text, segment, size as text_size}
use Rattle.text.specs.Refusal.{Outcome, ok, refused}
use Rattle.text.proofs.Outcomes.{refused-ok, told-met, told-refused}
use Rattle.layout.specs.Bytes.{part}
use Rattle.layout.specs.Pieces.{next_of}
use Rattle.layout.specs.Reading.{stretch_of}
use Rattle.layout.specs.Skips.{behind_variants, behind_segment, segment_place}
use Rattle.stretch.specs.Places.{start_of, variant, found, end, Reading, handed, read_from, read_in, reading, part_of}
use Rattle.stretch.specs.Answers.{Accepted, checking, handed_at}
use Rattle.stretch.specs.declared.checking.Sum.{Sum}
use Rattle.layout.proofs.Decoding.{StretchRead, stretch-read}
use Rattle.layout.proofs.Skips.{stepped-last}
use Rattle.stretch.proofs.TextPlaces.{segment-there, variant-inside, letters-inside, handed-there}

-- the end, with the place unchanged
abbrev pub ended : ℕ → ℕ → Reading
ended j v = record { answer = ok end; segment = j; variant = v }

-- a segment that has a variant is one of the text
pub some-segment : (T : Text) (j v : ℕ) → v < length (segment T j) → j < length T
some-segment T j v l =
    by_cases (dec_lt j (length T)) (λ (k : j < length T). k)
    (λ (k : ¬ (j < length T)).
    let none : length (segment T j) ≡ 0 = ap length (get_or-eq_default T [] {n = j} (omega arith)) in
    omega arith)

-- the three cases of a text
module _ (T : Text) (j v : ℕ) where
  pub read_here : v < length (segment T j) → read_from T j v ≡ handed T j v
  unfolding read_from
  read_here l = rw (lt-ltb v (length (segment T j)) l)

  pub read_next : length (segment T j) ≤ v → j + 1 < length T → read_from T j v ≡ handed T (j + 1) 0
  unfolding read_from
  read_next l h = rw (le-ltb v (length (segment T j)) l, lt-ltb (j + 1) (length T) h)

  pub read-end : length (segment T j) ≤ v → length T ≤ j + 1 → read_from T j v ≡ ended j v
  unfolding read_from
  read-end l h = rw (le-ltb v (length (segment T j)) l, le-ltb (j + 1) (length T) h)

-- reading an accepted stretch is reading its text
pub read-text : (s : List ℕ) (T : Text) → stretch_of s ≡ ok T → (j v : ℕ) → reading s j v ≡ read_from T j v
unfolding reading
read-text s T e j v = ap (λ (o : Outcome Text). read_in o j v) e

-- what the check says: the text is there, or the stretch is refused
pub check-accepted : (s : List ℕ) (segments size : ℕ) → ok (record { segments = segments; size = size }) ≡ checking s → Accepted s segments
unfolding checking
check-accepted s segments size e =
    let m =
    told-met (stretch_of s) (λ t. record { segments = length t; size = text_size t }) (record { segments = segments; size = size })
    (sym e) in
    record { text = m.0; means = m.1; count = sym (ap (λ (x : Sum). x.segments) m.2) }

pub read-refused :
    (s : List ℕ) (n p j v : ℕ) → refused n p ≡ checking s → record { answer = refused n p; segment = j; variant = v } ≡ reading s j v
unfolding checking reading
read-refused s n p j v e =
    let o : stretch_of s ≡ refused n p = told-refused (stretch_of s) (λ t. record { segments = length t; size = text_size t }) n p (sym e) in
    rw o

module _ (s : List ℕ) (segments : ℕ) (w : Accepted s segments) where
  pub read_behind : (j v : ℕ) → segments ≤ j → ended j v ≡ reading s j v
  read_behind j v l =
      let out : length w.text ≤ j = omega (arith, w.count) in
      let none : length (segment w.text j) ≤ v = rw (get_or-eq_default w.text [] out) (omega arith) in
      sym (read-text s w.text w.means j v ∙ read-end w.text j v none (omega (arith, w.count)))

  whole : StretchRead s w.text
  whole = stretch-read s w.text w.means

  pub place_inside : (j : ℕ) → j < segments → segment_place s j < length s
  place_inside j l = (segment-there s w.text whole j (omega (arith, w.count))).inside

-- segment j of a sound stretch stands at `at` and has n variants
pub record Standing (s : List ℕ) (segments j at n : ℕ) : Type 0 where
  pub whole : Accepted s segments
  pub known : j < segments
  pub place : at ≡ segment_place s j
  pub count : n ≡ get_or s at 0

module _ (s : List ℕ) (segments j at n : ℕ) (h : Standing s segments j at n) where
  T : Text
  T = h.whole.text

  known : j < length T
  unfolding T
  known = omega (arith, h.whole.count, h.known)

  r : StretchRead s T
  unfolding T
  r = whole s segments h.whole

  read-it : (v : ℕ) → reading s j v ≡ read_from T j v
  unfolding T
  read-it = read-text s T h.whole.means j

  variants : n ≡ length (segment T j)
  variants = h.count ∙ ap (λ (p : ℕ). get_or s p 0) h.place ∙ (segment-there s T r j known).count

  module _ (v : ℕ) (l : v < n) where
    has : v < length (segment T j)
    has = omega (arith, variants)

    pub here-inside : next_of s (behind_variants s v (at + 1)) ≤ length s
    here-inside = rw h.place (variant-inside s T r j known v has)

    pub here-handed : handed_at s at j v ≡ reading s j v
    here-handed = ap (λ (p : ℕ). handed_at s p j v) h.place ∙ handed-there s T r j known v has ∙ sym (read-it v ∙ read_here T j v has)

  pub last-ended : j + 1 ≡ segments → (v : ℕ) → n ≤ v → ended j v ≡ reading s j v
  unfolding T
  last-ended k v l = sym (read-it v ∙ read-end T j v (omega (arith, variants)) (omega (arith, h.whole.count)))

  -- the segment after it, where there is one
  module _ (more : j + 1 ≡ segments → ⊥) where
    follows : j + 1 < length T
    unfolding T
    follows = omega (arith, h.whole.count, h.known)

    first : 0 < length (segment T (j + 1))
    first = (segment-there s T r (j + 1) follows).some

    next_place : behind_variants s n (at + 1) ≡ segment_place s (j + 1)
    next_place = rw (h.count, h.place, add-one j) (sym (stepped-last (behind_segment s) j 2))

    pub next-inside : behind_variants s n (at + 1) < length s
    next-inside = rw next_place (segment-there s T r (j + 1) follows).inside

    module _ (next : ℕ) (b : next ≡ behind_variants s n (at + 1)) where
      pub first-inside : next_of s (behind_variants s 0 (next + 1)) ≤ length s
      first-inside = rw (b, next_place) (variant-inside s T r (j + 1) follows 0 first)

      pub next-handed : (v : ℕ) → n ≤ v → handed_at s next (j + 1) 0 ≡ reading s j v
      next-handed v l =
          ap (λ (p : ℕ). handed_at s p (j + 1) 0) (b ∙ next_place) ∙ handed-there s T r (j + 1) follows 0 first
          ∙ sym (read-it v ∙ read_next T j v (omega (arith, variants)) follows)

-- a read that hands out a variant of the text
record Hands (T : Text) (x : Reading) : Type 0 where
  j : ℕ
  v : ℕ
  known : j < length T
  has : v < length (segment T j)
  is : x ≡ handed T j v

-- a text whose segments have variants hands one out or is at its end
hands-or-ends :
    (T : Text) → ((j : ℕ) → j < length T → 0 < length (segment T j)) → (j v : ℕ) →
    Hands T (read_from T j v) ⊎ (read_from T j v ≡ ended j v)
hands-or-ends T filled j v =
    by_cases (dec_lt v (length (segment T j)))
    (λ (l : v < length (segment T j)). inl (record { j = j; v = v; known = some-segment T j v l; has = l; is = read_here T j v l }))
    (λ (l : ¬ (v < length (segment T j))).
    by_cases (dec_lt (j + 1) (length T))
    (λ (k : j + 1 < length T). inl (record { j = j + 1; v = 0; known = k; has = filled (j + 1) k; is = read_next T j v (omega arith) k }))
    (λ (k : ¬ (j + 1 < length T)). inr (read-end T j v (omega arith) (omega arith))))

-- letters that are found stand in the bytes
pub found_inside :
    (s : List ℕ) (j v start len a b : ℕ) → record { answer = ok (found start len); segment = a; variant = b } ≡ reading s j v →
    start + len ≤ length s
unfolding reading
found_inside s j v start len a b e = go (stretch_of s) refl (ap (λ (x : Reading). x.answer) e)
  where
    go : (o : Outcome Text) → stretch_of s ≡ o → ok (found start len) ≡ (read_in o j v).answer → start + len ≤ length s
    go (refused n p) m e = absurd (refused-ok n p (found start len) (sym e))
    go (ok T) m e =
        let r : StretchRead s T = stretch-read s T m in
        ⊎_elim
        (λ (h : Hands T (read_from T j v)).
        let p : ok (found start len) ≡ ok (found (start_of T h.j h.v) (length (variant T h.j h.v))) =
        e ∙ ap (λ (x : Reading). x.answer) h.is in
        let x : start ≡ start_of T h.j h.v = cc in
        let y : len ≡ length (variant T h.j h.v) = cc in
        omega (arith, letters-inside s T r h.j h.known h.v h.has))
        (λ (h : read_from T j v ≡ ended j v).
        let p : ok (found start len) ≡ ok end = e ∙ ap (λ (x : Reading). x.answer) h in
        absurd (let z : ◌≡◌ {A = ℕ} 0 1 = cc in let y : ⊥ = omega arith in y))
        (hands-or-ends T (λ i k. (segment-there s T r i k).some) j v)

-- the letters that go with an answer
pub part-told : (s : List ℕ) (j v : ℕ) (x : Reading) → x ≡ reading s j v → part_of s x.answer ≡ part_of s (reading s j v).answer
part-told s j v x e = ap (λ (y : Reading). part_of s y.answer) e

-- where letters were found, as the part from their start to their end
pub part-found :
    (s : List ℕ) (j v start len a b : ℕ) → record { answer = ok (found start len); segment = a; variant = b } ≡ reading s j v →
    take (start + len - start) (drop start s) ≡ part_of s (reading s j v).answer
part-found s j v start len a b e =
    let n : start + len - start ≡ len = omega arith in
    ap (part s start) n ∙ part-told s j v (record { answer = ok (found start len); segment = a; variant = b }) e
