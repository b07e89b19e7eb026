-- Reading on in an accepted stretch: from the first place the calls hand out every variant of the text, in text order, each with its
-- segment's number, and then the end. So the segments that are read are those of the text.
use Prim.Native.Nat.{ℕ, ◌+◌, ◌≤◌, ◌<◌}
use native.Mathlib.Nat.{add-zero}
use native.Mathlib.Omega.{arith}
use mathlib.Core.Path.{◌≡◌, refl, sym, ap, ap₂, subst₂, ◌∙◌}
use mathlib.Core.Bool.{true}
use mathlib.Core.List.{List, [], ◌∷◌, ◌++◌, map}
use borrow.Author.Tests.{eq-eqb, ne_eqb, ltb-true}
use lib.ListN.{length, get_or, drop, length-append, length-drop, length-map, get_or-map, get_or-eq_default}
use lib.Seq.{drop-drop, get_or-drop}
use Rattle.text.specs.Letter.{meant}
use Rattle.text.specs.Text.{Variant, Segment, Text, segment}
use Rattle.text.specs.Refusal.{Outcome, ok, refused}
use Rattle.text.proofs.Truth.{and_left, and_right}
use Rattle.text.proofs.Outcomes.{refused-ok}
use Rattle.layout.specs.Reading.{stretch_of}
use Rattle.layout.specs.Bytes.{word}
use Rattle.layout.specs.Encoding.{raised_text, all}
use Rattle.layout.specs.Skips.{segment_place}
use Rattle.layout.specs.Standing.{standing}
use Rattle.stretch.specs.Places.{variant, start_of, Found, found, end, Reading, reading, read_in, part_of}
use Rattle.stretch.specs.Answers.{told_got}
use Rattle.stretch.specs.Onward.{Handed, HandsOut, ReadOn, gathered, ReadsAs}
use Rattle.stretch.specs.declared.reading.Got.{Got}
use Rattle.stretch.specs.declared.reading.Got.TheVariants.{End}
use Rattle.layout.proofs.Lengths.{filled}
use Rattle.layout.proofs.Decoding.{stretch-read, stretch-filled, stretch-means}
use Rattle.layout.proofs.Standing.{letters-at, segments-at, filled-raised}
use Rattle.stretch.proofs.TextPlaces.{segment-there, part-there}
use Rattle.stretch.proofs.ReadsAtPlace.{read-text, some-segment, read_here, read_next, read-end}

-- the variants of a segment, and of all segments from number j on, with their numbers
abbrev tag : ℕ → Variant → Handed
tag j v = record { segment = j; letters = v }

unfoldable tagged : ℕ → Text → List Handed
tagged j [] = []
tagged j (g ∷ t) = map (tag j) g ++ tagged (j + 1) t

-- the first of these belongs to another segment than j
abbrev Apart : ℕ → List Handed → Type 0
Apart j [] = Unit {0}
Apart j (h ∷ l) = j ≡ h.segment → ⊥

-- what stands at a place of a list, and what stands after it
drop-next :
    {A : Type 0} (l : List A) (k : ℕ) (none a : A) (rest : List A) → drop k l ≡ a ∷ rest →
    (get_or l k none ≡ a) × (drop (k + 1) l ≡ rest)
drop-next {A = A} l k none a rest d = (
  ap (λ (i : ℕ). get_or l i none) (sym (add-zero k)) ∙ sym (get_or-drop k l 0 none) ∙ ap (λ (r : List A). get_or r 0 none) d,
  sym (drop-drop 1 k l) ∙ ap (drop 1) d,
)

-- the answer at a place tells what is handed out there, so reading on has one course
module _ (s : List ℕ) (j v : ℕ) (h i : Handed) (x : HandsOut s j v h) (y : HandsOut s j v i) where
  told : told_got (Got.Variant x.start x.len h.segment x.next) ≡ told_got (Got.Variant y.start y.len i.segment y.next)
  told = x.read ∙ sym y.read

  same-handed : h ≡ i
  same-handed =
      let number : h.segment ≡ i.segment = ap (λ (r : Reading). r.segment) told in
      let letters : h.letters ≡ i.letters = x.letters ∙ sym y.letters in
      λ k. record { segment = number k; letters = letters k }

  same_next : x.next ≡ y.next
  same_next = ap (λ (r : Reading). r.variant) told

read-once : (s : List ℕ) (j v : ℕ) (l m : List Handed) → ReadOn s j v l → ReadOn s j v m → l ≡ m
unfolding ReadOn
read-once s j v [] [] r q = refl
read-once s j v [] (i ∷ m) r q =
    let e : (told_got (End j v)).answer ≡ (told_got (Got.Variant q.0.start q.0.len i.segment q.0.next)).answer =
    ap (λ (x : Reading). x.answer) (r ∙ sym q.0.read) in
    absurd (let z : ◌≡◌ {A = ℕ} 0 1 = cc in let y : ⊥ = omega arith in y)
read-once s j v (h ∷ l) [] r q =
    let e : (told_got (End j v)).answer ≡ (told_got (Got.Variant r.0.start r.0.len h.segment r.0.next)).answer =
    ap (λ (x : Reading). x.answer) (q ∙ sym r.0.read) in
    absurd (let z : ◌≡◌ {A = ℕ} 0 1 = cc in let y : ⊥ = omega arith in y)
read-once s j v (h ∷ l) (i ∷ m) r q =
    let same : h ≡ i = same-handed s j v h i r.0 q.0 in
    let rest : ReadOn s h.segment r.0.next m =
    subst₂ (λ (a b : ℕ). ReadOn s a b m) (ap (λ (x : Handed). x.segment) (sym same)) (sym (same_next s j v h i r.0 q.0)) q.1 in
    ap₂ ◌∷◌ same (read-once s h.segment r.0.next l m r.1 rest)

-- an answer that is no refusal is that of an accepted stretch; so what is read on to the end was accepted
answer-accepted :
    (s : List ℕ) (j v : ℕ) (f : Found) (a b : ℕ) → record { answer = ok f; segment = a; variant = b } ≡ reading s j v →
    (t : Text) × (stretch_of s ≡ ok t)
unfolding reading
answer-accepted s j v f a b r = go (stretch_of s) refl (ap (λ (x : Reading). x.answer) r)
  where
    go : (o : Outcome Text) → stretch_of s ≡ o → ok f ≡ (read_in o j v).answer → (t : Text) × (stretch_of s ≡ ok t)
    go (ok t) e q = (t, e)
    go (refused n p) e q = absurd (refused-ok n p f (sym q))

pub read-accepted : (s : List ℕ) (l : List Handed) → ReadOn s 0 0 l → (t : Text) × (stretch_of s ≡ ok t)
unfolding ReadOn
read-accepted s [] r = answer-accepted s 0 0 end 0 0 r
read-accepted s (h ∷ l) r = let x = r.0 in answer-accepted s 0 0 (found x.start x.len) h.segment x.next x.read

module _ (s : List ℕ) (t : Text) (e : stretch_of s ≡ ok t) where
  -- the text as it stands: as many segments, each of as many variants
  abbrev T : Text
  T = standing s

  segments-same : length T ≡ length t
  unfolding raised_text
  segments-same = sym (length-map T (map meant)) ∙ ap length (stretch-means s t e)

  segment-same : (j : ℕ) → segment t j ≡ map meant (segment T j)
  unfolding raised_text
  segment-same j = ap (λ (u : Text). get_or u j []) (sym (stretch-means s t e)) ∙ get_or-map (map meant) T j []

  variants-same : (j : ℕ) → length (segment T j) ≡ length (segment t j)
  variants-same j = sym (length-map (segment T j) meant) ∙ ap length (sym (segment-same j))

  -- the letters at a place that has a variant, as they stand
  pub read_letters : (j v : ℕ) → v < length (segment T j) → part_of s (reading s j v).answer ≡ variant T j v
  unfolding standing
  read_letters j v l =
      let h : v < length (segment t j) = rw (← variants-same j) l in
      let some = some-segment t j v h in
      let r = stretch-read s t e in
      let there = segment-there s t r j some in
      let few : j < word s 0 = rw r.count some in
      let inside : v < get_or s (segment_place s j) 0 = rw there.count h in
      rw (read-text s t e j v, read_here t j v h, segments-at s (word s 0) 2 j few, letters-at s _ (segment_place s j + 1) v inside)
      (part-there s t r j some v h)

  -- the end
  ended : (j v : ℕ) → length (segment T j) ≤ v → length T ≤ j + 1 → ReadOn s j v []
  unfolding ReadOn
  ended j v none few =
      sym (read-text s t e j v ∙ read-end t j v (omega (arith, none, variants-same j)) (omega (arith, few, segments-same)))

  -- one call there
  read_one : (j v : ℕ) (a : Variant) → v < length (segment T j) → variant T j v ≡ a → HandsOut s j v (tag j a)
  read_one j v a l is = record {
    start = start_of t j v;
    len = length (variant t j v);
    next = v + 1;
    read = sym (read-text s t e j v ∙ read_here t j v (rw (← variants-same j) l));
    letters = sym (read_letters j v l ∙ is);
  }

  -- the rest of a segment, from variant v on, and what is read after it
  read-segment :
      (j : ℕ) (g : Segment) (v : ℕ) (rest : List Handed) → v ≤ length (segment T j) → drop v (segment T j) ≡ g →
      ReadOn s j (length (segment T j)) rest → ReadOn s j v (map (tag j) g ++ rest)
  unfolding ReadOn read_one
  read-segment j [] v rest h d r =
      let n : length (segment T j) ≡ v = omega (arith, rw length-drop at (ap length d)) in
      rw n at r
  read-segment j (a ∷ g) v rest h d r =
      let m : v < length (segment T j) = omega (arith, rw length-drop at (ap length d)) in
      let n = drop-next (segment T j) v [] a g d in
      (read_one j v a m n.0, read-segment j g (v + 1) rest (omega arith) n.1 r)

  -- after a segment's last variant stands the next segment's first
  read-across : (j : ℕ) (l : List Handed) → j + 1 < length T → 0 < length l → ReadOn s (j + 1) 0 l → ReadOn s j (length (segment T j)) l
  unfolding ReadOn
  read-across j [] more some r = absurd (let z : ⊥ = omega arith in z)
  read-across j (h ∷ l) more some r =
      let more' : j + 1 < length t = omega (arith, more, segments-same) in
      let last : length (segment t j) ≤ length (segment T j) = omega (arith, variants-same j) in
      let first : 0 < length (segment t (j + 1)) = (segment-there s t (stretch-read s t e) (j + 1) more').some in
      let same : reading s (j + 1) 0 ≡ reading s j (length (segment T j)) =
      read-text s t e (j + 1) 0 ∙ read_here t (j + 1) 0 first
      ∙ sym (read-text s t e j (length (segment T j)) ∙ read_next t j (length (segment T j)) last more') in
      let x = r.0 in (
        record {
          start = x.start;
          len = x.len;
          next = x.next;
          read = x.read ∙ same;
          letters = x.letters ∙ ap (λ (y : Reading). part_of s y.answer) same;
        },
        r.1,
      )

  -- the text from segment j on
  read-rest : (us : Text) (j : ℕ) → drop j T ≡ us → ReadOn s j 0 (tagged j us)
  unfolding tagged
  read-rest [] j d =
      let few : length T ≤ j = omega (arith, rw length-drop at (ap length d)) in
      let none : length (segment T j) ≤ 0 = rw (get_or-eq_default T [] {n = j} few) (omega arith) in
      ended j 0 none (omega arith)
  read-rest (g ∷ []) j d =
      let n = drop-next T j [] g [] d in
      let few : length T ≤ j + 1 = omega (arith, rw length-drop at (ap length n.1)) in
      read-segment j g 0 [] (omega arith) n.0 (ended j (length (segment T j)) (omega arith) few)
  read-rest (g ∷ (h ∷ us)) j d =
      let n = drop-next T j [] g (h ∷ us) d in
      let m = drop-next T (j + 1) [] h us n.1 in
      let more : j + 1 < length T = omega (arith, rw length-drop at (ap length n.1)) in
      let more' : j + 1 < length t = omega (arith, more, segments-same) in
      let some : 0 < length h =
      omega (arith, (segment-there s t (stretch-read s t e) (j + 1) more').some, variants-same (j + 1), ap length m.0) in
      let rest : List Handed = tagged (j + 1) (h ∷ us) in
      let long : 0 < length rest = omega (arith, length-append (map (tag (j + 1)) h) (tagged (j + 1 + 1) us), length-map h (tag (j + 1))) in
      read-segment j g 0 rest (omega arith) n.0 (read-across j rest more long (read-rest (h ∷ us) (j + 1) n.1))

-- gathering the variants by their numbers gives the segments back
gathered-segment :
    (j : ℕ) (v : Variant) (g : Segment) (rest : List Handed) → Apart j rest →
    gathered (map (tag j) (v ∷ g) ++ rest) ≡ (v ∷ g) ∷ gathered rest
unfolding gathered
gathered-segment j v [] [] a = refl
gathered-segment j v [] (i ∷ rest) a = rw (ne_eqb j i.segment a)
gathered-segment j v (w ∷ g) rest a = rw (eq-eqb j j refl, gathered-segment j w g rest a)

gathered-text : (t : Text) (j : ℕ) → all filled t ≡ true → gathered (tagged j t) ≡ t
unfolding tagged gathered all
gathered-text [] j f = refl
gathered-text ([] ∷ t) j f =
    absurd (let l : 0 < 0 = ltb-true 0 0 (and_left (filled []) (all filled t) f) in let z : ⊥ = omega arith in z)
gathered-text ((v ∷ g) ∷ t) j f =
    let rest = and_right (filled (v ∷ g)) (all filled t) f in
    gathered-segment j v g (tagged (j + 1) t) (apart t rest) ∙ ap (λ (u : Text). (v ∷ g) ∷ u) (gathered-text t (j + 1) rest)
  where
    apart : (u : Text) → all filled u ≡ true → Apart j (tagged (j + 1) u)
    apart [] f = tt
    apart ([] ∷ u) f = absurd (let l : 0 < 0 = ltb-true 0 0 (and_left (filled []) (all filled u) f) in let z : ⊥ = omega arith in z)
    apart ((w ∷ h) ∷ u) f = λ e. let z : ⊥ = omega arith in z

-- the segments that stand there have variants
filled-standing : (s : List ℕ) (t : Text) → all filled t ≡ true → raised_text (standing s) ≡ t → all filled (standing s) ≡ true
unfolding raised_text
filled-standing s t f e = filled-raised (standing s) ∙ ap (all filled) e ∙ f

-- an accepted stretch is read on as its text stands
pub reads_as : (s : List ℕ) (t : Text) → stretch_of s ≡ ok t → ReadsAs s (standing s)
reads_as s t e =
    let read = read-rest s t e (standing s) 0 refl in
    record {
      all = tagged 0 (standing s);
      read = read;
      once = λ l r. read-once s 0 0 l (tagged 0 (standing s)) r read;
      is = gathered-text (standing s) 0 (filled-standing s t (stretch-filled s t (stretch-read s t e)) (stretch-means s t e));
    }
