-- The first hit is told by the bytes up to the end of its segment: a stretch that begins with the same bytes has the same first hit,
-- whatever stands after them.
use Prim.Native.Nat.{ℕ, zero, suc, ◌+◌, ◌-◌, ◌*◌, ◌≤◌, ◌<◌}
use native.Mathlib.Nat.{le_refl}
use native.Mathlib.Omega.{arith}
use mathlib.Core.Path.{◌≡◌, refl, sym, ap, ap₂, ◌∙◌}
use mathlib.Core.Bool.{Bool, true, false, cond}
use mathlib.Core.List.{List, [], ◌∷◌, ◌++◌}
use borrow.Author.Tests.{ltb-true}
use lib.Dec.{ltb}
use lib.ListN.{length, get_or, take, drop, length-take, length-drop}
use lib.Seq.{ext_get_or, get_or-take, get_or-drop, length-take-le}
use Rattle.text.specs.Text.{Variant, Segment, Text, weight, total}
use Rattle.text.specs.State.{run, marks_from}
use Rattle.text.specs.Card.{none, later, first_end}
use Rattle.text.specs.Refusal.{Outcome, ok, refused, after}
use Rattle.text.specs.Strand.{on_strand}
use Rattle.text.specs.declared.strand.Strand.{Strand}
use Rattle.text.proofs.Outcomes.{ok-inj, after-met}
use Rattle.text.proofs.Ends.{first_end-within}
use Rattle.text.proofs.Marks.{marks-length}
use Rattle.layout.specs.Bytes.{greatest_stretch, word, part}
use Rattle.layout.specs.Pieces.{open_at, letters_at, next_of}
use Rattle.layout.specs.Reading.{Taken, value_of, formed, variant_at, many, segment_at, stretch_of}
use Rattle.layout.proofs.Walks.{many-steps}
use Rattle.layout.proofs.Heads.{head-found}
use Rattle.layout.proofs.Frames.{Opens, open-met, open-counts, variants-some, segment-met}
use Rattle.layout.proofs.Units.{variant-read}
use Rattle.layout.proofs.Segments.{variant-steps}
use Rattle.layout.proofs.Stretches.{segment-steps, segment-bytes}
use Rattle.search.specs.Answers.{entering}
use Rattle.search.specs.First.{ends_in, clear, whole, whole_of, first_in, hitting, first_from, firsting}
use Rattle.search.proofs.Entries.{Entered, entering-after, entered, entering-sound}
use Rattle.search.proofs.Stops.{first-is, first-here, whole-few, whole-short}
use Rattle.search.proofs.Hits.{hit-ends}
use Rattle.search.proofs.FirstHits.{ends-clear}

-- a variant and a segment end after they begin
variant-onward : (s : List ℕ) (seen : Segment) (at : ℕ) (x : Taken Variant ℕ) → variant_at s seen at ≡ ok x → at ≤ x.next
variant-onward s seen at x e = omega (arith, (variant-steps s seen at x e).counts)

segment-onward : (s : List ℕ) (at : ℕ) (x : Taken Segment ℕ) → segment_at s at ≡ ok x → at ≤ x.next
segment-onward s at x e = omega (arith, segment-bytes s at x e)

-- things that f reads one after another, none before the place where it reads
module _ {A : Type 0} (f : List A → ℕ → Outcome (Taken A ℕ))
    (onward : (seen : List A) (at : ℕ) (x : Taken A ℕ) → f seen at ≡ ok x → at ≤ x.next) where
  many-onward : (n : ℕ) (seen : List A) (at : ℕ) (x : Taken (List A) ℕ) → many f n seen at ≡ ok x → at ≤ x.next
  unfolding many
  many-onward zero seen at x e = let same : at ≡ x.next = ap (λ (y : Taken (List A) ℕ). y.next) (ok-inj e) in omega arith
  many-onward (suc n) seen at x e =
      let t = after-met (f seen at) (λ y. many f n (seen ++ (y.value ∷ [])) y.next) x e in
      omega (arith, onward seen at t.0 t.1, many-onward n (seen ++ (t.0.value ∷ [])) t.0.next x t.2)

  -- g reads what f reads up to `end`
  module _ (g : List A → ℕ → Outcome (Taken A ℕ)) (end : ℕ)
      (alike : (seen : List A) (at : ℕ) (x : Taken A ℕ) → f seen at ≡ ok x → x.next ≤ end → g seen at ≡ ok x) where
    many-alike : (n : ℕ) (seen : List A) (at : ℕ) (x : Taken (List A) ℕ) → many f n seen at ≡ ok x → x.next ≤ end
        → many g n seen at ≡ ok x
    unfolding many
    many-alike zero seen at x e l = e
    many-alike (suc n) seen at x e l =
        let t = after-met (f seen at) (λ y. many f n (seen ++ (y.value ∷ [])) y.next) x e in
        let near : t.0.next ≤ end = omega (arith, many-onward n (seen ++ (t.0.value ∷ [])) t.0.next x t.2) in
        rw (alike seen at t.0 t.1 near) (many-alike n (seen ++ (t.0.value ∷ [])) t.0.next x t.2 l)

-- so do several segments
segments-onward : (s : List ℕ) (n from : ℕ) (x : Taken Text ℕ) → many (λ _. segment_at s) n [] from ≡ ok x → from ≤ x.next
segments-onward s n from x e = many-onward (λ _. segment_at s) (λ _. segment-onward s) n [] from x e

-- and they end inside the bytes
segments-inside : (s : List ℕ) (n from : ℕ) (x : Taken Text ℕ) → from ≤ length s → many (λ _. segment_at s) n [] from ≡ ok x
    → x.next ≤ length s
segments-inside s n from x l e = (many-steps (λ _. segment_at s) (total weight) (length s) (segment-steps s) n [] from x l e).1

-- s and z begin with the same bytes, up to `end`
module _ (s z : List ℕ) (end : ℕ) (same : take end z ≡ take end s) (inside : end ≤ length s) where
  within : end ≤ length z
  within = omega (arith, length-take-le end s inside, simp length-take at (ap length same))

  byte-alike : (i : ℕ) → i < end → get_or z i 0 ≡ get_or s i 0
  byte-alike i l = sym (get_or-take end z i 0 l) ∙ ap (λ (x : List ℕ). get_or x i 0) same ∙ get_or-take end s i 0 l

  word-alike : (at : ℕ) → at + 2 ≤ end → word z at ≡ word s at
  unfolding word
  word-alike at l =
      ap₂ (λ (a b : ℕ). a + b * 256) (byte-alike at (omega arith)) (byte-alike (at + 1) (omega arith))

  part-alike : (at n : ℕ) → at + n ≤ end → part z at n ≡ part s at n
  part-alike at n l =
      let own : length (part s at n) ≡ n = simp (length-take, length-drop) (omega (arith, inside)) in
      let other : length (part z at n) ≡ n = simp (length-take, length-drop) (omega (arith, within)) in
      ext_get_or 0 (part z at n) (part s at n) (other ∙ sym own)
      (λ i small.
      let low : i < n = omega (arith, small, other) in
      get_or-take n (drop at z) i 0 low ∙ get_or-drop at z i 0 ∙ byte-alike (at + i) (omega (arith, low))
      ∙ sym (get_or-take n (drop at s) i 0 low ∙ get_or-drop at s i 0))

  variant-alike : (seen : Segment) (at : ℕ) (x : Taken Variant ℕ) → variant_at s seen at ≡ ok x → x.next ≤ end
      → variant_at z seen at ≡ ok x
  unfolding variant_at formed value_of
  variant-alike seen at x e l =
      let r = variant-read s seen at x e in
      let next : x.next ≡ next_of s at = ap (λ (y : Taken Variant ℕ). y.next) r.is in
      let long : word z at ≡ word s at = word-alike at (omega (arith, next)) in
      let letters : letters_at z at ≡ letters_at s at =
      ap (part z (at + 2)) long ∙ part-alike (at + 2) (word s at) (omega (arith, next)) in
      let there : next_of z at ≤ length z = omega (arith, within, long, next) in
      rw (head-found z at (word z at) refl there, letters, r.letters, r.new, long) (ap ok (sym r.is))

  segment-alike : (at : ℕ) (x : Taken Segment ℕ) → segment_at s at ≡ ok x → x.next ≤ end → segment_at z at ≡ ok x
  unfolding segment_at
  segment-alike at x e l =
      let m = segment-met s at x e in
      let here : at + 3 ≤ end = omega (arith, segment-bytes s at x e) in
      let count : m.count ≡ get_or z at 0 = m.counts.count ∙ sym (byte-alike at (omega (arith, here))) in
      let there : at < length z = omega (arith, here, within) in
      let some : m.count ≡ 0 → ⊥ = λ zero. (let c : ⊥ = omega (arith, zero, m.counts.some) in c) in
      rw (variants-some z at there m.count count some)
      (many-alike (variant_at s) (variant-onward s) (variant_at z) end variant-alike m.count [] (at + 1) x m.all l)

  segments-alike : (n from : ℕ) (x : Taken Text ℕ) → many (λ _. segment_at s) n [] from ≡ ok x → x.next ≤ end
      → many (λ _. segment_at z) n [] from ≡ ok x
  segments-alike n from x e l =
      many-alike (λ _. segment_at s) (λ _. segment-onward s) (λ _. segment_at z) end (λ _. segment-alike) n [] from x e l

-- a first hit in segment k is the first end among those that read whole
hit-met : (P : List ℕ) (st : ℕ) (s : List ℕ) (k : ℕ) → hitting P st s ≡ ok (ends_in k) → (first_in P st s ≡ k) × (k < none)
unfolding hitting
hit-met P st s k e = go (ltb (first_in P st s) none) refl e
  where
    go : (b : Bool) → ltb (first_in P st s) none ≡ b
        → cond b (ok (ends_in (first_in P st s))) (after (stretch_of s) (λ t. ok (clear (run P st t)))) ≡ ok (ends_in k)
        → (first_in P st s ≡ k) × (k < none)
    go true l h =
        let hit : ends_in (first_in P st s) ≡ ends_in k = ok-inj h in
        let is : first_in P st s ≡ k = cc in
        (is, omega (arith, is, ltb-true (first_in P st s) none l))
    go false l h =
        let (t, _, none_is) = after-met (stretch_of s) (λ t. ok (clear (run P st t))) (ends_in k) h in
        absurd (ends-clear k (run P st t) (sym (ok-inj none_is)))

-- the bytes open, since else nothing reads whole
hit-opens : (P : List ℕ) (st : ℕ) (s : List ℕ) → first_in P st s < none → (n : ℕ) × (open_at s ≡ ok n) × (first_in P st s ≡ first_from P st s n 2)
unfolding first_in whole_of first_from marks_from first_end
hit-opens P st s l = go (open_at s) refl
  where
    go : (o : Outcome ℕ) → open_at s ≡ o → (n : ℕ) × (open_at s ≡ ok n) × (first_in P st s ≡ first_from P st s n 2)
    go (ok n) e = (n, e, rw e refl)
    go (refused j p) e = let nowhere : first_in P st s ≡ none = rw e refl in absurd (let c : ⊥ = omega (arith, l, nowhere) in c)

-- of n segments, the first in which something ends is number k
module _ (P : List ℕ) (st : ℕ) (s : List ℕ) (n k : ℕ) (is : first_from P st s n 2 ≡ k) (low : k < none) where
  inside-whole : k < length (whole (λ _. segment_at s) n [] 2)
  unfolding first_from
  inside-whole =
      let all : Text = whole (λ _. segment_at s) n [] 2 in
      let some : first_end (marks_from P st all) < none = omega (arith, is, low) in
      omega (arith, is, first_end-within (marks_from P st all) some, marks-length P st all)

  few : k + 1 ≤ n
  few = omega (arith, inside-whole, whole-few (λ _. segment_at s) n [] 2)

  -- those up to it read whole
  hit-reads : (x : Taken Text ℕ) × (many (λ _. segment_at s) (k + 1) [] 2 ≡ ok x)
  hit-reads = go (many (λ _. segment_at s) (k + 1) [] 2) refl
    where
      go : (o : Outcome (Taken Text ℕ)) → many (λ _. segment_at s) (k + 1) [] 2 ≡ o
          → (x : Taken Text ℕ) × (many (λ _. segment_at s) (k + 1) [] 2 ≡ ok x)
      go (ok x) e = (x, e)
      go (refused j p) e =
          let rest : k + 1 + (n - (k + 1)) ≡ n = omega (arith, few) in
          let short = rw rest at (whole-short (λ _. segment_at s) (k + 1) (n - (k + 1)) [] 2 j p e) in
          absurd (let c : ⊥ = omega (arith, short, inside-whole) in c)

  -- and it is the first of them
  hit-last : (x : Taken Text ℕ) → many (λ _. segment_at s) (k + 1) [] 2 ≡ ok x → first_end (marks_from P st x.value) ≡ k
  unfolding later
  hit-last x e = omega (arith, first-is P st s n 2 (k + 1) x.value x.next e few, is, low)

-- where the segments up to number k read so, whatever stands after them, the first hit is in number k
hit-front : (P : List ℕ) (st : ℕ) (z : List ℕ) (n k : ℕ) (x : Taken Text ℕ) → open_at z ≡ ok n → k + 1 ≤ n → k < none
    → many (λ _. segment_at z) (k + 1) [] 2 ≡ ok x → first_end (marks_from P st x.value) ≡ k
    → hitting P st z ≡ ok (ends_in k)
hit-front P st z n k x opens few low read last =
    let is = first-here P st z n 2 (k + 1) x.value x.next read few k refl last low in
    hit-ends P st z n opens (omega (arith, is, low)) ∙ ap (λ (i : ℕ). ok (ends_in i)) is

-- what a first hit in segment k says: of the pattern, the state and the bytes, and of the n segments that the bytes count
record Found (P : List ℕ) (Q : List ℕ) (st : ℕ) (s : List ℕ) (k : ℕ) : Type 0 where
  n : ℕ
  entry : Entered P st s
  opens : Opens s n
  is : first_from Q st s n 2 ≡ k
  low : k < none

found : (P : List ℕ) (strand : Strand) (st : ℕ) (s : List ℕ) (k : ℕ) → firsting P strand st s ≡ ok (ends_in k)
    → Found P (on_strand strand P) st s k
unfolding firsting
found P strand st s k e =
    let Q : List ℕ = on_strand strand P in
    let (_, asked, hit) = after-met (entering P st s (ok (tt {0}))) (λ _. hitting Q st s) (ends_in k)
    (sym (entering-after P st s (hitting Q st s)) ∙ e) in
    let y = entered P st s asked in
    let (there, low) = hit-met Q st s k hit in
    let (n, opens, is) = hit-opens Q st s (omega (arith, there, low)) in
    record { n = n; entry = y; opens = open-met s n opens; is = sym is ∙ there; low = low }

module _ (P : List ℕ) (strand : Strand) (st : ℕ) (s : List ℕ) (k : ℕ) (e : firsting P strand st s ≡ ok (ends_in k)) where
  -- the segments up to number k read whole, and end inside the bytes
  pub front_read : (x : Taken Text ℕ) × (many (λ _. segment_at s) (k + 1) [] 2 ≡ ok x) × (x.next ≤ length s)
  front_read =
      let f = found P strand st s k e in
      let (x, read) = hit-reads (on_strand strand P) st s f.n k f.is f.low in
      (x, read, segments-inside s (k + 1) 2 x f.opens.counted read)

  -- bytes that begin with the same ones up to there have the same first hit
  pub front-alike : (x : Taken Text ℕ) → many (λ _. segment_at s) (k + 1) [] 2 ≡ ok x → (z : List ℕ) → length z ≤ greatest_stretch
      → take x.next z ≡ take x.next s → firsting P strand st z ≡ ok (ends_in k)
  unfolding firsting
  front-alike x read z short same =
      let Q : List ℕ = on_strand strand P in
      let f = found P strand st s k e in
      let o = f.opens in
      let inside = segments-inside s (k + 1) 2 x o.counted read in
      let from = segments-onward s (k + 1) 2 x read in
      let counted : 2 ≤ length z = omega (arith, from, within s z x.next same inside) in
      let count : open_at z ≡ ok f.n =
      open-counts z counted ∙ ap ok (word-alike s z x.next same inside 0 from ∙ sym o.count) in
      let all = segments-alike s z x.next same inside (k + 1) 2 x read (le_refl x.next) in
      entering-sound P st z (record { sound = f.entry.sound; short = short; state = f.entry.state }) (hitting Q st z)
      ∙ hit-front Q st z f.n k x count (few Q st s f.n k f.is f.low) f.low all
      (hit-last Q st s f.n k f.is f.low x read)
