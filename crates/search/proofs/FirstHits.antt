-- The first hit as the marks of a search have it: on a sound stretch, before a fault, and along the stretches of a text.
use Prim.Native.Nat.{ℕ, zero, suc, ◌+◌, ◌≤◌, ◌<◌}
use native.Mathlib.Nat.{add-zero}
use native.Mathlib.Decide.{ℕ_discrete}
use native.Mathlib.Omega.{arith}
use mathlib.Core.Path.{◌≡◌, refl, sym, ap, ◌∙◌}
use mathlib.Core.Logic.{inr, by_cases}
use mathlib.Core.Bool.{Bool, true, false, cond, false≢true}
use mathlib.Core.List.{List, [], ◌∷◌, ◌++◌}
use borrow.Author.Tests.{lt-ltb}
use lib.Dec.{ltb}
use lib.ListN.{length, get_or}
use Rattle.text.specs.Text.{Segment, Text, total}
use Rattle.text.specs.State.{is_state, next, ends, run, marks_from}
use Rattle.text.specs.Card.{none, first_end}
use Rattle.text.specs.Refusal.{ok, refused, after, SoundPattern}
use Rattle.text.specs.Strand.{on_strand}
use Rattle.text.specs.declared.strand.Strand.{Strand}
use Rattle.text.proofs.Strands.{strand-length, strand-sound}
use Rattle.text.proofs.Sizes.{total-append}
use Rattle.text.proofs.Outcomes.{ok-inj, after-met}
use Rattle.text.proofs.Marks.{run-append, marks-append, marks-length}
use Rattle.text.proofs.Folds.{marks-snoc}
use Rattle.layout.specs.Pieces.{open_at}
use Rattle.layout.specs.Bytes.{greatest_stretch}
use Rattle.layout.specs.Reading.{segment_at, many, segments_of, stretch_of}
use Rattle.layout.proofs.Frames.{whole-met, stretch-whole, open-counts}
use Rattle.layout.proofs.Stretches.{stretch-short, stretch-most}
use Rattle.layout.proofs.Walks.{walk_refused}
use Rattle.search.specs.First.{Hit, ends_in, clear, whole, whole_of, first_in, hitting, firsting}
use Rattle.search.specs.Chain.{stretches_text, asks}
use Rattle.search.proofs.Entries.{entering-sound}
use Rattle.search.proofs.Stops.{whole-walk, no_ones, some-ones, first-last, walk-few, hit-here, hit-nowhere}
use Rattle.search.proofs.Hits.{hit-from}
use Rattle.search.proofs.Chains.{run-state}

-- the first hit among marks: the first one, or the state after them where there is none
abbrev pub hit_of : List ℕ → ℕ → Hit
hit_of marks st = cond (ltb (first_end marks) none) (ends_in (first_end marks)) (clear st)

-- of a sound stretch it is the first one among the marks
pub hit-sound : (P : List ℕ) (st : ℕ) (s : List ℕ) (t : Text) → stretch_of s ≡ ok t
    → hitting P st s ≡ ok (hit_of (marks_from P st t) (run P st t))
unfolding hitting first_in whole_of whole
hit-sound P st s t e =
    let m = whole-met s t (stretch-whole s t e).1 in
    let n = m.count in
    let opens : open_at s ≡ ok n = open-counts s m.opens.counted ∙ ap ok (sym m.opens.count) in
    let all : whole (λ _. segment_at s) n [] 2 ≡ t =
    ap (λ (i : ℕ). whole (λ _. segment_at s) i [] 2) (sym (add-zero n)) ∙ whole-walk (λ _. segment_at s) n 0 [] 2 _ m.all in
    rw (opens, all, e) (either (ltb (first_end (marks_from P st t)) none) _ _)
  where
    either : (b : Bool) (h g : Hit) → cond b (ok h) (ok g) ≡ ok (cond b h g)
    either true h g = refl
    either false h g = refl

-- the first k of n segments of a stretch read whole, those seen, up to `at`
pub record Reads (s : List ℕ) (n k : ℕ) (seen : Text) (at : ℕ) : Type 0 where
  pub opens : open_at s ≡ ok n
  pub short : length s ≤ greatest_stretch
  pub counted : 2 ≤ length s
  pub few : k ≤ n
  pub all : many (λ _. segment_at s) k [] 2 ≡ ok (record { value = seen; next = at })

module _ (P : List ℕ) (st : ℕ) (s : List ℕ) (n k : ℕ) (seen : Text) (at : ℕ) where
  -- a segment that reads whole and in which an occurrence ends, the first such: whatever stands after it
  pub hit-first : (g : Segment) (behind : ℕ) → Reads s n (k + 1) (seen ++ (g ∷ [])) behind → length seen ≡ k
      → total (λ x. x) (marks_from P st seen) ≡ 0 → ends P (run P st seen) g ≡ true → hitting P st s ≡ ok (ends_in k)
  hit-first g behind r long zeros hit =
      let few = walk-few s 2 (k + 1) _ behind r.counted r.all in
      let short = r.short in
      let unmarked = no_ones P st seen (omega (arith, long, few, short)) zeros in
      let last : marks_from P st (seen ++ (g ∷ [])) ≡ marks_from P st seen ++ (1 ∷ []) =
      marks-snoc P st seen g ∙ ap (λ (b : Bool). marks_from P st seen ++ (cond b 1 0 ∷ [])) hit in
      let low : k < none = omega (arith, few, short) in
      let one = ap first_end last ∙ first-last (marks_from P st seen) k unmarked (marks-length P st seen ∙ long) low in
      hit-from P st s n r.opens short ∙ hit-here P st s n 2 (k + 1) (seen ++ (g ∷ [])) behind r.all r.few k refl one low

  -- a fault before any end, inside a segment too: its refusal
  pub hit-fault : (j p : ℕ) → Reads s n k seen at → k < n → total (λ x. x) (marks_from P st seen) ≡ 0 → segment_at s at ≡ refused j p
      → hitting P st s ≡ refused j p
  unfolding segments_of
  hit-fault j p r l zeros wrong =
      let few = walk-few s 2 k seen at r.counted r.all in
      let short = r.short in
      hit-from P st s n r.opens short
      ∙ hit-nowhere P st s n 2 k seen at r.all r.few (inr (j, p, wrong)) (omega (arith, few, short)) zeros
      ∙ rw (walk_refused (λ _. segment_at s) 2 k seen at r.all n l j p wrong) refl

-- marks that sum up to 0 are no ones
pub zeros-at : (l : List ℕ) → total (λ x. x) l ≡ 0 → (j : ℕ) → get_or l j 0 ≡ 1 → ⊥
unfolding total
zeros-at [] zeros j h = omega arith
zeros-at (x ∷ l) zeros zero h = omega arith
zeros-at (x ∷ l) zeros (suc j) h = zeros-at l (omega arith) j h

-- and marks none of which is a one sum up to 0
pub ones_none : (P : List ℕ) (st : ℕ) (T : Text) → ((j : ℕ) → get_or (marks_from P st T) j 0 ≡ 1 → ⊥) → total (λ x. x) (marks_from P st T) ≡ 0
unfolding total marks_from
ones_none P st [] h = refl
ones_none P st (g ∷ T) h = go (ends P st g) (h 0) (ones_none P (next P st g) T (λ j. h (suc j)))
  where
    go : (b : Bool) → (◌≡◌ {A = ℕ} (cond b 1 0) 1 → ⊥) → total (λ x. x) (marks_from P (next P st g) T) ≡ 0
        → cond b 1 0 + total (λ x. x) (marks_from P (next P st g) T) ≡ 0
    go true none rest = absurd (none refl)
    go false none rest = omega arith

-- an end is not "none"
pub ends-clear : (k st : ℕ) → ends_in k ≡ clear st → ⊥
ends-clear k st e = absurd (false≢true (sym (ap is_end e)))
  where
    is_end : Hit → Bool
    is_end (ends_in k) = true
    is_end (clear st) = false

-- of a pattern P, read by a strand as Q
module _ (P : List ℕ) (strand : Strand) (y : SoundPattern P) where
  pub first-sound : (st : ℕ) (s : List ℕ) (t : Text) → is_state (length P) st ≡ true → stretch_of s ≡ ok t
      → firsting P strand st s ≡ ok (hit_of (marks_from (on_strand strand P) st t) (run (on_strand strand P) st t))
  unfolding firsting
  first-sound st s t i e =
      entering-sound P st s (record { sound = y; short = stretch-short s t e; state = i }) _ ∙ hit-sound (on_strand strand P) st s t e

  -- the stretches of a text, asked in order: clear where no mark of the text is a one, else an end
  module _ where
    abbrev pub Q : List ℕ
    Q = on_strand strand P

    state : (st : ℕ) (t : Text) → is_state (length P) st ≡ true → is_state (length P) (run Q st t) ≡ true
    state st t i =
        rw (strand-length strand P) at (run-state Q (strand-sound strand P y) st t (rw (strand-length strand P) i))

    hit-clear : (st : ℕ) (t : Text) → length t ≤ none → total (λ x. x) (marks_from Q st t) ≡ 0
        → hit_of (marks_from Q st t) (run Q st t) ≡ clear (run Q st t)
    hit-clear st t few zeros = rw (no_ones Q st t few zeros) refl

    hit-some : (st : ℕ) (t : Text) → length t ≤ none → ¬ (total (λ x. x) (marks_from Q st t) ≡ 0)
        → hit_of (marks_from Q st t) (run Q st t) ≡ ends_in (first_end (marks_from Q st t))
    hit-some st t few some =
        let within = some-ones Q st t few some in
        rw (lt-ltb (first_end (marks_from Q st t)) none (omega (arith, within, few))) refl

    -- the marks of a text have no one exactly where those of its parts have none
    split : (st : ℕ) (t U : Text) → total (λ x. x) (marks_from Q st (t ++ U))
        ≡ total (λ x. x) (marks_from Q st t) + total (λ x. x) (marks_from Q (run Q st t) U)
    split st t U = ap (total (λ x. x)) (marks-append Q st t U) ∙ total-append (λ x. x) (marks_from Q st t) (marks_from Q (run Q st t) U)

    pub asks-clear : (st : ℕ) (ss : List (List ℕ)) (T : Text) → is_state (length P) st ≡ true → stretches_text ss ≡ ok T
        → total (λ x. x) (marks_from Q st T) ≡ 0 → asks P strand st ss ≡ ok (clear (run Q st T))
    unfolding asks stretches_text run
    asks-clear st [] T i e zeros = ap (λ (U : Text). ok (clear (run Q st U))) (ok-inj e)
    asks-clear st (s ∷ ss) T i e zeros =
        let (t, here, more) = after-met (stretch_of s) (λ t. after (stretches_text ss) λ T. ok (t ++ T)) T e in
        let (U, there, all) = after-met (stretches_text ss) (λ T. ok (t ++ T)) T more in
        let sum = ap (λ (S : Text). total (λ x. x) (marks_from Q st S)) (ok-inj all) ∙ zeros in
        let few : length t ≤ none = omega (arith, stretch-most s t here) in
        let front = hit-clear st t few (omega (arith, split st t U, sum)) in
        rw (first-sound st s t i here, front, asks-clear (run Q st t) ss U (state st t i) there (omega (arith, split st t U, sum)))
        (ap (λ (n : ℕ). ok (clear n)) (sym (run-append Q st t U)) ∙ ap (λ (S : Text). ok (clear (run Q st S))) (ok-inj all))

    pub asks-ends : (st : ℕ) (ss : List (List ℕ)) (T : Text) → is_state (length P) st ≡ true → stretches_text ss ≡ ok T
        → ¬ (total (λ x. x) (marks_from Q st T) ≡ 0) → (k : ℕ) × (asks P strand st ss ≡ ok (ends_in k))
    unfolding asks stretches_text marks_from total
    asks-ends st [] T i e some = absurd (some (ap (λ (U : Text). total (λ x. x) (marks_from Q st U)) (sym (ok-inj e))))
    asks-ends st (s ∷ ss) T i e some =
        let (t, here, more) = after-met (stretch_of s) (λ t. after (stretches_text ss) λ T. ok (t ++ T)) T e in
        let (U, there, all) = after-met (stretches_text ss) (λ T. ok (t ++ T)) T more in
        let few : length t ≤ none = omega (arith, stretch-most s t here) in
        by_cases (ℕ_discrete (total (λ x. x) (marks_from Q st t)) 0)
        (λ (zeros : total (λ x. x) (marks_from Q st t) ≡ 0).
        let rest = asks-ends (run Q st t) ss U (state st t i) there
        (λ z. some (ap (λ (S : Text). total (λ x. x) (marks_from Q st S)) (sym (ok-inj all)) ∙ omega (arith, split st t U, zeros, z))) in
        (rest.0, rw (first-sound st s t i here, hit-clear st t few zeros) rest.1))
        (λ (one : ¬ (total (λ x. x) (marks_from Q st t) ≡ 0)).
        (first_end (marks_from Q st t), rw (first-sound st s t i here, hit-some st t few one) refl))
