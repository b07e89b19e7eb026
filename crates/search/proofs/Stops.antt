-- Runs that stop: what reads whole before the first fault, and how many segments are read up to the first end.
use Prim.Native.Nat.{ℕ, zero, suc, ◌+◌, ◌-◌, ◌≤◌, ◌<◌, min}
use native.Mathlib.Nat.{zero-add, suc-add}
use native.Mathlib.Omega.{arith}
use mathlib.Core.Path.{◌≡◌, refl, sym, ap, ◌∙◌}
use mathlib.Core.Logic.{◌⊎◌, inl, inr, ⊎_elim}
use mathlib.Core.Bool.{Bool, true, false, cond}
use mathlib.Core.List.{List, [], ◌∷◌, ◌++◌, append_assoc, append-nil}
use borrow.Author.Tests.{lt-ltb}
use lib.Dec.{eqb}
use lib.ListN.{length, length-append}
use Rattle.text.specs.Text.{Segment, Text, total}
use Rattle.text.specs.State.{next, ends, run, marks_from}
use Rattle.text.specs.Card.{none, later, first_end}
use Rattle.text.specs.Refusal.{Outcome, ok, refused, after}
use Rattle.text.proofs.Outcomes.{ok-inj, refused-ok, after-met}
use Rattle.text.proofs.Ends.{first_end-append}
use Rattle.text.proofs.Marks.{marks-append, marks-length}
use Rattle.text.proofs.Sizes.{total-each}
use Rattle.layout.specs.Reading.{Taken, segment_at, many, segments_of}
use Rattle.layout.proofs.Walks.{Step, many-steps, walk-length}
use Rattle.layout.proofs.Stretches.{segment-steps, segment-bytes}
use Rattle.search.specs.First.{unless, whole, ends_in, clear, first_from, hitting_from}

module _ {A B : Type 0} (f : List A → B → Outcome (Taken A B)) where
  -- what was read is in front of what reads whole
  pub whole-walk : (k m : ℕ) (seen : List A) (at : B) (x : Taken (List A) B) → many f k seen at ≡ ok x
      → whole f (k + m) seen at ≡ whole f m x.value x.next
  unfolding many whole
  whole-walk zero m seen at x e = rw zero-add (ap (λ (y : Taken (List A) B). whole f m y.value y.next) (ok-inj e))
  whole-walk (suc k) m seen at x e =
      let t = after-met (f seen at) (λ y. many f k (seen ++ (y.value ∷ [])) y.next) x e in
      rw (suc-add, t.1) (whole-walk k m (seen ++ (t.0.value ∷ [])) t.0.next x t.2)

  pub whole-front : (m : ℕ) (seen : List A) (at : B) → (rest : List A) × (whole f m seen at ≡ seen ++ rest)
  unfolding whole
  whole-front zero seen at = ([], sym (append-nil seen))
  whole-front (suc m) seen at = go (f seen at) (λ y. whole-front m (seen ++ (y.value ∷ [])) y.next)
    where
      go : (o : Outcome (Taken A B))
          → ((y : Taken A B) → (rest : List A) × (whole f m (seen ++ (y.value ∷ [])) y.next ≡ (seen ++ (y.value ∷ [])) ++ rest))
          → (rest : List A) × (unless o seen (λ x. whole f m (seen ++ (x.value ∷ [])) x.next) ≡ seen ++ rest)
      go (ok y) more = (y.value ∷ (more y).0, (more y).1 ∙ append_assoc seen (y.value ∷ []) (more y).0)
      go (refused n p) more = ([], sym (append-nil seen))

  -- fewer read whole than are refused
  pub whole-short : (k m : ℕ) (seen : List A) (at : B) (j p : ℕ) → many f k seen at ≡ refused j p
      → length (whole f (k + m) seen at) < length seen + k
  unfolding many whole
  whole-short zero m seen at j p e = absurd (refused-ok j p (record { value = seen; next = at }) (sym e))
  whole-short (suc k) m seen at j p e =
      rw suc-add (go (f seen at) (λ y. whole-short k m (seen ++ (y.value ∷ [])) y.next j p) e)
    where
      go : (o : Outcome (Taken A B))
          → ((y : Taken A B) → many f k (seen ++ (y.value ∷ [])) y.next ≡ refused j p
          → length (whole f (k + m) (seen ++ (y.value ∷ [])) y.next) < length (seen ++ (y.value ∷ [])) + k)
          → after o (λ y. many f k (seen ++ (y.value ∷ [])) y.next) ≡ refused j p
          → length (unless o seen (λ y. whole f (k + m) (seen ++ (y.value ∷ [])) y.next)) < length seen + suc k
      go (ok y) less h = omega (arith, less y h, length-append seen (y.value ∷ []))
      go (refused a b) less h = omega arith

  -- no more read whole than there are
  pub whole-few : (n : ℕ) (seen : List A) (at : B) → length (whole f n seen at) ≤ length seen + n
  unfolding whole
  whole-few zero seen at = omega arith
  whole-few (suc n) seen at = go (f seen at) (λ y. whole-few n (seen ++ (y.value ∷ [])) y.next)
    where
      go : (o : Outcome (Taken A B))
          → ((y : Taken A B) → length (whole f n (seen ++ (y.value ∷ [])) y.next) ≤ length (seen ++ (y.value ∷ [])) + n)
          → length (unless o seen (λ y. whole f n (seen ++ (y.value ∷ [])) y.next)) ≤ length seen + suc n
      go (ok y) few = omega (arith, few y, length-append seen (y.value ∷ []))
      go (refused a b) few = omega arith

-- the marks of a text have no one, and their first end is "none"; or one, and it is the number of a segment
pub ones-or-none : (P : List ℕ) (st : ℕ) (T : Text) → length T ≤ none
    → ((total (λ x. x) (marks_from P st T) ≡ 0) × (first_end (marks_from P st T) ≡ none))
    ⊎ ((0 < total (λ x. x) (marks_from P st T)) × (first_end (marks_from P st T) < length T))
unfolding marks_from total first_end later
ones-or-none P st [] few = inl (refl, refl)
ones-or-none P st (g ∷ T) few =
    go (ends P st g) (total (λ x. x) (marks_from P (next P st g) T)) (first_end (marks_from P (next P st g) T))
    (ones-or-none P (next P st g) T (omega arith))
  where
    go : (b : Bool) (ones first : ℕ) → ((ones ≡ 0) × (first ≡ none)) ⊎ ((0 < ones) × (first < length T))
        → ((cond b 1 0 + ones ≡ 0) × (cond (eqb (cond b 1 0) 1) 0 (later 1 first) ≡ none))
        ⊎ ((0 < cond b 1 0 + ones) × (cond (eqb (cond b 1 0) 1) 0 (later 1 first) < suc (length T)))
    go true ones first h = inr (omega arith, omega arith)
    go false ones first h =
        ⊎_elim (λ (e : (ones ≡ 0) × (first ≡ none)). inl (omega (arith, e.0), omega (arith, e.1)))
        (λ (e : (0 < ones) × (first < length T)). inr (omega (arith, e.0), omega (arith, e.1)))
        h

-- no more of them are ones than there are
pub ones-few : (P : List ℕ) (st : ℕ) (T : Text) → total (λ x. x) (marks_from P st T) ≤ length T
unfolding marks_from total
ones-few P st [] = omega arith
ones-few P st (g ∷ T) = go (ends P st g) (ones-few P (next P st g) T)
  where
    go : (b : Bool) {ones : ℕ} → ones ≤ length T → cond b 1 0 + ones ≤ suc (length T)
    go true l = omega arith
    go false l = omega arith

-- where no mark is a one, the first end is "none"
pub no_ones : (P : List ℕ) (st : ℕ) (T : Text) → length T ≤ none → total (λ x. x) (marks_from P st T) ≡ 0
    → first_end (marks_from P st T) ≡ none
no_ones P st T few zeros =
    ⊎_elim (λ (e : (total (λ x. x) (marks_from P st T) ≡ 0) × (first_end (marks_from P st T) ≡ none)). e.1)
    (λ (e : (0 < total (λ x. x) (marks_from P st T)) × (first_end (marks_from P st T) < length T)). absurd
    (let z : ⊥ = omega (arith, e.0) in z))
    (ones-or-none P st T few)

-- where one is, the first end is the number of a segment
pub some-ones : (P : List ℕ) (st : ℕ) (T : Text) → length T ≤ none → ¬ (total (λ x. x) (marks_from P st T) ≡ 0)
    → first_end (marks_from P st T) < length T
some-ones P st T few some =
    ⊎_elim (λ (e : (total (λ x. x) (marks_from P st T) ≡ 0) × (first_end (marks_from P st T) ≡ none)). absurd (some e.0))
    (λ (e : (0 < total (λ x. x) (marks_from P st T)) × (first_end (marks_from P st T) < length T)). e.1)
    (ones-or-none P st T few)

-- segments that were read are fewer than the bytes
pub walk-few : (s : List ℕ) (from k : ℕ) (seen : Text) (at : ℕ) → from ≤ length s
    → many (λ _. segment_at s) k [] from ≡ ok (record { value = seen; next = at }) → k ≤ length s
unfolding total
walk-few s from k seen at l w =
    let m = many-steps (λ _. segment_at s) (λ g. 3) (length s) three k [] from (record { value = seen; next = at }) l w in
    omega (arith, m.0, m.1, total-each 3 seen, walk-length (λ _. segment_at s) from k seen at w)
  where
    three : (seen : List Segment) (at : ℕ) (x : Taken Segment ℕ) → segment_at s at ≡ ok x → Step (λ g. 3) (length s) at x
    three seen at x e = record { counts = omega (arith, segment-bytes s at x e); inside = (segment-steps s seen at x e).inside }

-- of n segments that stand from `from` on
module _ (P : List ℕ) (st : ℕ) (s : List ℕ) (n from : ℕ) where
  -- k of them have been read, those seen
  module _ (k : ℕ) (seen : Text) (at : ℕ) (w : many (λ _. segment_at s) k [] from ≡ ok (record { value = seen; next = at }))
      (l : k ≤ n) where
    -- what reads whole after them
    pub behind : (rest : Text) × (whole (λ _. segment_at s) n [] from ≡ seen ++ rest)
    behind =
        let more = whole-front (λ _. segment_at s) (n - k) seen at in
        let all : k + (n - k) ≡ n = omega arith in (
          more.0,
          ap (λ (i : ℕ). whole (λ _. segment_at s) i [] from) (sym all)
              ∙ whole-walk (λ _. segment_at s) k (n - k) [] from (record { value = seen; next = at }) w ∙ more.1,
        )

    -- the first end is theirs, or comes later
    pub first-is : first_from P st s n from
        ≡ min (first_end (marks_from P st seen)) (later k (first_end (marks_from P (run P st seen) behind.0)))
    unfolding first_from
    first-is =
        ap (λ (T : Text). first_end (marks_from P st T)) behind.1
        ∙ ap first_end (marks-append P st seen behind.0)
        ∙ first_end-append (marks_from P st seen) (marks_from P (run P st seen) behind.0)
        ∙ ap (λ (i : ℕ). min (first_end (marks_from P st seen)) (later i (first_end (marks_from P (run P st seen) behind.0))))
        (marks-length P st seen ∙ walk-length (λ _. segment_at s) from k seen at w)

    -- where the last of them is the first that ends, it is the first hit
    pub first-here : (j : ℕ) → k ≡ j + 1 → first_end (marks_from P st seen) ≡ j → j < none → first_from P st s n from ≡ j
    unfolding later
    first-here j last ended low = omega (arith, first-is, last, ended, low)

    pub hit-here : (j : ℕ) → k ≡ j + 1 → first_end (marks_from P st seen) ≡ j → j < none → hitting_from P st s n from ≡ ok (ends_in j)
    unfolding hitting_from
    hit-here j last ended low = let is = first-here j last ended low in rw (is, lt-ltb j none low) refl

    -- where no more read whole, and nothing ends in them, there is no end
    module _ (None-more : (k ≡ n) ⊎ ((j : ℕ) × (p : ℕ) × (segment_at s at ≡ refused j p))) (few : k ≤ none)
        (zeros : total (λ x. x) (marks_from P st seen) ≡ 0) where
      pub all_whole : whole (λ _. segment_at s) n [] from ≡ seen
      unfolding whole
      all_whole =
          let all : k + (n - k) ≡ n = omega arith in
          ap (λ (i : ℕ). whole (λ _. segment_at s) i [] from) (sym all)
          ∙ whole-walk (λ _. segment_at s) k (n - k) [] from (record { value = seen; next = at }) w
          ∙ ⊎_elim done fault None-more
        where
          done : k ≡ n → whole (λ _. segment_at s) (n - k) seen at ≡ seen
          done e = let zero : n - k ≡ 0 = omega arith in rw zero refl

          fault : (j : ℕ) × (p : ℕ) × (segment_at s at ≡ refused j p) → whole (λ _. segment_at s) (n - k) seen at ≡ seen
          fault (j, p, wrong) = stays (n - k)
            where
              stays : (m : ℕ) → whole (λ _. segment_at s) m seen at ≡ seen
              stays zero = refl
              stays (suc m) = rw wrong refl

      pub first-none : first_from P st s n from ≡ none
      unfolding first_from
      first-none =
          ap (λ (T : Text). first_end (marks_from P st T)) all_whole
          ∙ no_ones P st seen (omega (arith, few, walk-length (λ _. segment_at s) from k seen at w)) zeros

      pub hit-nowhere : hitting_from P st s n from ≡ after (segments_of s n from) (λ t. ok (clear (run P st t)))
      unfolding hitting_from
      hit-nowhere = rw first-none refl

-- a one after marks that have none
pub first-last : (marks : List ℕ) (k : ℕ) → first_end marks ≡ none → length marks ≡ k → k < none → first_end (marks ++ (1 ∷ [])) ≡ k
unfolding first_end later
first-last marks k unmarked long few = first_end-append marks (1 ∷ []) ∙ omega (arith, unmarked, long)
