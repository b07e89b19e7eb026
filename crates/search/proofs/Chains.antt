-- A text that comes in pieces is searched as the whole: laws of segments fed and of stretches searched one after another.
use Prim.Native.Nat.{ℕ, zero, suc, ◌^◌, ◌≤◌, ◌<◌}
use native.Mathlib.Omega.{arith}
use mathlib.Core.Path.{◌≡◌, refl, sym, ap, ap₂, ◌∙◌}
use mathlib.Core.Bool.{true, cond}
use mathlib.Core.List.{List, [], ◌∷◌, ◌++◌, map}
use borrow.Author.Tests.{le-leb, leb-true, lt-ltb}
use lib.Dec.{leb, ltb}
use lib.ListN.{length, get_or, take}
use Rattle.text.specs.Text.{Segment, Text}
use Rattle.text.specs.Bits.{bit}
use Rattle.text.specs.State.{is_state, next, ends, run, marks_from}
use Rattle.text.specs.Refusal.{ok, after, SoundPattern}
use Rattle.text.proofs.Truth.{and_left, and_both}
use Rattle.text.specs.Strand.{on_strand}
use Rattle.text.specs.declared.strand.Strand.{Strand}
use Rattle.text.proofs.Strands.{strand-length, strand-sound}
use Rattle.text.proofs.Outcomes.{demand-met, after-met, ok-inj}
use Rattle.text.proofs.Steps.{next-open, next-lt}
use Rattle.text.proofs.Marks.{run-append, marks-append}
use Rattle.layout.specs.Bytes.{greatest_stretch}
use Rattle.layout.specs.Pieces.{fits_at, most_in_stretch}
use Rattle.layout.specs.Reading.{segment_of, lone_segment, stretch_of}
use Rattle.layout.proofs.Stretches.{stretch-most, stretch-short}
use Rattle.search.specs.Answers.{Next, into, feeding, seeking, seen_from}
use Rattle.search.specs.Chain.{segments_text, feeds, mark_of, stretches_text, Trail, seeks}
use Rattle.search.proofs.Entries.{entering-sound}

-- the steps of a pattern over a text
module _ (P : List ℕ) (y : SoundPattern P) where
  -- a step leads from state to state
  next-state : (st : ℕ) (g : Segment) → is_state (length P) st ≡ true → is_state (length P) (next P st g) ≡ true
  unfolding is_state
  next-state st g i =
      and_both _ _ (next-open P st g y.some ∙ and_left (bit st 0) (ltb st (2 ^ length P)) i)
      (lt-ltb (next P st g) (2 ^ length P) (next-lt P st g))

  pub run-state : (st : ℕ) (T : Text) → is_state (length P) st ≡ true → is_state (length P) (run P st T) ≡ true
  unfolding run
  run-state st [] i = i
  run-state st (g ∷ T) i = run-state (next P st g) T (next-state st g i)

  -- the states after each segment, and whether an occurrence ends there
  pub steps : ℕ → Text → List Next
  steps st [] = []
  steps st (g ∷ T) = record { state = next P st g; ends = ends P st g } ∷ steps (next P st g) T

  -- their marks and states are those of the text
  pub steps-marks : (st : ℕ) (T : Text) → map mark_of (steps st T) ≡ marks_from P st T
  unfolding steps marks_from
  steps-marks st [] = refl
  steps-marks st (g ∷ T) = ap (λ (l : List ℕ). cond (ends P st g) 1 0 ∷ l) (steps-marks (next P st g) T)

  pub steps-states : (st : ℕ) (T : Text) (j : ℕ) → j < length T → get_or (map (λ x. x.state) (steps st T)) j 0 ≡ run P st (take (suc j) T)
  unfolding steps run
  steps-states st [] j l = absurd (let z : ⊥ = omega arith in z)
  steps-states st (g ∷ T) zero l = refl
  steps-states st (g ∷ T) (suc j) l = steps-states (next P st g) T j (omega arith)

  nothing-sought : (st : ℕ)
      → ◌≡◌ {A = Trail} (record { marks = []; state = st }) (record { marks = marks_from P st []; state = run P st [] })
  unfolding marks_from run
  nothing-sought st = refl

-- of a pattern P, read by a strand as Q, pieces searched one after another: a state of the one is a state of the other
module _ (P : List ℕ) (strand : Strand) (y : SoundPattern P) where
  Q : List ℕ
  Q = on_strand strand P

  z : SoundPattern Q
  unfolding Q
  z = strand-sound strand P y

  asked : (st : ℕ) → is_state (length Q) st ≡ true → is_state (length P) st ≡ true
  unfolding Q
  asked st i = rw (strand-length strand P) at i

  -- a feed of a segment's bytes is one step of the definition
  fed-segment : (st : ℕ) (g : Segment) (s : List ℕ) → is_state (length Q) st ≡ true → segment_of s ≡ ok g
      → feeding P strand st s ≡ ok (record { state = next Q st g; ends = ends Q st g })
  unfolding feeding segment_of fits_at Q
  fed-segment st g s i e =
      let (short, lone) = demand-met (leb (length s) greatest_stretch) 4 0 (lone_segment s) g e in
      entering-sound P st s (record { sound = y; short = leb-true (length s) greatest_stretch short; state = asked st i }) _ ∙ rw lone

  feeds-by : (st : ℕ) (ss : List (List ℕ)) (T : Text) → is_state (length Q) st ≡ true → segments_text ss ≡ ok T
      → feeds P strand st ss ≡ ok (steps Q z st T)
  unfolding feeds steps segments_text
  feeds-by st [] T i e = ap (λ (U : Text). ok (steps Q z st U)) (ok-inj e)
  feeds-by st (s ∷ ss) T i e =
      let (g, here, more) = after-met (segment_of s) (λ g. after (segments_text ss) λ T. ok (g ∷ T)) T e in
      let (U, there, all) = after-met (segments_text ss) (λ T. ok (g ∷ T)) T more in
      rw (fed-segment st g s i here, feeds-by (next Q st g) ss U (next-state Q z st g i) there)
      (ap (λ (U : Text). ok (steps Q z st U)) (ok-inj all))

  pub feeds-steps : (st : ℕ) (ss : List (List ℕ)) (T : Text) → is_state (length P) st ≡ true → segments_text ss ≡ ok T
      → feeds P strand st ss ≡ ok (steps (on_strand strand P) (strand-sound strand P y) st T)
  unfolding Q z
  feeds-steps st ss T i e = feeds-by st ss T (rw (strand-length strand P) i) e

  -- a search of an accepted stretch, from any state of the pattern, with room for its marks
  module _ (room : ℕ) (roomy : most_in_stretch ≤ room) where
    sought : (st : ℕ) (s : List ℕ) (t : Text) → is_state (length P) st ≡ true → stretch_of s ≡ ok t → seeking P st s room ≡ ok t
    unfolding seeking into
    sought st s t i e =
        let fit : length t ≤ room = omega (arith, stretch-most s t e) in
        entering-sound P st s (record { sound = y; short = stretch-short s t e; state = i }) _ ∙ rw (e, le-leb (length t) room fit)

    seeks-by : (st : ℕ) (ss : List (List ℕ)) (T : Text) → is_state (length Q) st ≡ true → stretches_text ss ≡ ok T
        → seeks P strand st room ss ≡ ok (record { marks = marks_from Q st T; state = run Q st T })
    unfolding seeks stretches_text seen_from Q
    seeks-by st [] T i e =
        ap ok (nothing-sought Q z st) ∙ ap (λ (U : Text). ok (record { marks = marks_from Q st U; state = run Q st U })) (ok-inj e)
    seeks-by st (s ∷ ss) T i e =
        let (t, here, more) = after-met (stretch_of s) (λ t. after (stretches_text ss) λ T. ok (t ++ T)) T e in
        let (U, there, all) = after-met (stretches_text ss) (λ T. ok (t ++ T)) T more in
        rw (sought st s t (asked st i) here, seeks-by (run Q st t) ss U (run-state Q z st t i) there)
        (ap₂ (λ (l : List ℕ) (n : ℕ). ok (record { marks = l; state = n })) (sym (marks-append Q st t U)) (sym (run-append Q st t U))
        ∙ ap (λ (S : Text). ok (record { marks = marks_from Q st S; state = run Q st S })) (ok-inj all))

    pub seeks-text : (st : ℕ) (ss : List (List ℕ)) (T : Text) → is_state (length P) st ≡ true → stretches_text ss ≡ ok T
        → seeks P strand st room ss ≡ ok (record { marks = marks_from (on_strand strand P) st T; state = run (on_strand strand P) st T })
    unfolding Q
    seeks-text st ss T i e = seeks-by st ss T (rw (strand-length strand P) i) e
