-- The first hit of a stretch, from what a run tells of its segments; and what a run over the segments of a walk says, whether it stops or
-- not.
use Prim.Native.Nat.{ℕ, ◌+◌, ◌-◌, ◌/◌, ◌<◌, ◌≤◌, min}
use native.Mathlib.Omega.{arith}
use mathlib.Core.Path.{◌≡◌, refl, sym, ap, ◌∙◌}
use mathlib.Core.Logic.{◌⊎◌, inl, inr}
use mathlib.Core.Bool.{Bool, true, false, false≢true}
use mathlib.Core.List.{List}
use borrow.Author.Tests.{lt-ltb, ne_eqb}
use lib.Dec.{eqb}
use lib.ListN.{length}
use Rattle.text.specs.Text.{Text, size}
use Rattle.text.specs.State.{run, marks_from}
use Rattle.text.specs.Card.{none, first_end}
use Rattle.text.specs.Refusal.{Outcome, ok, refused, after, outcome}
use Rattle.text.specs.declared.refusal.Refusal.{Refusal}
use Rattle.text.specs.Strand.{on_strand}
use Rattle.text.specs.declared.strand.Strand.{Strand}
use Rattle.layout.specs.Bytes.{greatest_stretch}
use Rattle.layout.specs.Pieces.{open_at}
use Rattle.layout.specs.Reading.{segment_at, segments_of, whole_stretch}
use Rattle.layout.specs.Walk.{end_at}
use Rattle.std.specs.Prelude.{Result, Ok, Err}
use Rattle.layout.specs.declared.walk.Walk.{Walk}
use Rattle.layout.proofs.Frames.{stretch-is}
use Rattle.layout.proofs.Going.{Opening, going-length, going-refused, going-not, going-sound}
use Rattle.search.specs.Answers.{MarksOf, seen_from, told_marked, entering}
use Rattle.search.specs.First.{Hit, ends_in, clear, whole_of, first_in, hitting, first_from, hitting_from, firsting, told_hit, Few}
use Rattle.search.specs.Step.{segment_pass}
use Rattle.search.specs.declared.marking.Marked.{Marked}
use Rattle.search.specs.declared.state.State.{State}
use Rattle.search.proofs.Entries.{Entered, entering-refused, entering-sound}
use Rattle.search.proofs.Passes.{segment-not}
use Rattle.search.proofs.Markings.{marks-not, marking-marks}
use Rattle.search.proofs.Searches.{Searching}
use Rattle.search.proofs.Stops.{hit-nowhere}

module _ (P : List ℕ) (st : ℕ) (s : List ℕ) where
  -- a stretch that does not open
  pub hit-closed : length s ≤ greatest_stretch → (j p : ℕ) → open_at s ≡ refused j p → hitting P st s ≡ refused j p
  unfolding hitting first_in whole_of marks_from first_end whole_stretch
  hit-closed short j p e = rw (e, stretch-is s short) (rw e refl)

  module _ (n : ℕ) (opens : open_at s ≡ ok n) where
    first-in : first_in P st s ≡ first_from P st s n 2
    unfolding first_in whole_of first_from
    first-in = rw opens refl

    -- the first hit of a stretch is that of its segments
    pub hit-from : length s ≤ greatest_stretch → hitting P st s ≡ hitting_from P st s n 2
    unfolding hitting hitting_from whole_stretch
    hit-from short = rw (first-in, stretch-is s short) (rw opens refl)

    -- the first end
    pub hit-ends : first_from P st s n 2 < none → hitting P st s ≡ ok (ends_in (first_from P st s n 2))
    unfolding hitting
    hit-ends l = rw (first-in, lt-ltb (first_from P st s n 2) none l) refl

-- and that of the walk over it
pub hit-walk : (P : List ℕ) (st : ℕ) (s : List ℕ) {w : Walk} → Opening s w → length s ≤ greatest_stretch
    → hitting P st s ≡ hitting_from P st s w.count w.at
hit-walk P st s {w} z short = hit-from P st s w.count z.opens short ∙ ap (hitting_from P st s w.count) (sym z.first)

-- what a run over n segments from `from` on promises of its answer and of the marks
abbrev pub Says : Bool → List ℕ → ℕ → List ℕ → ℕ → ℕ → Result (Marked State) Refusal → List ℕ → Type 0
Says stop P st s n from r buffer =
    (stop ≡ true → (told_hit r ≡ hitting_from P st s n from) × Few r)
    × ((stop ≡ false → told_marked r ≡ after (segments_of s n from) (λ t. ok (seen_from P st t)))
    × (stop ≡ false → MarksOf (marks_from P st) (segments_of s n from) buffer))

-- the run stands in its walk
module _ {stop : Bool} {P : List ℕ} {st : ℕ} {s : List ℕ} {n from : ℕ} {buffer : List ℕ} {w : Walk} {ones bits : ℕ}
    (q : Searching stop P st s n from buffer w ones bits) (most : min n ((length s - from) / 3) ≤ none) where
  -- where it goes no further, and has met no end, it tells what is told of all
  nowhere : (w.passed ≡ n) ⊎ ((j : ℕ) × (p : ℕ) × (segment_at s w.at ≡ refused j p)) → stop ≡ true
      → hitting_from P st s n from ≡ after (segments_of s n from) (λ t. ok (clear (run P st t)))
  nowhere last stops =
      let go = q.walk.go in
      hit-nowhere P st s n from w.passed q.seen w.at go.sum.walk go.few last
      (omega (arith, most, go.far, go.sum.inside, go.few)) (sym q.walk.ones ∙ q.clear stops)

  refuses : (w.passed ≡ n) ⊎ ((j : ℕ) × (p : ℕ) × (segment_at s w.at ≡ refused j p)) → (f : Refusal)
      → segments_of s n from ≡ refused f.number f.place → Says stop P st s n from (Err f) buffer
  refuses last f e = (
    λ stops. (sym (nowhere last stops ∙ ap (λ (o : Outcome Text). after o (λ t. ok (clear (run P st t)))) e), tt),
    (λ _. sym (ap (λ (o : Outcome Text). after o (λ t. ok (seen_from P st t))) e), λ _. marks-not (marks_from P st) _ _ _ buffer e),
  )

  -- the next segment is refused
  pub says-refused : w.passed < n → (f : Refusal) → segment_pass P bits s w.at ≡ refused f.number f.place
      → Says stop P st s n from (Err f) buffer
  says-refused l f e =
      let wrong = segment-not P bits s w.at _ _ e in
      refuses (inr (f.number, f.place, wrong)) f (going-refused q.walk.go l wrong)

  -- after the last
  all : n ≤ w.passed → w.passed ≡ n
  all done = omega (arith, done, q.walk.go.few)

  module _ (done : n ≤ w.passed) {v : Result (Unit {0}) Refusal} (told : outcome v ≡ end_at s w) where
    pub says-left : (f : Refusal) → v ≡ Err f → Says stop P st s n from (Err f) buffer
    says-left f is = refuses (inl (all done)) f (going-not q.walk.go done told is)

    pub says-sound : v ≡ Ok tt → (reached : State) → reached.bits ≡ bits
        → Says stop P st s n from (Ok (record { segments = w.passed; size = w.size; ends = ones; state = reached })) buffer
    unfolding seen_from size
    says-sound is reached same =
        let e = going-sound q.walk.go done told is in
        let state : reached.bits ≡ run P st q.seen = same ∙ q.state in (
          λ stops.
              let zero = q.clear stops in
              let hit : hitting_from P st s n from ≡ ok (clear reached.bits) =
              nowhere (inl (all done)) stops ∙ ap (λ (o : Outcome Text). after o (λ t. ok (clear (run P st t)))) e
              ∙ ap (λ (b : ℕ). ok (clear b)) (sym state) in
              (rw zero (sym hit), q.walk.few),
          (
            λ _. rw (e, going-length q.walk.go, ← q.walk.go.sum.sum, ← q.walk.ones, ← state) refl,
            marking-marks q.walk _ e,
          ),
        )

-- it stopped at an end in segment k
pub says-stopped : (stop : Bool) (P : List ℕ) (st : ℕ) (s : List ℕ) (n from : ℕ) (buffer : List ℕ) (k segments size ones : ℕ) (reached : State)
    → stop ≡ true → 0 < ones → ones ≤ segments → hitting_from P st s n from ≡ ok (ends_in k) → segments ≡ k + 1
    → Says stop P st s n from (Ok (record { segments = segments; size = size; ends = ones; state = reached })) buffer
says-stopped stop P st s n from buffer k segments size ones reached stops some few hit count =
    let there : eqb ones 0 ≡ false = ne_eqb ones 0 (λ z. let c : ⊥ = omega (arith, some, z) in c) in
    let place : segments - 1 ≡ k = omega arith in (
      λ _. (rw (there, place) (sym hit), few),
      (λ kept. absurd (false≢true (sym kept ∙ stops)), λ kept. absurd (false≢true (sym kept ∙ stops))),
    )

-- what a run that came to the end, or stopped, tells of the first hit
module _ {r : Result (Marked State) Refusal} {m : Marked State} (is : r ≡ Ok m) where
  pub told-clear : m.ends ≡ 0 → told_hit r ≡ ok (clear m.state.bits)
  told-clear e = rw (is, e) refl

  pub told-ends : (m.ends ≡ 0 → ⊥) → told_hit r ≡ ok (ends_in (m.segments - 1))
  told-ends some = let e = ne_eqb m.ends 0 some in rw (is, e) refl

  pub few-some : Few r → (m.ends ≡ 0 → ⊥) → 1 ≤ m.segments
  few-some few some = let l : m.ends ≤ m.segments = rw is at few in omega (arith, l, some)

-- the first hit of P as a strand reads it, Q, from what a run that stops says
module _ (P : List ℕ) (strand : Strand) (st : ℕ) (s : List ℕ) where
  pub first-not : (j p : ℕ) → entering P st s (ok (tt {0})) ≡ refused j p → firsting P strand st s ≡ refused j p
  unfolding firsting
  first-not j p e = entering-refused P st s j p e _

  module _ (Q : List ℕ) (is : Q ≡ on_strand strand P) (y : Entered P st s) (o : Outcome Hit) (e : o ≡ hitting Q st s) where
    pub first-is : firsting P strand st s ≡ o
    unfolding firsting
    first-is = entering-sound P st s y _ ∙ rw (← is) (sym e)
