-- What this crate proves of its calls, theorem by theorem: read this file first. `searching`, `seeking`, `feeding`, `firsting` and what is
-- told of them are what the contracts say of the calls' answers.
use Prim.Native.Nat.{ℕ, ◌+◌, ◌≤◌, ◌<◌}
use mathlib.Core.Path.{◌≡◌, refl, sym, ap, ◌∙◌}
use mathlib.Core.Logic.{◌⊎◌, inl, inr, ⊎_elim, ◌↔◌, by_cases}
use native.Mathlib.Decide.{ℕ_discrete}
use mathlib.Core.Bool.{true}
use mathlib.Core.List.{List, [], ◌∷◌, ◌++◌, map}
use lib.ListN.{length, get_or, drop, take, get_or-append}
use Rattle.text.specs.Text.{Segment, Text, total}
use Rattle.text.specs.Occurrence.{EndsIn, CarriedOut}
use Rattle.text.specs.Bits.{bit}
use Rattle.text.specs.State.{is_state, fresh, ends, run, marks_from, marks}
use Rattle.text.specs.Refusal.{Outcome, ok, refused, after, SoundPattern}
use Rattle.text.specs.Strand.{opposite, on_strand}
use Rattle.text.specs.declared.strand.Strand.{Strand}
use Rattle.text.specs.declared.strand.Strand.TheVariants.{Given, Opposite}
use Rattle.text.proofs.Strands.{opposite-length, strand-length, strand-sound}
use Rattle.text.proofs.Outcomes.{ok-inj}
use Rattle.text.proofs.Marks.{marks-length}
use Rattle.text.proofs.Occurrences.{marks-ends, state-carried}
use Rattle.layout.specs.Bytes.{greatest_stretch, over}
use Rattle.layout.specs.Pieces.{most_in_stretch}
use Rattle.layout.specs.Bytes.{left_by}
use Rattle.layout.specs.Reading.{Taken, many, segment_at, stretch_of}
use Rattle.search.specs.Answers.{Next, sums_of, searching, seeking, seen_from, told_searched}
use Rattle.search.specs.Either.{either_marks, either_sums, either_from, seeking_both, seen_both}
use Rattle.search.specs.First.{ends_in, clear, firsting}
use Rattle.search.specs.Chain.{segments_text, feeds, mark_of, stretches_text, Trail, seeks, asks}
use Rattle.search.specs.declared.searching.Searched.{Searched}
use Rattle.search.proofs.Entries.{Entered, entering-sound, fresh-state}
use Rattle.search.proofs.Told.{searched-once}
use Rattle.search.proofs.Eithers.{one, either-length, either-ones, either-at, from-length, from_at, both-strands}
use Rattle.search.proofs.Chains.{steps, feeds-steps, steps-marks, steps-states, seeks-text}
use Rattle.search.proofs.FirstHits.{hit_of, Reads, hit-first, hit-fault, first-sound, asks-clear, asks-ends, zeros-at, ones_none}
use Rattle.search.proofs.FirstHits.{ends-clear}
use Rattle.search.proofs.Fronts.{front_read, front-alike}

-- the byte that a search of an accepted text leaves for segment j is its mark
left_at : (f : Text → List ℕ) (o : Outcome Text) (out : List ℕ) (t : Text) (j : ℕ) → o ≡ ok t → j < length (f t)
    → get_or (left_by f o out) j 0 ≡ get_or (f t) j 0
unfolding over
left_at f o out t j e l = rw e (get_or-append (f t) (drop (0 + length (f t)) out) 0 j l)

-- the byte that an accepted search leaves for segment j is 1 exactly when an occurrence ends there
pub search-marks : (P : List ℕ) (strand : Strand) (s out : List ℕ) (t : Text) (j : ℕ) → 0 < length P → searching P s (length out) ≡ ok t
    → j < length t
    → (get_or (left_by (marks (on_strand strand P)) (searching P s (length out)) out) j 0 ≡ 1) ↔ EndsIn (on_strand strand P) t j
unfolding marks
search-marks P strand s out t j some e l =
    let Q : List ℕ = on_strand strand P in
    let inside : j < length (marks Q t) = rw (marks-length Q fresh t) l in
    let more : 0 < length Q = rw (strand-length strand P) some in
    rw (left_at (marks Q) (searching P s (length out)) out t j e inside) (marks-ends Q t j more)

-- what both searches promise of their answer and of the buffer that they leave
abbrev pub Promised : List ℕ → Strand → List ℕ → List ℕ → Searched → List ℕ → Type 0
Promised P strand s out answer left =
    (told_searched answer ≡ after (searching P s (length out)) (λ t. ok (sums_of (on_strand strand P) t)))
    × (left ≡ left_by (marks (on_strand strand P)) (searching P s (length out)) out)

-- so they give the same answer and the same marks on every input
pub searches-agree : (P : List ℕ) (strand : Strand) (s out : List ℕ) (a b : Searched) (left left' : List ℕ) → Promised P strand s out a left
    → Promised P strand s out b left' → (a ≡ b) × (left ≡ left')
searches-agree P strand s out a b left left' p q = (searched-once a b (p.0 ∙ sym q.0), p.1 ∙ sym q.1)

-- what the search on both strands promises of its answer and of the buffer that it leaves
abbrev pub PromisedEither : List ℕ → List ℕ → List ℕ → Searched → List ℕ → Type 0
PromisedEither P s out answer left =
    (told_searched answer ≡ after (searching P s (length out)) (λ t. ok (either_sums P t)))
    × (left ≡ left_by (either_marks P) (searching P s (length out)) out)

-- it refuses where the searches of the two strands refuse, with the same number and place, and changes nothing
pub either-refuses : (P : List ℕ) (strand : Strand) (s out : List ℕ) (a c : Searched) (left both : List ℕ) → Promised P strand s out a left
    → PromisedEither P s out c both → (n p : ℕ) → searching P s (length out) ≡ refused n p → (c ≡ a) × (both ≡ out)
either-refuses P strand s out a c left both p q n k e =
    let one : told_searched a ≡ refused n k = rw e at p.0 in
    let two : told_searched c ≡ refused n k = rw e at q.0 in
    let same : both ≡ out = rw e at q.1 in
    (searched-once c a (two ∙ sym one), same)

-- else the marks that it leaves are the union of those that the search leaves on the strand as given and on the opposite one
pub either-unites : (P s out : List ℕ) (a b c : Searched) (given turned both : List ℕ) → Promised P Given s out a given
    → Promised P Opposite s out b turned → PromisedEither P s out c both → (t : Text) → searching P s (length out) ≡ ok t → (j : ℕ)
    → j < length t
    → (get_or both j 0 ≡ 1) ↔ ((get_or given j 0 ≡ 1) ⊎ (get_or turned j 0 ≡ 1))
unfolding marks
either-unites P s out a b c given turned both p q r t e j l =
    let o = searching P s (length out) in
    let own : j < length (marks P t) = rw (marks-length P fresh t) l in
    let other : j < length (marks (opposite P) t) = rw (marks-length (opposite P) fresh t) l in
    let all : j < length (either_marks P t) = rw (either-length P t) l in
    rw (
      p.1,
      q.1,
      r.1,
      left_at (marks P) o out t j e own,
      left_at (marks (opposite P)) o out t j e other,
      left_at (either_marks P) o out t j e all,
    )
    (either-at P t j l)

-- so the byte for segment j is 1 exactly when an occurrence of the pattern or of its opposite ends there
pub either-marks : (P s out : List ℕ) (t : Text) (j : ℕ) → 0 < length P → searching P s (length out) ≡ ok t → j < length t
    → (get_or (left_by (either_marks P) (searching P s (length out)) out) j 0 ≡ 1) ↔ (EndsIn P t j ⊎ EndsIn (opposite P) t j)
either-marks P s out t j some e l =
    let all : j < length (either_marks P t) = rw (either-length P t) l in
    let more : 0 < length (opposite P) = rw (opposite-length P) some in
    let own : (get_or (marks P t) j 0 ≡ 1) ↔ EndsIn P t j = marks-ends P t j some in
    let other : (get_or (marks (opposite P) t) j 0 ≡ 1) ↔ EndsIn (opposite P) t j = marks-ends (opposite P) t j more in
    let at = either-at P t j l in
    rw (left_at (either_marks P) (searching P s (length out)) out t j e all) (
      λ h. ⊎_elim (λ x. inl (own.0 x)) (λ x. inr (other.0 x)) (at.0 h),
      λ h. at.1 (⊎_elim (λ x. inl (own.1 x)) (λ x. inr (other.1 x)) h),
    )

-- the number that it tells is the number of segments marked 1: one in which both strands end counts once
pub either-ends : (P : List ℕ) (t : Text) → (either_sums P t).ends ≡ total one (either_marks P t)
unfolding either_sums
either-ends P t = either-ones P t

-- from a state of each strand: the marks that it leaves are the union of those that the searches of the strands leave from these states
pub both-unites : (P s out : List ℕ) (st re : ℕ) (t : Text) → seeking_both P st re s (length out) ≡ ok t → (j : ℕ) → j < length t
    → (get_or (left_by (either_from P st re) (seeking_both P st re s (length out)) out) j 0 ≡ 1)
    ↔ ((get_or (left_by (marks_from P st) (seeking P st s (length out)) out) j 0 ≡ 1)
    ⊎ (get_or (left_by (marks_from (opposite P) re) (seeking P re s (length out)) out) j 0 ≡ 1))
both-unites P s out st re t e j l =
    let (own, turned) = both-strands P st re s (length out) t e in
    let here : j < length (marks_from P st t) = rw (marks-length P st t) l in
    let there : j < length (marks_from (opposite P) re t) = rw (marks-length (opposite P) re t) l in
    let all : j < length (either_from P st re t) = rw (from-length P st re t) l in
    rw (
      left_at (either_from P st re) (seeking_both P st re s (length out)) out t j e all,
      left_at (marks_from P st) (seeking P st s (length out)) out t j own here,
      left_at (marks_from (opposite P) re) (seeking P re s (length out)) out t j turned there,
    )
    (from_at P st re t j l)

-- and so are the states that it tells
pub both-states : (P : List ℕ) (st re : ℕ) (t : Text)
    → ((seen_both P st re t).given ≡ (seen_from P st t).state) × ((seen_both P st re t).opposite ≡ (seen_from (opposite P) re t).state)
unfolding seen_both seen_from
both-states P st re t = (refl, refl)

-- what feeding lone segments one by one from the fresh state gives, for a text T of any length
pub record Feeds (P : List ℕ) (strand : Strand) (ss : List (List ℕ)) (T : Text) : Type 0 where
  pub answers : List Next
  pub accepted : feeds P strand fresh ss ≡ ok answers
  pub ends : (j : ℕ) → j < length T → (get_or (map mark_of answers) j 0 ≡ 1) ↔ EndsIn (on_strand strand P) T j
  pub carried : (j r : ℕ) → j < length T → 0 < r → r < length P
      → (bit (get_or (map (λ x. x.state) answers) j 0) r ≡ true) ↔ CarriedOut (on_strand strand P) T j r

-- feeding any row of sound lone segments, of any number, gives exactly Grossi's ends and the lengths carried out
pub feeds-text : (P : List ℕ) (strand : Strand) (ss : List (List ℕ)) (T : Text) → SoundPattern P → segments_text ss ≡ ok T
    → Feeds P strand ss T
unfolding marks
feeds-text P strand ss T y e =
    let Q : List ℕ = on_strand strand P in
    let z : SoundPattern Q = strand-sound strand P y in
    record {
      answers = steps Q z fresh T;
      accepted = feeds-steps P strand y fresh ss T (fresh-state P y.some) e;
      ends = λ j l. rw (steps-marks Q z fresh T) (marks-ends Q T j z.some);
      carried = λ j r l some short. rw (steps-states Q z fresh T j l) (state-carried Q T j r some (rw (strand-length strand P) short) l);
    }

-- stretches of any number, searched one after another with the state handed on: their marks laid end to end are the marks of their
-- texts laid end to end, and the state is that after them all; from the fresh state these are Grossi's ends, across every cut
pub seeks-stretches : (P : List ℕ) (strand : Strand) (st room : ℕ) (ss : List (List ℕ)) (T : Text) → SoundPattern P
    → is_state (length P) st ≡ true
    → most_in_stretch ≤ room → stretches_text ss ≡ ok T
    → seeks P strand st room ss ≡ ok (record { marks = marks_from (on_strand strand P) st T; state = run (on_strand strand P) st T })
seeks-stretches P strand st room ss T y i roomy e = seeks-text P strand y room roomy st ss T i e

-- so mark j of the searches is 1 exactly when an occurrence ends in segment j of the whole text
pub seeks-ends : (P : List ℕ) (strand : Strand) (room : ℕ) (ss : List (List ℕ)) (T : Text) (x : Trail) (j : ℕ) → SoundPattern P
    → most_in_stretch ≤ room → stretches_text ss ≡ ok T → seeks P strand fresh room ss ≡ ok x
    → (get_or x.marks j 0 ≡ 1) ↔ EndsIn (on_strand strand P) T j
unfolding marks
seeks-ends P strand room ss T x j y roomy e f =
    let all = seeks-stretches P strand fresh room ss T y (fresh-state P y.some) roomy e in
    rw (ap (λ (z : Trail). z.marks) (ok-inj (sym f ∙ all))) (marks-ends (on_strand strand P) T j (strand-sound strand P y).some)

-- the first hit of a sound stretch is the first one among the marks that a search from the same state leaves; where it leaves none, it
-- is "none", and the state after the stretch
pub first_marks : (P : List ℕ) (strand : Strand) (st : ℕ) (s : List ℕ) (t : Text) → SoundPattern P → is_state (length P) st ≡ true
    → stretch_of s ≡ ok t
    → firsting P strand st s ≡ ok (hit_of (marks_from (on_strand strand P) st t) (run (on_strand strand P) st t))
first_marks P strand st s t y i e = first-sound P strand y st s t i e

-- a segment that reads whole, in which an occurrence ends and in none before it, is the first hit, whatever stands after it
pub first-beats-fault : (P : List ℕ) (strand : Strand) (st : ℕ) (s : List ℕ) (n k : ℕ) (T : Text) (g : Segment) (behind : ℕ)
    → Entered P st s
    → Reads s n (k + 1) (T ++ (g ∷ [])) behind → length T ≡ k → total (λ x. x) (marks_from (on_strand strand P) st T) ≡ 0
    → ends (on_strand strand P) (run (on_strand strand P) st T) g ≡ true → firsting P strand st s ≡ ok (ends_in k)
unfolding firsting
first-beats-fault P strand st s n k T g behind y r long zeros hit =
    entering-sound P st s y _ ∙ hit-first (on_strand strand P) st s n k T behind g behind r long zeros hit

-- a fault before any end, inside the segment in which one would end too, is the answer
pub fault-beats-first : (P : List ℕ) (strand : Strand) (st : ℕ) (s : List ℕ) (n k : ℕ) (T : Text) (at j p : ℕ) → Entered P st s
    → Reads s n k T at → k < n → total (λ x. x) (marks_from (on_strand strand P) st T) ≡ 0 → segment_at s at ≡ refused j p
    → firsting P strand st s ≡ refused j p
unfolding firsting
fault-beats-first P strand st s n k T at j p y r l zeros wrong =
    entering-sound P st s y _ ∙ hit-fault (on_strand strand P) st s n k T at j p r l zeros wrong

-- the stretches of a text, asked in order from the fresh state, are clear exactly when no occurrence ends anywhere in the text
pub asks-text : (P : List ℕ) (strand : Strand) (ss : List (List ℕ)) (T : Text) → SoundPattern P → stretches_text ss ≡ ok T
    → (asks P strand fresh ss ≡ ok (clear (run (on_strand strand P) fresh T))) ↔ ((j : ℕ) → EndsIn (on_strand strand P) T j → ⊥)
unfolding marks
asks-text P strand ss T y e =
    let Q : List ℕ = on_strand strand P in
    let i = fresh-state P y.some in
    let at : (j : ℕ) → (get_or (marks_from Q fresh T) j 0 ≡ 1) ↔ EndsIn Q T j = λ j. marks-ends Q T j (strand-sound strand P y).some in (
      λ h j hit. by_cases (ℕ_discrete (total (λ x. x) (marks_from Q fresh T)) 0)
          (λ (zeros : total (λ x. x) (marks_from Q fresh T) ≡ 0). zeros-at (marks_from Q fresh T) zeros j ((at j).1 hit))
          (λ (some : ¬ (total (λ x. x) (marks_from Q fresh T) ≡ 0)).
          let one = asks-ends P strand y fresh ss T i e some in
          absurd (ends-clear _ _ (ok-inj (sym one.1 ∙ h)))),
      λ h. asks-clear P strand y fresh ss T i e (ones_none Q fresh T (λ j m. h j ((at j).0 m))),
    )

-- nothing is read after the segment of the first hit: the segments up to it read whole, and every stretch that begins with the same bytes
-- up to where they end has the same first hit, whatever stands there or whether anything does
module _ (P : List ℕ) (strand : Strand) (st : ℕ) (s : List ℕ) (k : ℕ) (e : firsting P strand st s ≡ ok (ends_in k)) where
  pub first_reads : (x : Taken Text ℕ) × (many (λ _. segment_at s) (k + 1) [] 2 ≡ ok x) × (x.next ≤ length s)
  first_reads = front_read P strand st s k e

  pub first-no-further : (x : Taken Text ℕ) → many (λ _. segment_at s) (k + 1) [] 2 ≡ ok x → (z : List ℕ) → length z ≤ greatest_stretch
      → take x.next z ≡ take x.next s → firsting P strand st z ≡ ok (ends_in k)
  first-no-further = front-alike P strand st s k e
