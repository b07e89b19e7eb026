-- One more stretch up to the first end: what both strands say of it, from what each of them says, and what the plain search says.
use Prim.Native.Nat.{ℕ, zero, suc, ◌+◌, ◌≤◌, ◌<◌, min}
use native.Mathlib.Omega.{arith}
use native.Mathlib.Decide.{dec_lt}
use mathlib.Core.Path.{◌≡◌, refl, sym, ap, ap₂, ◌∙◌}
use mathlib.Core.Logic.{⊎_elim, by_cases}
use mathlib.Core.Bool.{Bool, true, false, cond, false≢true}
use mathlib.Core.List.{List, [], ◌∷◌}
use mathlib.Core.List.Memᴰ
use mathlib.Core.List.{Memᴰ}
use borrow.Author.Tests.{eq-eqb, ne_eqb, lt-ltb, ltb-true, le-leb}
use lib.Dec.{eqb, ltb, leb}
use lib.ListN.{length}
use Rattle.std.proofs.Common.{Option, Some, None}
use Rattle.text.specs.Text.{Text}
use Rattle.text.specs.State.{is_state, next, ends, run, marks_from}
use Rattle.text.specs.Card.{none, later, first_end}
use Rattle.text.specs.Strand.{opposite, on_strand}
use Rattle.text.specs.Refusal.{Outcome, ok, refused, after, SoundPattern}
use Rattle.text.specs.declared.strand.Strand.{Strand}
use Rattle.text.specs.declared.strand.Strand.TheVariants.{Given, Opposite}
use Rattle.text.proofs.Outcomes.{ok-inj, refused-ok, demand-met, after-met}
use Rattle.text.proofs.Ends.{first_end-le, first_end-end, first_end-mark}
use Rattle.layout.specs.Bytes.{greatest_stretch, word_at}
use Rattle.layout.specs.Pieces.{open_at, closed_at, most_in_stretch}
use Rattle.layout.specs.Reading.{segment_at, many, segments_of, whole_stretch, stretch_of}
use Rattle.layout.proofs.Frames.{open-stated}
use Rattle.layout.proofs.Walks.{many-length}
use Rattle.layout.proofs.Stretches.{stretch-most}
use Rattle.search.specs.Answers.{entering, into, stretch_into}
use Rattle.search.specs.Either.{united, either_from, seeking_both}
use Rattle.search.specs.declared.both.words.Pair.{Pair}
use Rattle.search.specs.First.{Hit, ends_in, clear, whole, whole_of, first_in, hitting, firsting}
use Rattle.search.proofs.Entries.{Entered, entered, entering-after, entering-sound, entering-over}
use Rattle.search.proofs.Eithers.{from-length, both-sound}
use Rattle.search.proofs.Stops.{whole-walk}
use Rattle.lines.specs.Answer.{marked_from}
use Rattle.lines.proofs.Named.{is-named}
use Rattle.desk_verdict.specs.Standing.{plus, passing, both_marks, stood, stands}
use Rattle.desk_verdict.specs.First.{earlier, on_both, at, goes, ended, gone, halted, halting, halts}
use Rattle.desk_verdict.specs.declared.first.Heard.{Heard}
use Rattle.desk_verdict.specs.declared.first.Stopped.{Stopped}
use Rattle.desk_verdict.specs.declared.standing.Standing.{Standing}
use Rattle.desk_verdict.proofs.Standings.{both-sought}

-- a sound stretch: all of it reads whole, and it states its count
pub record Reads (s : List ℕ) (t : Text) : Type 0 where
  pub states : word_at s 0 ≡ length t
  pub all : whole_of s ≡ t

pub reads_whole : (s : List ℕ) (t : Text) → stretch_of s ≡ ok t → Reads s t
unfolding stretch_of whole_stretch segments_of whole_of whole
reads_whole s t e =
    let (_, sound) = demand-met (leb (length s) greatest_stretch) 4 0 (whole_stretch s) t e in
    let (n, opens, more) = after-met (open_at s) (λ n. segments_of s n 2) t sound in
    let (x, read, rest) = after-met (many (λ _. segment_at s) n [] 2) (λ x. after (closed_at s x.next n) λ _. ok x.value) t more in
    let (_, _, same) = after-met (closed_at s x.next n) (λ _. ok x.value) t rest in
    let is : x.value ≡ t = ok-inj same in
    let count : n ≡ length t = omega (arith, many-length (λ _. segment_at s) n [] 2 x read, ap length is) in
    let none_more : n + 0 ≡ n = omega arith in
    let walked = rw none_more at (whole-walk (λ _. segment_at s) n 0 [] 2 x read) in
    record { states = open-stated s n opens ∙ count; all = rw opens (walked ∙ is) }

-- the marks of both strands: the earlier of their first ends
pub united-first : (P Q : List ℕ) (st re : ℕ) (T : Text)
    → first_end (united (marks_from P st T) (marks_from Q re T)) ≡ min (first_end (marks_from P st T)) (first_end (marks_from Q re T))
unfolding marks_from united first_end later
united-first P Q st re [] = refl
united-first P Q st re (g ∷ T) =
    go (ends P st g) (ends Q re g) _ _ _ (united-first P Q (next P st g) (next Q re g) T)
  where
    go : (b c : Bool) (u k l : ℕ) → u ≡ min k l
        → cond (eqb (Prim.Native.Nat.max (cond b 1 0) (cond c 1 0)) 1) 0 (min none (1 + u))
        ≡ min (cond (eqb (cond b 1 0) 1) 0 (min none (1 + k))) (cond (eqb (cond c 1 0) 1) 0 (min none (1 + l)))
    go true true u k l e = omega arith
    go true false u k l e = omega arith
    go false true u k l e = omega arith
    go false false u k l e = omega (arith, e)

-- a list that names something is not empty
pub some-named : {j : ℕ} (l : List ℕ) → Memᴰ j l → 0 < length l
some-named [] m = absurd (Memᴰ.not-nil m)
some-named (a ∷ l) m = omega arith

-- nothing is counted exactly where there is no first end
pub count_none : (marks : List ℕ) → length (marked_from 0 marks) ≡ 0 → first_end marks ≡ none
count_none marks e =
    by_cases (dec_lt (first_end marks) none)
    (λ (l : first_end marks < none).
    let there = some-named (marked_from 0 marks) (is-named 0 marks (first_end marks) (first_end-mark marks l)) in
    absurd (let z : ⊥ = omega (arith, there, e) in z))
    (λ (l : ¬ (first_end marks < none)). let z : first_end marks ≡ none = omega (arith, first_end-le marks) in z)

pub none-count : (i : ℕ) (marks : List ℕ) → length marks < none → first_end marks ≡ none → length (marked_from i marks) ≡ 0
unfolding marked_from first_end later
none-count i [] l e = refl
none-count i (x ∷ xs) l e = go (eqb x 1) e (none-count (suc i) xs (omega arith))
  where
    go : (b : Bool) → cond b 0 (min none (1 + first_end xs)) ≡ none → (first_end xs ≡ none → length (marked_from (suc i) xs) ≡ 0)
        → length (cond b (i ∷ marked_from (suc i) xs) (marked_from (suc i) xs)) ≡ 0
    go true h more = absurd (let z : ⊥ = omega (arith, h) in z)
    go false h more =
        let rest : first_end xs ≡ none =
        ⊎_elim (λ (z : first_end xs ≡ none). z) (λ (z : first_end xs < length xs). absurd (let y : ⊥ = omega (arith, h, l, z) in y))
        (first_end-end xs) in
        more rest

-- the segment in which a strand says that an end is, or "none"
abbrev pub end_of : Outcome Hit → ℕ
end_of (ok (ends_in k)) = k
end_of (ok (clear st)) = none
end_of (refused n p) = none

-- what two strands say that end nowhere
earlier-nowhere : (o k : Outcome Hit) (y : Pair) → earlier o k ≡ ok (Heard.Nowhere y) → (o ≡ ok (clear y.given)) × (k ≡ ok (clear y.opposite))
earlier-nowhere (ok (ends_in i)) (ok (ends_in j)) y e = absurd cc
earlier-nowhere (ok (ends_in i)) (ok (clear d)) y e = absurd cc
earlier-nowhere (ok (ends_in i)) (refused n p) y e = absurd cc
earlier-nowhere (ok (clear c)) (ok (ends_in j)) y e = absurd cc
earlier-nowhere (ok (clear c)) (ok (clear d)) y e =
    let is : record { given = c; opposite = d } ≡ y = cc in
    (ap (λ (z : Pair). ok (clear z.given)) is, ap (λ (z : Pair). ok (clear z.opposite)) is)
earlier-nowhere (ok (clear c)) (refused n p) y e = absurd (refused-ok n p (Heard.Nowhere y) e)
earlier-nowhere (refused n p) (ok (ends_in j)) y e = absurd cc
earlier-nowhere (refused n p) (ok (clear d)) y e = absurd (refused-ok n p (Heard.Nowhere y) e)
earlier-nowhere (refused n p) (refused m q) y e = absurd (refused-ok n p (Heard.Nowhere y) e)

-- what two strands say of which one ends
earlier-ends : (o k : Outcome Hit) (j : ℕ) → end_of o ≤ none → end_of k ≤ none → earlier o k ≡ ok (Heard.Ends j) → j ≡ min (end_of o) (end_of k)
earlier-ends (ok (ends_in a)) (ok (ends_in b)) j l m e = let z : min a b ≡ j = cc in sym z
earlier-ends (ok (ends_in a)) (ok (clear d)) j l m e = let z : a ≡ j = cc in omega (arith, z, l)
earlier-ends (ok (ends_in a)) (refused n p) j l m e = let z : a ≡ j = cc in omega (arith, z, l)
earlier-ends (ok (clear c)) (ok (ends_in b)) j l m e = let z : b ≡ j = cc in omega (arith, z, m)
earlier-ends (ok (clear c)) (ok (clear d)) j l m e = absurd cc
earlier-ends (ok (clear c)) (refused n p) j l m e = absurd (refused-ok n p (Heard.Ends j) e)
earlier-ends (refused n p) (ok (ends_in b)) j l m e = let z : b ≡ j = cc in omega (arith, z, m)
earlier-ends (refused n p) (ok (clear d)) j l m e = absurd (refused-ok n p (Heard.Ends j) e)
earlier-ends (refused n p) (refused i q) j l m e = absurd (refused-ok n p (Heard.Ends j) e)

earlier-small : (o k : Outcome Hit) (j : ℕ) → ((i : ℕ) → o ≡ ok (ends_in i) → i < none) → ((i : ℕ) → k ≡ ok (ends_in i) → i < none)
    → earlier o k ≡ ok (Heard.Ends j) → j < none
earlier-small (ok (ends_in a)) (ok (ends_in b)) j f g e = let z : min a b ≡ j = cc in omega (arith, z, f a refl)
earlier-small (ok (ends_in a)) (ok (clear d)) j f g e = let z : a ≡ j = cc in omega (arith, z, f a refl)
earlier-small (ok (ends_in a)) (refused n p) j f g e = let z : a ≡ j = cc in omega (arith, z, f a refl)
earlier-small (ok (clear c)) (ok (ends_in b)) j f g e = let z : b ≡ j = cc in omega (arith, z, g b refl)
earlier-small (ok (clear c)) (ok (clear d)) j f g e = absurd cc
earlier-small (ok (clear c)) (refused n p) j f g e = absurd (refused-ok n p (Heard.Ends j) e)
earlier-small (refused n p) (ok (ends_in b)) j f g e = let z : b ≡ j = cc in omega (arith, z, g b refl)
earlier-small (refused n p) (ok (clear d)) j f g e = absurd (refused-ok n p (Heard.Ends j) e)
earlier-small (refused n p) (refused i q) j f g e = absurd (refused-ok n p (Heard.Ends j) e)

-- what the strand says of P from a state, of a stretch that may be asked about
module _ (P : List ℕ) (strand : Strand) (st : ℕ) (s : List ℕ) where
  hit-end : (b : Bool) (k : ℕ) (o : Outcome Hit) → ltb k none ≡ b → k ≤ none → end_of o ≡ none → end_of (cond b (ok (ends_in k)) o) ≡ k
  hit-end true k o e l h = refl
  hit-end false k o e l h =
      by_cases (dec_lt k none)
      (λ (m : k < none). absurd (false≢true (sym e ∙ lt-ltb k none m)))
      (λ (m : ¬ (k < none)). let z : k ≡ none = omega arith in h ∙ sym z)

  clear-end : (Q : List ℕ) (o : Outcome Text) → end_of (after o (λ t. ok (clear (run Q st t)))) ≡ none
  clear-end Q (ok t) = refl
  clear-end Q (refused n p) = refl

  -- the first end of what reads whole
  pub said-end : Entered P st s → end_of (firsting P strand st s) ≡ first_in (on_strand strand P) st s
  unfolding firsting hitting first_in
  said-end y =
      let Q : List ℕ = on_strand strand P in
      ap end_of (entering-sound P st s y _)
      ∙ hit-end (ltb (first_in Q st s) none) (first_in Q st s) _ refl (first_end-le (marks_from Q st (whole_of s))) (clear-end Q (stretch_of s))

  -- an answer is had only of what may be asked about
  pub said-entered : (h : Hit) → firsting P strand st s ≡ ok h → Entered P st s × (hitting (on_strand strand P) st s ≡ ok h)
  unfolding firsting
  said-entered h e =
      let (_, f, g) = after-met (entering P st s (ok (tt {0}))) (λ _. hitting (on_strand strand P) st s) h
      (sym (entering-after P st s (hitting (on_strand strand P) st s)) ∙ e) in
      (entered P st s f, g)

  hit-clear : (b : Bool) (k a : ℕ) (o : Outcome Hit) → cond b (ok (ends_in k)) o ≡ ok (clear a) → o ≡ ok (clear a)
  hit-clear true k a o e = absurd cc
  hit-clear false k a o e = e

  hit-small : (b : Bool) (k j : ℕ) (o : Outcome Text) (Q : List ℕ) → ltb k none ≡ b
      → cond b (ok (ends_in k)) (after o λ t. ok (clear (run Q st t))) ≡ ok (ends_in j) → j < none
  hit-small true k j o Q e h = let z : k ≡ j = cc in (let y : j < none = omega (arith, z, ltb-true k none e) in y)
  hit-small false k j (ok t) Q e h = absurd cc
  hit-small false k j (refused n p) Q e h = absurd (refused-ok n p (ends_in j) h)

  -- an end is a segment's number
  pub said-small : (j : ℕ) → firsting P strand st s ≡ ok (ends_in j) → j < none
  unfolding hitting
  said-small j e =
      let Q : List ℕ = on_strand strand P in
      hit-small (ltb (first_in Q st s) none) (first_in Q st s) j (stretch_of s) Q refl (said-entered (ends_in j) e).1

  -- nothing ends: the stretch is sound, and the state is the one after it
  pub said-clear : (a : ℕ) → firsting P strand st s ≡ ok (clear a) → (t : Text) × (stretch_of s ≡ ok t) × (run (on_strand strand P) st t ≡ a)
  unfolding hitting
  said-clear a e =
      let Q : List ℕ = on_strand strand P in
      let read = hit-clear (ltb (first_in Q st s) none) (first_in Q st s) a _ (said-entered (clear a) e).1 in
      let (t, sound, same) = after-met (stretch_of s) (λ t. ok (clear (run Q st t))) (clear a) read in
      (t, sound, state-is (ok-inj same))
    where
      state-is : {k j : ℕ} → clear k ≡ clear j → k ≡ j
      state-is h = cc

  pub clear-said : (t : Text) → Entered P st s → stretch_of s ≡ ok t → first_in (on_strand strand P) st s ≡ none
      → firsting P strand st s ≡ ok (clear (run (on_strand strand P) st t))
  unfolding firsting hitting
  clear-said t y sound e = entering-sound P st s y _ ∙ rw (e, sound) refl

-- a mark for each segment
both_long : (P : List ℕ) (x : Standing) (t : Text) → length (both_marks P x t) ≡ length t
unfolding both_marks
both_long P x t = from-length P x.state.given x.state.opposite t

module _ (P : List ℕ) (x : Standing) (s : List ℕ) where
  -- a sequence that has ended stays where it stands
  pub halting-stays : (x.ends ≡ 0 → ⊥) → ok (goes x) ≡ halting P x s
  unfolding halting
  halting-stays e = rw (ne_eqb x.ends 0 e) refl

  -- one that has not, by what both strands say
  pub halting-on : x.ends ≡ 0 → after (on_both P x s) (λ h. ok (halted x s h)) ≡ halting P x s
  unfolding halting
  halting-on e = rw (eq-eqb x.ends 0 e) refl

  -- where both strands say that nothing ends
  module _ (z : Pair) (own : firsting P Given x.state.given s ≡ ok (clear z.given))
      (turned : firsting P Opposite x.state.opposite s ≡ ok (clear z.opposite)) where
    pub nothing_ends : (y : Standing) → x.ends ≡ 0 → gone x z (word_at s 0) ≡ y
        → (t : Text) × (passing P x s most_in_stretch ≡ ok t) × (y ≡ stood P x t) × (y.ends ≡ 0)
    unfolding passing seeking_both into stood both_marks either_from plus first_in
    nothing_ends y e rest =
        let (t, sound, state) = said-clear P Given x.state.given s z.given own in
        let (u, again, back) = said-clear P Opposite x.state.opposite s z.opposite turned in
        let same : u ≡ t = ok-inj (sym again ∙ sound) in
        let r = reads_whole s t sound in
        let room : leb (length t) most_in_stretch ≡ true = le-leb (length t) most_in_stretch (stretch-most s t sound) in
        let x1 = (said-entered P Given x.state.given s (clear z.given) own).0 in
        let x2 = (said-entered P Opposite x.state.opposite s (clear z.opposite) turned).0 in
        let opens = both-sound P x.state.given x.state.opposite s x1 x2.state (stretch_into s most_in_stretch) in
        let n1 : first_end (marks_from P x.state.given t) ≡ none =
        ap (λ (T : Text). first_end (marks_from P x.state.given T)) (sym r.all)
        ∙ sym (said-end P Given x.state.given s x1) ∙ ap end_of own in
        let n2 : first_end (marks_from (opposite P) x.state.opposite t) ≡ none =
        ap (λ (T : Text). first_end (marks_from (opposite P) x.state.opposite T)) (sym r.all)
        ∙ sym (said-end P Opposite x.state.opposite s x2) ∙ ap end_of turned in
        let few : length (both_marks P x t) < none = omega (arith, both_long P x t, stretch-most s t sound) in
        let zero-ends : length (marked_from 0 (both_marks P x t)) ≡ 0 =
        none-count 0 (both_marks P x t) few (united-first P (opposite P) x.state.given x.state.opposite t ∙ ap₂ min n1 n2) in
        let counted : 0 ≡ plus x.ends (length (marked_from 0 (both_marks P x t))) = omega (arith, e, zero-ends) in
        let is : gone x z (length t) ≡ y = sym (ap (gone x z) r.states) ∙ rest in
        let other : run (opposite P) x.state.opposite t ≡ z.opposite = ap (run (opposite P) x.state.opposite) (sym same) ∙ back in (
          t,
          rw (opens, sound, room) refl,
          sym is
              ∙ (λ i.
              record {
                state = record { given = sym state i; opposite = sym other i };
                segments = plus x.segments (length t);
                ends = counted i;
              }),
          sym (ap (λ (w : Standing). w.ends) is),
        )

  -- nothing ends: the plain search accepts the stretch, and the sequence stands where that leads
  pub goes-stood : x.ends ≡ 0 → (y : Standing) → halting P x s ≡ ok (goes y)
      → (t : Text) × (passing P x s most_in_stretch ≡ ok t) × (y ≡ stood P x t) × (y.ends ≡ 0)
  unfolding on_both
  goes-stood e y met =
      let (h, heard, rest) = after-met (on_both P x s) (λ h. ok (halted x s h)) (goes y) (halting-on e ∙ met) in
      go h heard (ok-inj rest)
    where
      go : (h : Heard) → on_both P x s ≡ ok h → halted x s h ≡ goes y
          → (t : Text) × (passing P x s most_in_stretch ≡ ok t) × (y ≡ stood P x t) × (y.ends ≡ 0)
      go (Heard.Ends k) heard rest = let ends : Some k ≡ None = ap (λ (h : Stopped). h.end) rest in absurd cc
      go (Heard.Nowhere z) heard rest =
          let (own, turned) = earlier-nowhere (firsting P Given x.state.given s) (firsting P Opposite x.state.opposite s) z heard in
          nothing_ends z own turned y e (ap (λ (h : Stopped). h.standing) rest)

  -- where the plain search finds nothing, nothing ends
  pub stood-goes : (t : Text) → passing P x s most_in_stretch ≡ ok t → x.ends ≡ 0 → (stood P x t).ends ≡ 0
      → halting P x s ≡ ok (goes (stood P x t))
  unfolding passing stood plus both_marks either_from on_both first_in
  stood-goes t met e zero-ends =
      let (x1, x2, sound, _) = both-sought P x.state.given x.state.opposite s most_in_stretch t met in
      let r = reads_whole s t sound in
      let count : length (marked_from 0 (both_marks P x t)) ≡ 0 = omega (arith, zero-ends) in
      let both : min (first_end (marks_from P x.state.given t)) (first_end (marks_from (opposite P) x.state.opposite t)) ≡ none =
      sym (united-first P (opposite P) x.state.given x.state.opposite t) ∙ count_none (both_marks P x t) count in
      let n1 : first_end (marks_from P x.state.given t) ≡ none = omega (arith, both, first_end-le (marks_from P x.state.given t)) in
      let n2 : first_end (marks_from (opposite P) x.state.opposite t) ≡ none =
      omega (arith, both, first_end-le (marks_from (opposite P) x.state.opposite t)) in
      let c1 =
      clear-said P Given x.state.given s t x1 sound (ap (λ (T : Text). first_end (marks_from P x.state.given T)) r.all ∙ n1) in
      let c2 =
      clear-said P Opposite x.state.opposite s t x2 sound
      (ap (λ (T : Text). first_end (marks_from (opposite P) x.state.opposite T)) r.all ∙ n2) in
      let a : ℕ = run P x.state.given t in
      let b : ℕ = run (opposite P) x.state.opposite t in
      let z : Pair = record { given = a; opposite = b } in
      let heard : on_both P x s ≡ ok (Heard.Nowhere z) = ap₂ earlier c1 c2 in
      let counted : 0 ≡ plus x.ends (length (marked_from 0 (both_marks P x t))) = sym zero-ends in
      sym (halting-on e) ∙ ap (λ (o : Outcome Heard). after o (λ h. ok (halted x s h))) heard
      ∙ ap (λ (n : ℕ). ok (goes (gone x z n))) r.states
      ∙ (λ i.
      let segments : ℕ = plus x.segments (length t) in
      ok (goes (record { state = z; segments = segments; ends = counted i })))

  -- an end: both strands say that it is there
  pub at-heard : x.ends ≡ 0 → (k : ℕ) (y : Standing) → halting P x s ≡ ok (at k y) → (on_both P x s ≡ ok (Heard.Ends k)) × (y ≡ ended x k)
  at-heard e k y met =
      let (h, heard, rest) = after-met (on_both P x s) (λ h. ok (halted x s h)) (at k y) (halting-on e ∙ met) in
      go h heard (ok-inj rest)
    where
      go : (h : Heard) → on_both P x s ≡ ok h → halted x s h ≡ at k y → (on_both P x s ≡ ok (Heard.Ends k)) × (y ≡ ended x k)
      go (Heard.Ends j) heard rest =
          let both : Some j ≡ Some k = ap (λ (h : Stopped). h.end) rest in
          let same : j ≡ k = cc in
          (heard ∙ ap (λ (i : ℕ). ok (Heard.Ends i)) same, sym (ap (λ (h : Stopped). h.standing) rest) ∙ ap (ended x) same)
      go (Heard.Nowhere z) heard rest = let ends : None ≡ Some k = ap (λ (h : Stopped). h.end) rest in absurd cc

  -- and it is the first of what reads whole
  pub at_first : SoundPattern P → is_state (length P) x.state.given ≡ true → is_state (length P) x.state.opposite ≡ true
      → (k : ℕ) → on_both P x s ≡ ok (Heard.Ends k) → (k ≡ first_end (both_marks P x (whole_of s))) × (k < none)
  unfolding on_both both_marks either_from first_in firsting
  at_first sound i j k heard =
      by_cases (dec_lt greatest_stretch (length s))
      (λ (long : greatest_stretch < length s).
      let own = entering-over P x.state.given s sound long (hitting P x.state.given s) in
      let turned = entering-over P x.state.opposite s sound long (hitting (opposite P) x.state.opposite s) in
      absurd (refused-ok 4 0 (Heard.Ends k) (sym (ap₂ earlier own turned) ∙ heard)))
      (λ (short : ¬ (greatest_stretch < length s)).
      let fits : length s ≤ greatest_stretch = omega arith in
      let e1 = said-end P Given x.state.given s (record { sound = sound; short = fits; state = i }) in
      let e2 = said-end P Opposite x.state.opposite s (record { sound = sound; short = fits; state = j }) in
      let l1 : end_of (firsting P Given x.state.given s) ≤ none =
      omega (arith, e1, first_end-le (marks_from P x.state.given (whole_of s))) in
      let l2 : end_of (firsting P Opposite x.state.opposite s) ≤ none =
      omega (arith, e2, first_end-le (marks_from (opposite P) x.state.opposite (whole_of s))) in (
        earlier-ends (firsting P Given x.state.given s) (firsting P Opposite x.state.opposite s) k l1 l2 heard ∙ ap₂ min e1 e2
            ∙ sym (united-first P (opposite P) x.state.given x.state.opposite (whole_of s)),
        earlier-small (firsting P Given x.state.given s) (firsting P Opposite x.state.opposite s) k
            (said-small P Given x.state.given s) (said-small P Opposite x.state.opposite s) heard,
      ))

ends-before : (P : List ℕ) (x : Standing) (t : Text) → (stood P x t).ends ≡ 0 → x.ends ≡ 0
unfolding stood plus
ends-before P x t e = omega (arith, e)

-- stretches one after another: of a sequence that has ended nothing more is read
pub halts-stay : (P : List ℕ) (x : Standing) (ss : List (List ℕ)) → (x.ends ≡ 0 → ⊥) → halts P x ss ≡ ok x
unfolding halts
halts-stay P x [] e = refl
halts-stay P x (s ∷ ss) e =
    ap (λ (o : Outcome Stopped). after o (λ h. halts P h.standing ss)) (sym (halting-stays P x s e)) ∙ halts-stay P x ss e

-- where nothing has ended, the plain search has come to the same
pub halts-stands : (P : List ℕ) (x : Standing) (ss : List (List ℕ)) (y : Standing) → x.ends ≡ 0 → halts P x ss ≡ ok y → y.ends ≡ 0
    → stands P x ss ≡ ok y
unfolding halts stands
halts-stands P x [] y e met none-there = met
halts-stands P x (s ∷ ss) y e met none-there =
    let (h, here, more) = after-met (halting P x s) (λ h. halts P h.standing ss) y met in
    go h.end h.standing here more (λ z. halts-stands P z ss y)
  where
    go : (k : Option ℕ) (z : Standing) → halting P x s ≡ ok (record { end = k; standing = z }) → halts P z ss ≡ ok y
        → ((z : Standing) → z.ends ≡ 0 → halts P z ss ≡ ok y → y.ends ≡ 0 → stands P z ss ≡ ok y)
        → after (passing P x s most_in_stretch) (λ t. stands P (stood P x t) ss) ≡ ok y
    go (Some k) z here more rest =
        let is : z ≡ ended x k = (at-heard P x s e k z here).1 in
        let one : z.ends ≡ 1 = ap (λ (w : Standing). w.ends) is in
        let some : z.ends ≡ 0 → ⊥ = λ n. (let u : ⊥ = omega (arith, one, n) in u) in
        let same : z ≡ y = ok-inj (sym (halts-stay P z ss some) ∙ more) in
        absurd (some (ap (λ (w : Standing). w.ends) same ∙ none-there))
    go None z here more rest =
        let (t, passed, is, zero-ends) = goes-stood P x s e z here in
        ap (λ (o : Outcome Text). after o (λ t. stands P (stood P x t) ss)) passed
        ∙ ap (λ (w : Standing). stands P w ss) (sym is)
        ∙ rest z zero-ends more none-there

-- and where the plain search has found nothing, nothing has ended
pub stands-halts : (P : List ℕ) (x : Standing) (ss : List (List ℕ)) (y : Standing) → stands P x ss ≡ ok y → y.ends ≡ 0
    → (x.ends ≡ 0) × (halts P x ss ≡ ok y)
unfolding halts stands
stands-halts P x [] y met none-there = (ap (λ (z : Standing). z.ends) (ok-inj met) ∙ none-there, met)
stands-halts P x (s ∷ ss) y met none-there =
    let (t, here, more) = after-met (passing P x s most_in_stretch) (λ t. stands P (stood P x t) ss) y met in
    let (zero-ends, rest) = stands-halts P (stood P x t) ss y more none-there in
    let e : x.ends ≡ 0 = ends-before P x t zero-ends in
    (e, ap (λ (o : Outcome Stopped). after o (λ h. halts P h.standing ss)) (stood-goes P x s t here e zero-ends) ∙ rest)
