-- The search on both strands: the union of what they mark, the run over segments that marks it, and what the search answers.
use Prim.Native.Nat.{ℕ, zero, suc, ◌+◌, ◌-◌, ◌/◌, ◌^◌, ◌≤◌, ◌<◌, min, max}
use native.Mathlib.Omega.{arith}
use mathlib.Core.Path.{◌≡◌, refl, sym, ap, ap₂, ◌∙◌}
use mathlib.Core.Logic.{◌⊎◌, inl, inr, ⊎_elim, ◌↔◌}
use mathlib.Core.Bool.{Bool, true, false, ◌||◌, cond}
use mathlib.Core.List.{List, [], ◌∷◌, ◌++◌}
use lib.Dec.{eqb}
use lib.ListN.{length, get_or, take, set}
use Rattle.text.specs.Text.{Segment, Text, segment, total, size}
use Rattle.text.specs.State.{is_state, fresh, next, ends, run, marks_from, marks}
use Rattle.text.specs.Refusal.{Outcome, ok, refused, demand, after, pattern, outcome}
use Rattle.text.specs.Strand.{opposite}
use Rattle.text.proofs.Outcomes.{ok-inj, after-after, after-demand, after-met, demand-met}
use Rattle.text.proofs.Marks.{marks-length, mark-at}
use Rattle.text.proofs.Folds.{run-snoc, marks-snoc}
use Rattle.text.proofs.Patterns.{pattern-sound}
use Rattle.layout.specs.Pieces.{fits_at}
use Rattle.layout.specs.Reading.{Taken, segments_of}
use Rattle.layout.specs.Walk.{passed_to, end_at, Begun}
use Rattle.std.specs.Prelude.{Result, Ok, Err}
use Rattle.layout.specs.declared.walk.Walk.{Walk}
use Rattle.layout.proofs.Frames.{stretch-is}
use Rattle.layout.proofs.Going.{going-length, going-refused, going-not, going-sound}
use Rattle.search.specs.Masks.{StateOf}
use Rattle.search.specs.Step.{Pass, told_passed, segment_pass}
use Rattle.search.specs.Answers.{entering, stretch_into, whole_into, searching, seeking, MarksOf, Sums, sums_marked}
use Rattle.search.specs.Either.{united, either_marks, either_sums, either_from, entering_both, seeking_both, SeenBoth, seen_both}
use Rattle.search.specs.Either.{sums_both, told_marked_both, passed_given, passed_opposite}
use Rattle.search.specs.declared.marking.Marked.{Marked}
use Rattle.text.specs.declared.refusal.Refusal.{Refusal}
use Rattle.search.specs.declared.both.words.Pair.{Pair}
use Rattle.search.specs.declared.both.segment.PassedBoth.{PassedBoth}
use Rattle.search.proofs.Entries.{Entered, entering-after, entering-refused, entering-sound, entering-pattern, entered, fresh-state}
use Rattle.search.proofs.Passes.{Stepped, segment-met, segment-not}
use Rattle.search.proofs.Markings.{Marking, marking-none, marking-room, marking-more, marking-marks, marks-not, Told}
use Rattle.search.proofs.Searches.{run-state, fresh-searching}

-- 1 for a mark of 1, and 0 for every other
abbrev pub one : ℕ → ℕ
one x = cond (eqb x 1) 1 0

-- rows of marks
pub united-length : (k l : List ℕ) → length k ≡ length l → length (united k l) ≡ length k
unfolding united
united-length [] l e = refl
united-length (a ∷ k) [] e = sym e
united-length (a ∷ k) (b ∷ l) e = ap suc (united-length k l (omega arith))

united-snoc : (k l : List ℕ) (a b : ℕ) → length k ≡ length l → united (k ++ (a ∷ [])) (l ++ (b ∷ [])) ≡ united k l ++ (max a b ∷ [])
unfolding united
united-snoc [] [] a b e = refl
united-snoc [] (d ∷ l) a b e = absurd (let z : ⊥ = omega arith in z)
united-snoc (c ∷ k) [] a b e = absurd (let z : ⊥ = omega arith in z)
united-snoc (c ∷ k) (d ∷ l) a b e = ap (λ (m : List ℕ). max c d ∷ m) (united-snoc k l a b (omega arith))

either-one : (a b : Bool) → max (cond a 1 0) (cond b 1 0) ≡ cond (a || b) 1 0
either-one true true = refl
either-one true false = refl
either-one false true = refl
either-one false false = refl

one_of : (a b : Bool) → (◌≡◌ {A = ℕ} (max (cond a 1 0) (cond b 1 0)) 1) ↔ ((◌≡◌ {A = ℕ} (cond a 1 0) 1) ⊎ (◌≡◌ {A = ℕ} (cond b 1 0) 1))
one_of true b = (λ e. inl refl, λ h. either-one true b)
one_of false true = (λ e. inr refl, λ h. refl)
one_of false false = (λ e. inl e, λ h. ⊎_elim (λ e. e) (λ e. e) h)

pub united-at : (k l : List ℕ) (j : ℕ) → length k ≡ length l → get_or (united k l) j 0 ≡ max (get_or k j 0) (get_or l j 0)
unfolding united
united-at [] [] j e = refl
united-at [] (b ∷ l) j e = absurd (let z : ⊥ = omega arith in z)
united-at (a ∷ k) [] j e = absurd (let z : ⊥ = omega arith in z)
united-at (a ∷ k) (b ∷ l) zero e = refl
united-at (a ∷ k) (b ∷ l) (suc j) e = united-at k l j (omega arith)

-- from two states on, segment by segment: 1 where an occurrence of either ends
pub united-marks : (P Q : List ℕ) (st re : ℕ) (g : Segment) (T : Text)
    → united (marks_from P st (g ∷ T)) (marks_from Q re (g ∷ T))
    ≡ cond (ends P st g || ends Q re g) 1 0 ∷ united (marks_from P (next P st g) T) (marks_from Q (next Q re g) T)
unfolding united marks_from
united-marks P Q st re g T =
    ap (λ (x : ℕ). x ∷ united (marks_from P (next P st g) T) (marks_from Q (next Q re g) T)) (either-one (ends P st g) (ends Q re g))

-- each of them is 0 or 1, so that their sum is the number of ones
united-ones : (P Q : List ℕ) (st re : ℕ) (T : Text)
    → total (λ x. x) (united (marks_from P st T) (marks_from Q re T)) ≡ total one (united (marks_from P st T) (marks_from Q re T))
unfolding united marks_from total
united-ones P Q st re [] = refl
united-ones P Q st re (g ∷ T) = ap₂ ◌+◌ (itself (ends P st g) (ends Q re g)) (united-ones P Q (next P st g) (next Q re g) T)
  where
    lone : (a : Bool) → cond a 1 0 ≡ one (cond a 1 0)
    lone true = refl
    lone false = refl

    itself : (a b : Bool) → max (cond a 1 0) (cond b 1 0) ≡ one (max (cond a 1 0) (cond b 1 0))
    itself a b = rw (either-one a b) (lone (a || b))

-- the union of what the two strands mark, from a state of each on
module _ (P : List ℕ) (st re : ℕ) where
  same_length : (t : Text) → length (marks_from P st t) ≡ length (marks_from (opposite P) re t)
  same_length t = marks-length P st t ∙ sym (marks-length (opposite P) re t)

  pub from-length : (t : Text) → length (either_from P st re t) ≡ length t
  unfolding either_from
  from-length t = united-length (marks_from P st t) (marks_from (opposite P) re t) (same_length t) ∙ marks-length P st t

  from-none : either_from P st re [] ≡ []
  unfolding either_from united marks_from
  from-none = refl

  from-snoc : (T : Text) (g : Segment)
      → either_from P st re (T ++ (g ∷ []))
      ≡ either_from P st re T ++ (cond (ends P (run P st T) g || ends (opposite P) (run (opposite P) re T) g) 1 0 ∷ [])
  unfolding either_from
  from-snoc T g =
      let a : Bool = ends P (run P st T) g in
      let b : Bool = ends (opposite P) (run (opposite P) re T) g in
      let k : List ℕ = marks_from P st T in
      let l : List ℕ = marks_from (opposite P) re T in
      ap₂ united (marks-snoc P st T g) (marks-snoc (opposite P) re T g) ∙ united-snoc k l (cond a 1 0) (cond b 1 0) (same_length T)
      ∙ ap (λ (x : ℕ). united k l ++ (x ∷ [])) (either-one a b)

  pub from-ones : (t : Text) → total (λ x. x) (either_from P st re t) ≡ total one (either_from P st re t)
  unfolding either_from
  from-ones t = united-ones P (opposite P) st re t

  -- segment j is marked where one of the two strands marks it
  pub from_at : (t : Text) (j : ℕ) → j < length t
      → (get_or (either_from P st re t) j 0 ≡ 1) ↔ ((get_or (marks_from P st t) j 0 ≡ 1) ⊎ (get_or (marks_from (opposite P) re t) j 0 ≡ 1))
  unfolding either_from
  from_at t j l =
      rw (
        united-at (marks_from P st t) (marks_from (opposite P) re t) j (same_length t),
        mark-at P st t j l,
        mark-at (opposite P) re t j l,
      )
      (one_of (ends P (run P st (take j t)) (segment t j)) (ends (opposite P) (run (opposite P) re (take j t)) (segment t j)))

-- from the fresh states
module _ (P : List ℕ) where
  pub from-fresh : (t : Text) → either_from P fresh fresh t ≡ either_marks P t
  unfolding either_from either_marks marks
  from-fresh t = refl

  pub either-length : (t : Text) → length (either_marks P t) ≡ length t
  either-length t = ap length (sym (from-fresh t)) ∙ from-length P fresh fresh t

  pub either-ones : (t : Text) → total (λ x. x) (either_marks P t) ≡ total one (either_marks P t)
  either-ones t = rw (from-fresh t) at (from-ones P fresh fresh t)

  pub either-at : (t : Text) (j : ℕ) → j < length t
      → (get_or (either_marks P t) j 0 ≡ 1) ↔ ((get_or (marks P t) j 0 ≡ 1) ⊎ (get_or (marks (opposite P) t) j 0 ≡ 1))
  unfolding either_from either_marks marks
  either-at t j l = from_at P fresh fresh t j l

-- what a step over a segment answers, strand by strand
module _ {r : Result PassedBoth Refusal} {x y : Outcome Pass} (own : told_passed (passed_given r) ≡ x) (turned : told_passed (passed_opposite r) ≡ y) where
  pub passed-not : {w : Refusal} → r ≡ Err w → x ≡ refused w.number w.place
  passed-not e = sym own ∙ ap (λ (z : Result PassedBoth Refusal). told_passed (passed_given z)) e

  module _ {p : PassedBoth} (e : r ≡ Ok p) where
    pub passed-own : x ≡ ok (record { next = p.next; size = p.size; state = p.state.given; ends = p.given })
    passed-own = sym own ∙ ap (λ (z : Result PassedBoth Refusal). told_passed (passed_given z)) e

    pub passed-turned : y ≡ ok (record { next = p.next; size = p.size; state = p.state.opposite; ends = p.opposite })
    passed-turned = sym turned ∙ ap (λ (z : Result PassedBoth Refusal). told_passed (passed_opposite z)) e

-- the segments of a walk have been searched on both strands, from the states st and re on
pub record Uniting (P : List ℕ) (st re : ℕ) (s : List ℕ) (n from : ℕ) (buffer : List ℕ) (w : Walk) (ends given other : ℕ) : Type 0 where
  pub seen : Text
  pub walk : Marking false (either_from P st re) s n from buffer seen w ends
  pub own : given ≡ run P st seen
  pub turned : other ≡ run (opposite P) re seen

pub uniting-none : (P : List ℕ) (st re : ℕ) (s buffer : List ℕ) (w : Walk) → Begun s w
    → Uniting P st re s w.count w.at buffer w 0 st re
unfolding run
uniting-none P st re s buffer w b =
    record { seen = []; walk = marking-none false (either_from P st re) s buffer w (from-none P st re) b; own = refl; turned = refl }

-- what a run over n segments from `from` on promises of its answer and of the marks
abbrev pub Says : List ℕ → ℕ → ℕ → List ℕ → ℕ → ℕ → Outcome SeenBoth → List ℕ → Type 0
Says P st re s n from told buffer =
    (told ≡ after (segments_of s n from) (λ t. ok (seen_both P st re t))) × MarksOf (either_from P st re) (segments_of s n from) buffer

module _ {P : List ℕ} {st re : ℕ} {s : List ℕ} {n from : ℕ} {buffer : List ℕ} {w : Walk} {ones given other : ℕ}
    (q : Uniting P st re s n from buffer w ones given other) where
  -- the states are those of the two strands
  pub uniting-own : 0 < length P → StateOf P st → StateOf P given
  uniting-own some h = rw q.own (run-state P st q.seen some h)

  pub uniting-turned : 0 < length (opposite P) → StateOf (opposite P) re → StateOf (opposite P) other
  uniting-turned some h = rw q.turned (run-state (opposite P) re q.seen some h)

  module _ {behind more reached further : ℕ} {hit back : Bool}
      (e : segment_pass P given s w.at ≡ ok (record { next = behind; size = more; state = reached; ends = hit }))
      (f : segment_pass (opposite P) other s w.at ≡ ok (record { next = behind; size = more; state = further; ends = back }))
      (l : w.passed < n) where
    met : Stepped P given s w.at behind more reached hit
    met = segment-met P given s w.at behind more reached hit e

    faced : Stepped (opposite P) other s w.at behind more further back
    faced = segment-met (opposite P) other s w.at behind more further back f

    -- both strands have read the same segment
    g : Segment
    g = met.segment

    same : faced.segment ≡ g
    unfolding g
    same = ap (λ (x : Taken Segment ℕ). x.value) (ok-inj (sym faced.read ∙ met.read))

    -- there is room for its mark
    pub uniting-room : min n ((length s - from) / 3) ≤ length buffer → w.passed < length buffer
    uniting-room = marking-room q.walk met.read met.size l

    last : either_from P st re (q.seen ++ (g ∷ [])) ≡ either_from P st re q.seen ++ (cond (hit || back) 1 0 ∷ [])
    unfolding g
    last =
        let here : ends P (run P st q.seen) g ≡ hit = ap (λ (n : ℕ). ends P n g) (sym q.own) ∙ met.end in
        let there : ends (opposite P) (run (opposite P) re q.seen) g ≡ back =
        ap₂ (λ (n : ℕ) (h : Segment). ends (opposite P) n h) (sym q.turned) (sym same) ∙ faced.end in
        from-snoc P st re q.seen g ∙ ap₂ (λ (a b : Bool). either_from P st re q.seen ++ (cond (a || b) 1 0 ∷ [])) here there

    -- the mark that the code writes for the segment
    pub uniting-more : (mark : ℕ) → mark ≡ cond (hit || back) 1 0 → w.passed < length buffer → length s < 2 ^ 64 → {v : Walk}
        → v ≡ passed_to w behind more → Uniting P st re s n from (set buffer w.passed mark) v (ones + mark) reached further
    unfolding g
    uniting-more mark is room fits on =
        record {
          seen = q.seen ++ (g ∷ []);
          walk = marking-more q.walk met.read met.size l (hit || back) last mark is fits on (λ _. room);
          own = sym met.state ∙ ap (λ (n : ℕ). next P n g) q.own ∙ sym (run-snoc P st q.seen g);
          turned =
              sym faced.state ∙ ap₂ (λ (n : ℕ) (h : Segment). next (opposite P) n h) q.turned same
              ∙ sym (run-snoc (opposite P) re q.seen g);
        }

  refuses : (j p : ℕ) → segments_of s n from ≡ refused j p → Says P st re s n from (refused j p) buffer
  refuses j p e =
      (sym (ap (λ (o : Outcome Text). after o (λ t. ok (seen_both P st re t))) e), marks-not (either_from P st re) _ j p buffer e)

  pub uniting-refused : w.passed < n → (j p : ℕ) → segment_pass P given s w.at ≡ refused j p
      → Says P st re s n from (refused j p) buffer
  uniting-refused l j p e = refuses j p (going-refused q.walk.go l (segment-not P given s w.at j p e))

  -- after the last
  module _ (done : n ≤ w.passed) {v : Result (Unit {0}) Refusal} (told : outcome v ≡ end_at s w) where
    pub uniting-left : {f : Refusal} → v ≡ Err f → Says P st re s n from (refused f.number f.place) buffer
    uniting-left {f} is = refuses f.number f.place (going-not q.walk.go done told is)

    pub uniting-sound : v ≡ Ok tt
        → Says P st re s n from
        (ok (record { segments = w.passed; size = w.size; ends = ones; given = given; opposite = other })) buffer
    unfolding seen_both size
    uniting-sound is =
        let e = going-sound q.walk.go done told is in
        let go = q.walk.go in (
          rw (e, going-length go, ← go.sum.sum, ← q.walk.ones, ← q.own, ← q.turned) refl,
          marking-marks q.walk _ e refl,
        )

-- what the search tells of a text
pub both-segments : (P : List ℕ) (st re : ℕ) (t : Text) → (seen_both P st re t).segments ≡ length t
unfolding seen_both
both-segments P st re t = refl

-- a call from a state of each strand that may go on
pub record EnteredBoth (P : List ℕ) (st re : ℕ) (s : List ℕ) : Type 0 where
  pub own : Entered P st s
  pub turned : is_state (length P) re ≡ true

module _ (P : List ℕ) (st re : ℕ) (s : List ℕ) where
  -- what is asked first is asked before all else
  pub both-after : {A : Type 0} (o : Outcome A) → entering_both P st re s o ≡ after (entering_both P st re s (ok (tt {0}))) (λ _. o)
  unfolding entering_both entering pattern fits_at
  both-after o = simp after-demand

  pub both-entered : entering_both P st re s (ok (tt {0})) ≡ ok tt → EnteredBoth P st re s
  unfolding entering_both
  both-entered e =
      let a = after-met (entering P st s (ok (tt {0}))) (λ _. demand (is_state (length P) re) 17 0 (ok tt)) tt
      (sym (entering-after P st s (demand (is_state (length P) re) 17 0 (ok (tt {0})))) ∙ e) in
      record { own = entered P st s a.1; turned = (demand-met (is_state (length P) re) 17 0 (ok tt) tt a.2).0 }

  pub both-refused : (j p : ℕ) → entering P st s (ok (tt {0})) ≡ refused j p → {A : Type 0} (o : Outcome A)
      → entering_both P st re s o ≡ refused j p
  unfolding entering_both
  both-refused j p e o = entering-refused P st s j p e (demand (is_state (length P) re) 17 0 o)

  module _ (y : Entered P st s) where
    pub both-wrong : is_state (length P) re ≡ false → {A : Type 0} (o : Outcome A) → entering_both P st re s o ≡ refused 17 0
    unfolding entering_both
    both-wrong e o = entering-sound P st s y (demand (is_state (length P) re) 17 0 o) ∙ rw e

    pub both-sound : is_state (length P) re ≡ true → {A : Type 0} (o : Outcome A) → entering_both P st re s o ≡ o
    unfolding entering_both
    both-sound e o = entering-sound P st s y (demand (is_state (length P) re) 17 0 o) ∙ rw e

  -- where it accepts, the searches of the two strands accept, with the same text
  pub both-strands : (room : ℕ) (t : Text) → seeking_both P st re s room ≡ ok t
      → (seeking P st s room ≡ ok t) × (seeking P re s room ≡ ok t)
  unfolding seeking_both seeking
  both-strands room t e =
      let (_, f, g) = after-met (entering_both P st re s (ok (tt {0}))) (λ _. stretch_into s room) t
      (sym (both-after (stretch_into s room)) ∙ e) in
      let y = both-entered f in
      let turned : Entered P re s = record { sound = y.own.sound; short = y.own.short; state = y.turned } in (
        entering-sound P st s y.own (stretch_into s room) ∙ g,
        entering-sound P re s turned (stretch_into s room) ∙ g,
      )

  -- what a search from a state of each strand answers
  module _ (out : List ℕ) where
    pub both-seek-not : (j p : ℕ) → entering_both P st re s (ok (tt {0})) ≡ refused j p
        → Told (seen_both P st re) (either_from P st re) out (seeking_both P st re s (length out)) (refused j p) out
    unfolding seeking_both
    both-seek-not j p e =
        let none : entering_both P st re s (stretch_into s (length out)) ≡ refused j p = both-after (stretch_into s (length out)) ∙ rw e in
        rw none (refl, refl)

    pub both-seek-sound : EnteredBoth P st re s → (told : Outcome SeenBoth) (left : List ℕ)
        → Told (seen_both P st re) (either_from P st re) out (whole_into s (length out)) told left
        → Told (seen_both P st re) (either_from P st re) out (seeking_both P st re s (length out)) told left
    unfolding seeking_both
    both-seek-sound y told left h =
        rw (both-sound y.own y.turned (stretch_into s (length out)), stretch-is s y.own.short) h

-- a result without the states after the text
pub both-sums : (m : Result (Marked Pair) Refusal) → after (outcome m) (λ x. ok (sums_marked x)) ≡ after (told_marked_both m) (λ x. ok (sums_both x))
both-sums (Ok m) = refl
both-sums (Err r) = refl

-- a search from the fresh states is a search
module _ (P s out : List ℕ) where
  fresh-both : seeking_both P fresh fresh s (length out) ≡ seeking P fresh s (length out)
  unfolding seeking_both entering_both seeking
  fresh-both = go (pattern P (ok (tt {0}))) refl
    where
      go : (o : Outcome (Unit {0})) → pattern P (ok (tt {0})) ≡ o
          → entering P fresh s (demand (is_state (length P) fresh) 17 0 (stretch_into s (length out)))
          ≡ entering P fresh s (stretch_into s (length out))
      go (ok t) e = rw (fresh-state P (pattern-sound P e).some)
      go (refused j p) e =
          entering-pattern P fresh s j p e (demand (is_state (length P) fresh) 17 0 (stretch_into s (length out)))
          ∙ sym (entering-pattern P fresh s j p e (stretch_into s (length out)))

  pub both-fresh : (told : Outcome SeenBoth) (said : Outcome Sums) (left : List ℕ)
      → Told (seen_both P fresh fresh) (either_from P fresh fresh) out (seeking_both P fresh fresh s (length out)) told left
      → said ≡ after told (λ x. ok (sums_both x))
      → Told (either_sums P) (either_marks P) out (searching P s (length out)) said left
  unfolding either_sums either_marks seen_both either_from marks
  both-fresh told said left h e =
      let o : Outcome Text = seeking_both P fresh fresh s (length out) in
      let same : o ≡ searching P s (length out) = fresh-both ∙ fresh-searching P P s out in
      let sums : said ≡ after o (λ t. ok (sums_both (seen_both P fresh fresh t))) =
      e ∙ ap (λ (k : Outcome SeenBoth). after k (λ x. ok (sums_both x))) h.0
      ∙ after-after o (λ t. ok (seen_both P fresh fresh t)) (λ x. ok (sums_both x)) in
      let all : Told (λ t. sums_both (seen_both P fresh fresh t)) (either_from P fresh fresh) out o said left = (sums, h.1) in
      rw same at all
