-- The run of a search over segments: state, marks and number of ones are those of the segments read; and what a search answers.
use Prim.Native.Nat.{ℕ, ◌+◌, ◌-◌, ◌/◌, ◌%◌, ◌^◌, ◌≤◌, ◌<◌, min}
use native.Mathlib.Decide.{dec_lt}
use native.Mathlib.Omega.{arith}
use mathlib.Core.Logic.{by_cases}
use mathlib.Core.Path.{◌≡◌, refl, sym, ap, ◌∙◌}
use mathlib.Core.Bool.{Bool, true, false, ◌&&◌, cond}
use mathlib.Core.List.{List, [], ◌∷◌, ◌++◌}
use borrow.Author.Tests.{eq-eqb, eqb-true}
use lib.ListN.{length, set, length-set, length-append}
use mir.Val.{bool_byte}
use Rattle.text.specs.Text.{Text}
use Rattle.text.specs.State.{next, ends, run, fresh, marks_from, marks}
use Rattle.std.specs.Prelude.{Result, Ok, Err}
use Rattle.text.specs.Refusal.{Outcome, ok, refused, after, pattern, SoundPattern, outcome}
use Rattle.text.specs.declared.refusal.Refusal.{Refusal}
use Rattle.search.specs.declared.marking.Marked.{Marked}
use Rattle.search.specs.declared.state.State.{State}
use Rattle.text.proofs.Outcomes.{after-after}
use Rattle.text.proofs.Patterns.{pattern-refused, pattern-sound, sound-pattern}
use Rattle.text.proofs.Bits.{bit-first}
use Rattle.text.proofs.Runs.{run-open, run-lt}
use Rattle.text.specs.Card.{none, first_end}
use Rattle.text.proofs.Folds.{run-snoc, marks-snoc}
use Rattle.text.proofs.Marks.{marks-length}
use Rattle.text.proofs.Truth.{and_left, and_right}
use Rattle.layout.specs.Bytes.{greatest_stretch}
use Rattle.layout.specs.Walk.{passed_to, Begun}
use Rattle.layout.specs.declared.walk.Walk.{Walk}
use Rattle.layout.proofs.Frames.{stretch-is}
use Rattle.layout.proofs.Stretches.{stretch-long}
use Rattle.layout.proofs.Going.{going-length, going-ahead}
use Rattle.search.specs.Masks.{StateOf}
use Rattle.search.specs.Step.{segment_pass}
use Rattle.search.specs.First.{ends_in, hitting_from}
use Rattle.search.specs.Answers.{Seen, seen_from, told_marked, Sums, sums, sums_marked, sums_of}
use Rattle.search.specs.Answers.{entering, into, stretch_into, whole_into, searching, seeking}
use Rattle.search.proofs.Entries.{Entered, fresh-state, entering-refused, entering-sound, entering-pattern, entering-over}
use Rattle.search.proofs.Passes.{Stepped, segment-met}
use Rattle.search.proofs.Markings.{Marking, marking-none, marking-room, marking-more, Told}
use Rattle.search.proofs.Stops.{no_ones, first-last, hit-here}

-- a mark as the code writes it
pub byte-mark : (b : Bool) → bool_byte b ≡ cond b 1 0
byte-mark true = refl
byte-mark false = refl

-- a run leads from state to state
pub run-state : (P : List ℕ) (st : ℕ) (T : Text) → 0 < length P → StateOf P st → StateOf P (run P st T)
run-state P st T some s =
    record {
      small = run-lt P st T s.small;
      odd = eqb-true (run P st T % 2) 1 (sym (bit-first (run P st T)) ∙ run-open P st T some ∙ bit-first st ∙ eq-eqb (st % 2) 1 s.odd);
    }

-- the segments of a walk have been searched, from the state st on; a search that stops has met no end
pub record Searching (stop : Bool) (P : List ℕ) (st : ℕ) (s : List ℕ) (n from : ℕ) (buffer : List ℕ) (w : Walk) (ends bits : ℕ) : Type 0 where
  pub seen : Text
  pub walk : Marking stop (marks_from P st) s n from buffer seen w ends
  pub state : bits ≡ run P st seen
  pub clear : stop ≡ true → ends ≡ 0

pub searching-none : (stop : Bool) (P : List ℕ) (st : ℕ) (s buffer : List ℕ) (w : Walk) → Begun s w
    → Searching stop P st s w.count w.at buffer w 0 st
unfolding run marks_from
searching-none stop P st s buffer w b =
    record { seen = []; walk = marking-none stop (marks_from P st) s buffer w refl b; state = refl; clear = λ _. refl }

module _ {stop : Bool} {P : List ℕ} {st : ℕ} {s : List ℕ} {n from : ℕ} {buffer : List ℕ} {w : Walk} {ones bits : ℕ}
    (q : Searching stop P st s n from buffer w ones bits) where
  -- the state is one of the pattern's
  pub searching-state : 0 < length P → StateOf P st → StateOf P bits
  searching-state some s = rw q.state (run-state P st q.seen some s)

  module _ {behind more reached : ℕ} {hit : Bool}
      (e : segment_pass P bits s w.at ≡ ok (record { next = behind; size = more; state = reached; ends = hit })) (l : w.passed < n) where
    abbrev pub met : Stepped P bits s w.at behind more reached hit
    met = segment-met P bits s w.at behind more reached hit e

    -- there is room for its mark
    pub searching-room : min n ((length s - from) / 3) ≤ length buffer → w.passed < length buffer
    searching-room = marking-room q.walk met.read met.size l

    -- the segment, and its mark
    module _ (mark : ℕ) (is : mark ≡ cond hit 1 0) (room : stop ≡ false → w.passed < length buffer)
        (left : List ℕ) (writes : left ≡ cond stop buffer (set buffer w.passed mark)) where
      last : marks_from P st (q.seen ++ (met.segment ∷ [])) ≡ marks_from P st q.seen ++ (cond hit 1 0 ∷ [])
      last =
          let end : ends P (run P st q.seen) met.segment ≡ hit =
          ap (λ (n : ℕ). ends P n met.segment) (sym q.state) ∙ met.end in
          marks-snoc P st q.seen met.segment ∙ ap (λ (b : Bool). marks_from P st q.seen ++ (cond b 1 0 ∷ [])) end

      pub searching-length : length left ≡ length buffer
      searching-length = ap length writes ∙ go stop
        where
          go : (b : Bool) → length (cond b buffer (set buffer w.passed mark)) ≡ length buffer
          go true = refl
          go false = length-set buffer w.passed mark

      onward : reached ≡ run P st (q.seen ++ (met.segment ∷ []))
      onward =
          sym met.state ∙ ap (λ (b : ℕ). next P b met.segment) q.state ∙ sym (run-snoc P st q.seen met.segment)

      module _ (fits : length s < 2 ^ 64) {v : Walk} (f : v ≡ passed_to w behind more) where
        pub searching-walk : Marking stop (marks_from P st) s n from left (q.seen ++ (met.segment ∷ [])) v (ones + mark)
        searching-walk = rw writes (marking-more q.walk met.read met.size l hit last mark is fits f room)

        -- where nothing ends in it, or the run does not stop, it goes on
        pub searching-more : (stop && hit) ≡ false → Searching stop P st s n from left v (ones + mark) reached
        searching-more goes =
            record {
              seen = q.seen ++ (met.segment ∷ []);
              walk = searching-walk;
              state = onward;
              clear = λ stops.
                  let unmarked : hit ≡ false = rw stops at goes in
                  let zero : mark ≡ 0 = is ∙ ap (λ (b : Bool). cond b 1 0) unmarked in
                  omega (arith, q.clear stops, zero);
            }

        -- else it is the first end
        pub searching-stopped : min n ((length s - from) / 3) ≤ none → (stop && hit) ≡ true
            → (stop ≡ true) × (0 < ones + mark) × (hitting_from P st s n from ≡ ok (ends_in w.passed)) × (v.passed ≡ w.passed + 1)
        searching-stopped most stops =
            let stopped = and_left stop hit stops in
            let hits = and_right stop hit stops in
            let seen = q.seen in
            let go = searching-walk.go in
            let long = marks-length P st seen ∙ going-length q.walk.go in
            let few = going-ahead q.walk.go met.read met.size l in
            let one : v.passed ≡ w.passed + 1 =
            omega (arith, going-length go, going-length q.walk.go, length-append seen (met.segment ∷ [])) in
            let unmarked = no_ones P st seen (omega (arith, going-length q.walk.go, few, most))
            (sym q.walk.ones ∙ q.clear stopped) in
            let first = first-last (marks_from P st seen) w.passed unmarked long (omega (arith, few, most)) in
            let ended = ap first_end (last ∙ ap (λ (h : Bool). marks_from P st seen ++ (cond h 1 0 ∷ [])) hits) ∙ first in
            let mark-is : mark ≡ 1 = is ∙ ap (λ (h : Bool). cond h 1 0) hits in (
              stopped,
              omega (arith, mark-is),
              hit-here P st s n from v.passed _ v.at go.sum.walk go.few w.passed (omega (arith, one)) ended
                  (omega (arith, few, most)),
              one,
            )

-- a result without the state after the text
pub sums-one : (m : Result (Marked State) Refusal) → after (outcome m) (λ x. ok (sums_marked x)) ≡ after (told_marked m) (λ x. ok (sums x))
sums-one (Ok m) = refl
sums-one (Err r) = refl

-- what a search tells of a text
module _ (P : List ℕ) (st : ℕ) where
  pub seen-segments : (t : Text) → (seen_from P st t).segments ≡ length t
  unfolding seen_from
  seen-segments t = refl

-- a search from a state, of P as a strand reads it: Q
module _ (P Q : List ℕ) (st : ℕ) (s out : List ℕ) where
  pub seek-not : (j p : ℕ) → entering P st s (ok (tt {0})) ≡ refused j p
      → Told (seen_from Q st) (marks_from Q st) out (seeking P st s (length out)) (refused j p) out
  unfolding seeking
  seek-not j p e = rw (entering-refused P st s j p e (stretch_into s (length out))) (refl, refl)

  pub seek-sound : Entered P st s → (R : List ℕ) → R ≡ Q → (told : Outcome Seen) (left : List ℕ)
      → Told (seen_from R st) (marks_from R st) out (whole_into s (length out)) told left
      → Told (seen_from Q st) (marks_from Q st) out (seeking P st s (length out)) told left
  unfolding seeking
  seek-sound y R is told left h =
      rw (entering-sound P st s y (stretch_into s (length out)), stretch-is s y.short, ← is) h

-- a search of P as a strand reads it: Q
module _ (P Q s out : List ℕ) where
  -- what it says of the state after the text is left out
  summed : (o : Outcome Text) (told : Outcome Seen) (said : Outcome Sums) (left : List ℕ)
      → Told (seen_from Q fresh) (marks_from Q fresh) out o told left
      → said ≡ after told (λ x. ok (sums x)) → Told (sums_of Q) (marks Q) out o said left
  unfolding sums_of marks
  summed o told said left h e = (
    e ∙ ap (λ (k : Outcome Seen). after k (λ x. ok (sums x))) h.0
        ∙ after-after o (λ t. ok (seen_from Q fresh t)) (λ x. ok (sums x)),
    h.1,
  )

  long-refused : greatest_stretch < length s → stretch_into s (length out) ≡ refused 4 0
  unfolding into
  long-refused l = rw (stretch-long s l)

  seek-fresh : SoundPattern P → seeking P fresh s (length out) ≡ stretch_into s (length out)
  unfolding seeking
  seek-fresh y =
      by_cases (dec_lt greatest_stretch (length s))
      (λ (l : greatest_stretch < length s). entering-over P fresh s y l (stretch_into s (length out)) ∙ sym (long-refused l))
      (λ (l : ¬ (greatest_stretch < length s)).
      let short : length s ≤ greatest_stretch = omega arith in
      entering-sound P fresh s (record { sound = y; short = short; state = fresh-state P y.some }) (stretch_into s (length out)))

  -- a search from the fresh state is a search
  pub fresh-searching : seeking P fresh s (length out) ≡ searching P s (length out)
  unfolding searching seeking
  fresh-searching = go (pattern P (ok (tt {0}))) refl
    where
      go : (o : Outcome (Unit {0})) → pattern P (ok (tt {0})) ≡ o
          → entering P fresh s (stretch_into s (length out)) ≡ pattern P (stretch_into s (length out))
      go (ok t) e = let y = pattern-sound P e in seek-fresh y ∙ sym (sound-pattern P y (stretch_into s (length out)))
      go (refused j p) e =
          entering-pattern P fresh s j p e (stretch_into s (length out)) ∙ sym (pattern-refused P j p e (stretch_into s (length out)))

  pub fresh-marked : (told : Outcome Seen) (said : Outcome Sums) (left : List ℕ)
      → Told (seen_from Q fresh) (marks_from Q fresh) out (seeking P fresh s (length out)) told left → said ≡ after told (λ x. ok (sums x))
      → Told (sums_of Q) (marks Q) out (searching P s (length out)) said left
  fresh-marked told said left h e = rw fresh-searching at (summed (seeking P fresh s (length out)) told said left h e)
