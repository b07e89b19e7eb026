-- One more stretch on both strands, from what the search tells and the marks that it leaves.
use Prim.Native.Nat.{ℕ, suc, ◌≤◌}
use native.Mathlib.Omega.{arith}
use mathlib.Core.Path.{◌≡◌, refl, sym, ap, ◌∙◌}
use mathlib.Core.Bool.{Bool, true, false, ◌||◌, cond}
use mathlib.Core.List.{List, [], ◌∷◌}
use borrow.Author.Tests.{leb-true}
use lib.Dec.{leb}
use lib.ListN.{length}
use Rattle.std.proofs.Common.{Result, Ok}
use Rattle.text.specs.Text.{Text, total}
use Rattle.text.specs.State.{next, ends, run, marks_from}
use Rattle.text.specs.Strand.{opposite}
use Rattle.text.specs.Refusal.{Outcome, ok, refused, demand, after}
use Rattle.text.specs.declared.refusal.Refusal.{Refusal}
use Rattle.text.proofs.Outcomes.{ok-inj, after-met, demand-met, told-met, told-refused}
use Rattle.layout.specs.Bytes.{left_by}
use Rattle.layout.specs.Reading.{stretch_of}
use Rattle.search.specs.Answers.{into, stretch_into}
use Rattle.search.specs.Either.{united, either_from, entering_both, seeking_both, SeenBoth, seen_both, told_both}
use Rattle.search.specs.declared.both.words.Pair.{Pair}
use Rattle.search.specs.declared.both.SoughtBoth.{SoughtBoth}
use Rattle.search.specs.declared.both.SoughtBoth.TheVariants.{Marked, Refused}
use Rattle.search.proofs.Entries.{Entered}
use Rattle.search.proofs.Eithers.{united-marks, both-after, both-entered}
use Rattle.lines.specs.Answer.{marked_from}
use Rattle.text.specs.Refusal.{outcome}
use Rattle.desk_verdict.specs.Standing.{plus, passing, both_marks, stood, behind}
use Rattle.desk_verdict.specs.declared.standing.Standing.{Standing}
use Rattle.desk_verdict.specs.declared.standing.Passed.{Passed}

-- what an accepted search has found of its pattern, of a state of each strand and of its stretch, and that there was room for its marks
pub both-sought : (P : List ℕ) (st re : ℕ) (s : List ℕ) (room : ℕ) (t : Text) → seeking_both P st re s room ≡ ok t
    → Entered P st s × Entered P re s × (stretch_of s ≡ ok t) × (length t ≤ room)
unfolding seeking_both into
both-sought P st re s room t e =
    let (_, f, g) = after-met (entering_both P st re s (ok (tt {0}))) (λ _. stretch_into s room) t
    (sym (both-after P st re s (stretch_into s room)) ∙ e) in
    let (u, h, k) = after-met (stretch_of s) (λ x. demand (leb (length x) room) 10 0 (ok x)) t g in
    let (fit, same) = demand-met (leb (length u) room) 10 0 (ok u) t k in
    let few : length u ≤ room = leb-true (length u) room fit in
    let y = both-entered P st re s f in
    let turned : Entered P re s = record { sound = y.own.sound; short = y.own.short; state = y.turned } in
    (y.own, turned, h ∙ same, rw (ok-inj same) at few)

-- an accepted stretch has no more segments than there is room for marks
pub passed-room : (P : List ℕ) (x : Standing) (s : List ℕ) (room : ℕ) {r : Result Passed Refusal} {y : Passed}
    → outcome r ≡ after (passing P x s room) (λ t. ok (behind P x t)) → r ≡ Ok y → y.segments ≤ room
unfolding passing
passed-room P x s room {r} {y} met e =
    let (t, sound, is) = told-met (passing P x s room) (behind P x) y (sym met ∙ ap outcome e) in
    let count : length t ≡ y.segments = ap (λ (z : Passed). z.segments) is in
    omega (arith, (both-sought P x.state.given x.state.opposite s room t sound).3, count)

-- the sum of marks that are 0 or 1 is the number of those that are 1
counted-one : (b : Bool) (j : ℕ) (l : List ℕ) → total (λ x. x) l ≡ length (marked_from (suc j) l)
    → total (λ x. x) (cond b 1 0 ∷ l) ≡ length (marked_from j (cond b 1 0 ∷ l))
unfolding total marked_from
counted-one true j l e = omega (arith, e)
counted-one false j l e = omega (arith, e)

counted_none : (P Q : List ℕ) (st re j : ℕ)
    → let l = united (marks_from P st []) (marks_from Q re []) in total (λ x. x) l ≡ length (marked_from j l)
unfolding united marks_from total marked_from
counted_none P Q st re j = refl

counted : (P Q : List ℕ) (st re j : ℕ) (T : Text)
    → total (λ x. x) (united (marks_from P st T) (marks_from Q re T)) ≡ length (marked_from j (united (marks_from P st T) (marks_from Q re T)))
counted P Q st re j [] = counted_none P Q st re j
counted P Q st re j (g ∷ T) =
    rw (united-marks P Q st re g T)
    (counted-one (ends P st g || ends Q re g) j (united (marks_from P (next P st g) T) (marks_from Q (next Q re g) T))
    (counted P Q (next P st g) (next Q re g) (suc j) T))

module _ (P : List ℕ) (x : Standing) (s : List ℕ) (room : ℕ) where
  -- what `pass` tells, and what it leaves of the buffer d
  abbrev pub Passes : Outcome Passed → List ℕ → List ℕ → Type 0
  Passes said d out =
      (said ≡ after (passing P x s room) (λ t. ok (behind P x t))) × (out ≡ left_by (both_marks P x) (passing P x s room) d)

  -- what the search answers
  abbrev sought : Outcome Text
  sought = seeking_both P x.state.given x.state.opposite s room

  module _ (d left : List ℕ) (r : SoughtBoth)
      (met : told_both r ≡ after sought (λ t. ok (seen_both P x.state.given x.state.opposite t)))
      (wrote : left ≡ left_by (either_from P x.state.given x.state.opposite) sought d) where
    pub passes-not : (w : Refusal) → r ≡ Refused w → Passes (refused w.number w.place) d left
    unfolding passing both_marks
    passes-not w e =
        let none = told-refused sought (seen_both P x.state.given x.state.opposite) w.number w.place
        (sym met ∙ ap told_both e) in
        (rw none refl, wrote)

    pub passes-to : (n z m : ℕ) (y : Pair) → r ≡ Marked n z m y → (all more : ℕ) → all ≡ plus x.segments n → more ≡ plus x.ends m
        → Passes
        (ok (record {
          segments = n;
          standing =
              record { state = y; segments = all; ends = more };
        })) d left
    unfolding passing stood both_marks either_from seen_both
    passes-to n z m y e all more a b =
        let st : ℕ = x.state.given in
        let re : ℕ = x.state.opposite in
        let f = told-met (seeking_both P st re s room) (seen_both P st re) _ (sym met ∙ ap told_both e) in
        let t : Text = f.0 in
        let marks : List ℕ = united (marks_from P st t) (marks_from (opposite P) re t) in
        let count : length t ≡ n = ap (λ (v : SeenBoth). v.segments) f.2 in
        let ones : total (λ x. x) marks ≡ m = ap (λ (v : SeenBoth). v.ends) f.2 in
        let many : plus x.segments n ≡ plus x.segments (length t) = ap (plus x.segments) (sym count) in
        let sum : plus x.ends m ≡ plus x.ends (length (marked_from 0 marks)) =
        ap (plus x.ends) (sym ones ∙ counted P (opposite P) st re 0 t) in
        let own : y.given ≡ run P st t = sym (ap (λ (v : SeenBoth). v.given) f.2) in
        let turned : y.opposite ≡ run (opposite P) re t = sym (ap (λ (v : SeenBoth). v.opposite) f.2) in
        let is : record {
          segments = n;
          standing =
              record { state = y; segments = all; ends = more };
        } ≡ behind P x t =
        λ i.
        record {
          segments = sym count i;
          standing =
              record {
                state = record { given = own i; opposite = turned i };
                segments = (a ∙ many) i;
                ends = (b ∙ sum) i;
              };
        } in
        (ap ok is ∙ sym (ap (λ (o : Outcome Text). after o (λ u. ok (behind P x u))) f.1), wrote)
