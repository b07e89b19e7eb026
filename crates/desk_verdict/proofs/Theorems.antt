-- What this crate proves of its calls, theorem by theorem: read this file first. `passing`, `stood` and `both_marks` are what the contract
-- of `pass` says of its answer, and `stands` is that call on one stretch after another, each from where the one before has led. `halting`
-- and `halts` are the same of `pass_first`.
use Prim.Native.Nat.{ℕ, ◌+◌, ◌≤◌, ◌<◌, ◌-◌, ◌^◌, min}
use native.Mathlib.Omega.{arith}
use mathlib.Core.Path.{◌≡◌, refl, sym, ap, ap₂, ◌∙◌}
use mathlib.Core.Logic.{◌⊎◌, ◌↔◌, by_cases}
use mathlib.Core.Bool.{true}
use mathlib.Core.List.{List, [], ◌∷◌, ◌++◌, append_assoc, append-nil}
use mathlib.Core.List.{Memᴰ}
use native.Mathlib.Decide.{dec_lt}
use borrow.Author.Tests.{lt-ltb}
use lib.Dec.{ltb}
use lib.ListN.{length, get_or, length-append, get_or-append}
use Rattle.text.specs.Text.{Text}
use Rattle.text.specs.Occurrence.{EndsIn}
use Rattle.text.specs.Bits.{bit}
use Rattle.text.specs.State.{is_state, fresh, next, run, marks_from, marks}
use Rattle.text.specs.Card.{none, first_end}
use Rattle.text.specs.Strand.{opposite}
use Rattle.text.specs.Refusal.{ok, SoundPattern}
use Rattle.text.proofs.Outcomes.{ok-inj, after-met}
use Rattle.text.proofs.Truth.{and_left, and_both}
use Rattle.text.proofs.Steps.{next-open, next-lt}
use Rattle.text.proofs.Strands.{opposite-length}
use Rattle.text.proofs.Ends.{first_end-least, first_end-within, first_end-mark}
use Rattle.text.proofs.Marks.{marks-length, run-append, marks-append}
use Rattle.layout.specs.Pieces.{most_in_stretch}
use Rattle.layout.specs.Reading.{stretch_of}
use Rattle.search.specs.Chain.{stretches_text}
use Rattle.search.specs.First.{whole_of}
use Rattle.search.proofs.Entries.{fresh-state}
use Rattle.search.specs.Either.{united, either_marks, either_from}
use Rattle.search.proofs.Eithers.{united-length}
use Rattle.lines.specs.Answer.{marked_from}
use Rattle.lines.specs.declared.strands.Strands.TheVariants.{Either}
use Rattle.lines.proofs.Screens.{on-ends, on-length}
use Rattle.lines.proofs.Named.{named-is, is-named}
use Rattle.desk_verdict.specs.Standing.{plus, passing, both_marks, stood, begun, stands}
use Rattle.desk_verdict.specs.First.{at, halting, halts}
use Rattle.desk_verdict.specs.declared.standing.Standing.{Standing}
use Rattle.desk_verdict.proofs.Standings.{both-sought}
use Rattle.desk_verdict.proofs.Firsts.{some-named, at-heard, at_first, halts-stands}
use Rattle.desk_verdict.proofs.Rows.{united-append, count-append, get_or-behind, plus-cut}

-- an occurrence of P ends in segment j on the strand as given or on the opposite one
abbrev pub EndsOnEither : List ℕ → Text → ℕ → Type 0
EndsOnEither P T j = EndsIn P T j ⊎ EndsIn (opposite P) T j

-- the greatest number that a count reaches
abbrev pub most : ℕ
most = 0xffffffffffffffff

-- x is where P stands after the text T: the states of both strands, the number of segments, and the number of those in which P ends
pub record At (P : List ℕ) (T : Text) (x : Standing) : Type 0 where
  pub own : x.state.given ≡ run P fresh T
  pub turned : x.state.opposite ≡ run (opposite P) fresh T
  pub segments : x.segments ≡ min (length T) most
  pub ends : x.ends ≡ min (length (marked_from 0 (either_marks P T))) most

at-begun : (P : List ℕ) → At P [] begun
unfolding run either_marks united marked_from marks marks_from
at-begun P = record { own = refl; turned = refl; segments = refl; ends = refl }

module _ (P : List ℕ) (T t : Text) where
  level : length (marks P T) ≡ length (marks (opposite P) T)
  unfolding marks
  level = marks-length P fresh T ∙ sym (marks-length (opposite P) fresh T)

  -- the marks after T are those of the search from where P stands
  pub marks-behind : (x : Standing) → At P T x → either_marks P (T ++ t) ≡ either_marks P T ++ both_marks P x t
  unfolding either_marks both_marks either_from marks
  marks-behind x a =
      rw (a.own, a.turned)
      (ap₂ united (marks-append P fresh T t) (marks-append (opposite P) fresh T t)
      ∙ united-append (marks P T) (marks (opposite P) T) _ _ level)

  at_more : (x : Standing) → At P T x → At P (T ++ t) (stood P x t)
  unfolding stood
  at_more x a =
      let counted : length (marked_from 0 (either_marks P (T ++ t))) ≡ length (marked_from 0 (either_marks P T)) + length
      (marked_from 0 (both_marks P x t)) =
      ap (λ (l : List ℕ). length (marked_from 0 l)) (marks-behind x a) ∙ count-append 0 (either_marks P T) (both_marks P x t) in
      record {
        own = ap (λ (st : ℕ). run P st t) a.own ∙ sym (run-append P fresh T t);
        turned = ap (λ (st : ℕ). run (opposite P) st t) a.turned ∙ sym (run-append (opposite P) fresh T t);
        segments =
            ap (λ (n : ℕ). plus n (length t)) a.segments ∙ plus-cut (length T) (length t)
            ∙ ap (λ (n : ℕ). min n most) (sym (length-append T t));
        ends =
            ap (λ (n : ℕ). plus n (length (marked_from 0 (both_marks P x t)))) a.ends
            ∙ plus-cut (length (marked_from 0 (either_marks P T))) (length (marked_from 0 (both_marks P x t)))
            ∙ ap (λ (n : ℕ). min n most) (sym counted);
      }

-- an accepted stretch is one that means a text
passing-means : (P : List ℕ) (x : Standing) (s : List ℕ) (room : ℕ) (t : Text) → passing P x s room ≡ ok t → stretch_of s ≡ ok t
unfolding passing
passing-means P x s room t e = (both-sought P x.state.given x.state.opposite s room t e).2

-- stretches of any number, taken one after another: all of them are accepted, and P stands where it stands after their text
pub record Stood (P : List ℕ) (T : Text) (ss : List (List ℕ)) (y : Standing) : Type 0 where
  pub text : Text
  pub accepted : stretches_text ss ≡ ok text
  pub at : At P (T ++ text) y

pub stands_from : (P : List ℕ) (T : Text) (x : Standing) (ss : List (List ℕ)) (y : Standing) → At P T x → stands P x ss ≡ ok y
    → Stood P T ss y
unfolding stands stretches_text
stands_from P T x [] y a e =
    let same : x ≡ y = ok-inj e in
    record { text = []; accepted = refl; at = rw (append-nil T, ← same) a }
stands_from P T x (s ∷ ss) y a e =
    let (t, here, more) = after-met (passing P x s most_in_stretch) (λ t. stands P (stood P x t) ss) y e in
    let z : Stood P (T ++ t) ss y = stands_from P (T ++ t) (stood P x t) ss y (at_more P T t x a) more in
    record {
      text = t ++ z.text;
      accepted = rw (passing-means P x s most_in_stretch t here, z.accepted) refl;
      at = rw (← append_assoc T t z.text) z.at;
    }

pub stands-text : (P : List ℕ) (ss : List (List ℕ)) (y : Standing) → stands P begun ss ≡ ok y → Stood P [] ss y
stands-text P ss y e = stands_from P [] begun ss y (at-begun P) e

-- a segment is counted exactly where an occurrence ends on either strand
ends_some : (P : List ℕ) (T : Text) (j : ℕ) → SoundPattern P → EndsOnEither P T j → 0 < length (marked_from 0 (either_marks P T))
ends_some P T j y h =
    let m : Memᴰ (0 + j) (marked_from 0 (either_marks P T)) = is-named 0 (either_marks P T) j ((on-ends P T Either j y.some).1 h) in
    some-named (marked_from 0 (either_marks P T)) m

-- where nothing is counted, every stretch was accepted and no occurrence ends anywhere in their text
pub stands-clear : (P : List ℕ) (ss : List (List ℕ)) (y : Standing) → SoundPattern P → stands P begun ss ≡ ok y → y.ends ≡ 0
    → (T : Text) × (stretches_text ss ≡ ok T) × ((j : ℕ) → EndsOnEither P T j → ⊥)
stands-clear P ss y sound e none =
    let z = stands-text P ss y e in
    (z.text, z.accepted, λ j h. (let c : ⊥ = omega (arith, none, z.at.ends, ends_some P z.text j sound h) in c))

-- a file after others: with T the text of those before, t its own and U that of those after, segment j of it is reported exactly when an
-- occurrence ends, on either strand, in segment `length T + j` of the whole text
module _ (P : List ℕ) (T t U : Text) (x : Standing) (a : At P T x) where
  both-append : both_marks P x (t ++ U) ≡ both_marks P x t ++ united (marks_from P (run P x.state.given t) U)
      (marks_from (opposite P) (run (opposite P) x.state.opposite t) U)
  unfolding both_marks either_from
  both-append =
      let same : length (marks_from P x.state.given t) ≡ length (marks_from (opposite P) x.state.opposite t) =
      marks-length P x.state.given t ∙ sym (marks-length (opposite P) x.state.opposite t) in
      ap₂ united (marks-append P x.state.given t U) (marks-append (opposite P) x.state.opposite t U) ∙ united-append _ _ _ _ same

  both-length : length (both_marks P x t) ≡ length t
  unfolding both_marks either_from
  both-length =
      let same : length (marks_from P x.state.given t) ≡ length (marks_from (opposite P) x.state.opposite t) =
      marks-length P x.state.given t ∙ sym (marks-length (opposite P) x.state.opposite t) in
      united-length _ _ same ∙ marks-length P x.state.given t

  mark-there : (j : ℕ) → j < length t → get_or (either_marks P (T ++ (t ++ U))) (length T + j) 0 ≡ get_or (both_marks P x t) j 0
  mark-there j l =
      let far : length T ≡ length (either_marks P T) = sym (on-length P T Either) in
      let inside : j < length (both_marks P x t) = omega (arith, both-length) in
      ap₂ (λ (marks : List ℕ) (i : ℕ). get_or marks (i + j) 0) (marks-behind P T (t ++ U) x a) far
      ∙ get_or-behind (either_marks P T) (both_marks P x (t ++ U)) j
      ∙ ap (λ (l : List ℕ). get_or l j 0) both-append
      ∙ get_or-append (both_marks P x t) _ 0 j inside

  pub reported : (j : ℕ) → SoundPattern P → j < length t
      → Memᴰ j (marked_from 0 (both_marks P x t)) ↔ EndsOnEither P (T ++ (t ++ U)) (length T + j)
  reported j sound l = (
    λ m.
        let (k, is, marked) = named-is 0 (both_marks P x t) j m in
        let same : k ≡ j = omega (arith, is) in
        (on-ends P (T ++ (t ++ U)) Either (length T + j) sound.some).0
        (mark-there j l ∙ ap (λ (i : ℕ). get_or (both_marks P x t) i 0) (sym same) ∙ marked),
    λ h.
        let marked : get_or (both_marks P x t) j 0 ≡ 1 =
        sym (mark-there j l) ∙ (on-ends P (T ++ (t ++ U)) Either (length T + j) sound.some).1 h in
        let same : j ≡ 0 + j = omega arith in
        mathlib.Core.List.Memᴰ.cast same (is-named 0 (both_marks P x t) j marked),
  )

  -- and with that number in the text
  pub numbered : (j : ℕ) → length T + j ≤ most → plus x.segments j ≡ length T + j
  unfolding plus
  numbered j l = let own : x.segments ≡ length T = omega (arith, a.segments) in omega (arith, own)

-- a run leads from state to state
run-state : (P : List ℕ) (st : ℕ) (T : Text) → 0 < length P → is_state (length P) st ≡ true → is_state (length P) (run P st T) ≡ true
unfolding run is_state
run-state P st [] l i = i
run-state P st (g ∷ T) l i =
    run-state P (next P st g) T l
    (and_both _ _ (next-open P st g l ∙ and_left (bit st 0) (ltb st (2 ^ length P)) i)
    (lt-ltb (next P st g) (2 ^ length P) (next-lt P st g)))

-- the first end of P: with T the text of the stretches before, in which nothing ends, and t the segments of this one that read whole before
-- its first fault, an occurrence ends in segment `length T + k` on either strand, and in none before it, whatever U follows
pub record FirstOf (P : List ℕ) (T t : Text) (k : ℕ) (x y : Standing) : Type 0 where
  pub inside : k < length t
  pub there : (U : Text) → EndsOnEither P (T ++ (t ++ U)) (length T + k)
  pub before : (U : Text) (j : ℕ) → j < length T + k → EndsOnEither P (T ++ (t ++ U)) j → ⊥
  pub number : length T + k ≤ most → plus x.segments k ≡ length T + k
  pub held : y.ends ≡ 1

-- no segment of a text in which nothing ends is marked, whatever follows it
clear-before : (P : List ℕ) (T U : Text) (x : Standing) → At P T x → x.ends ≡ 0 → (j : ℕ) → j < length T
    → get_or (either_marks P (T ++ U)) j 0 ≡ 1 → ⊥
clear-before P T U x a e j l marked =
    let inside : j < length (either_marks P T) = omega (arith, on-length P T Either) in
    let own : get_or (either_marks P T) j 0 ≡ 1 =
    sym (ap (λ (m : List ℕ). get_or m j 0) (marks-behind P T U x a) ∙ get_or-append (either_marks P T) (both_marks P x U) 0 j inside)
    ∙ marked in
    let c : ⊥ = omega (arith, e, a.ends, some-named (marked_from 0 (either_marks P T)) (is-named 0 (either_marks P T) j own)) in c

first_of : (P : List ℕ) (T : Text) (x : Standing) (s : List ℕ) (k : ℕ) (y : Standing) → SoundPattern P → At P T x → x.ends ≡ 0
    → halting P x s ≡ ok (at k y) → FirstOf P T (whole_of s) k x y
first_of P T x s k y sound a e met =
    let heard = at-heard P x s e k y met in
    let own : is_state (length P) x.state.given ≡ true =
    ap (is_state (length P)) a.own ∙ run-state P fresh T sound.some (fresh-state P sound.some) in
    let some : 0 < length (opposite P) = rw (opposite-length P) sound.some in
    let turned : is_state (length P) x.state.opposite ≡ true =
    ap (is_state (length P)) a.turned ∙ ap (λ (m : ℕ). is_state m (run (opposite P) fresh T)) (sym (opposite-length P))
    ∙ run-state (opposite P) fresh T some (fresh-state (opposite P) some) in
    let t : Text = whole_of s in
    let (is, small) = at_first P x s sound own turned k heard.0 in
    let low : first_end (both_marks P x t) < none = omega (arith, is, small) in
    let in-marks = first_end-within (both_marks P x t) low in
    let in-text : k < length t = omega (arith, is, in-marks, both-length P T t [] x a) in
    let mark : get_or (both_marks P x t) k 0 ≡ 1 = ap (λ (i : ℕ). get_or (both_marks P x t) i 0) is ∙ first_end-mark (both_marks P x t) low in
    record {
      inside = in-text;
      there = λ U. (on-ends P (T ++ (t ++ U)) Either (length T + k) sound.some).0 (mark-there P T t U x a k in-text ∙ mark);
      before = λ U j l h.
          let marked : get_or (either_marks P (T ++ (t ++ U))) j 0 ≡ 1 = (on-ends P (T ++ (t ++ U)) Either j sound.some).1 h in
          by_cases (dec_lt j (length T))
          (λ (early : j < length T). clear-before P T (t ++ U) x a e j early marked)
          (λ (late : ¬ (j < length T)).
          let at_i : j ≡ length T + (j - length T) = omega arith in
          let near : j - length T < k = omega arith in
          let here : get_or (both_marks P x t) (j - length T) 0 ≡ 1 =
          sym (mark-there P T t U x a (j - length T) (let z : j - length T < length t = omega (arith, near, in-text) in z))
          ∙ ap (λ (n : ℕ). get_or (either_marks P (T ++ (t ++ U))) n 0) (sym at_i) ∙ marked in
          let high : k ≤ none = omega (arith, small) in
          let upto : k ≤ first_end (both_marks P x t) = omega (arith, is) in
          (first_end-least (both_marks P x t) k high).0 upto (j - length T) near here);
      number = numbered P T t [] x a k;
      held = ap (λ (z : Standing). z.ends) heard.1;
    }

-- what `--first` reports of a stretch after others is the first end of the sequence, with its number in the text
pub first-reported : (P : List ℕ) (ss : List (List ℕ)) (x : Standing) (s : List ℕ) (k : ℕ) (y : Standing) → SoundPattern P
    → halts P begun ss ≡ ok x → x.ends ≡ 0 → halting P x s ≡ ok (at k y)
    → (T : Text) × (stretches_text ss ≡ ok T) × FirstOf P T (whole_of s) k x y
first-reported P ss x s k y sound met e there =
    let z = stands-text P ss x (halts-stands P begun ss x refl met e) in
    (z.text, z.accepted, first_of P z.text x s k y sound z.at e there)
