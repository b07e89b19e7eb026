-- Laws of what every call from a state asks first: its refusals, and what is known once they are asked.
use Prim.Native.Nat.{ℕ, ◌%◌, ◌^◌, ◌≤◌, ◌<◌}
use mathlib.Core.Path.{◌≡◌, sym, ◌∙◌}
use mathlib.Core.Bool.{true, false}
use mathlib.Core.List.{List}
use borrow.Author.Tests.{le-leb, lt-leb, leb-true, ltb-true, eqb-true, lt-ltb}
use lib.Dec.{leb, ltb}
use lib.ListN.{length}
use lib.Pow.{pow-lt}
use Rattle.text.specs.Bits.{bit}
use Rattle.text.specs.State.{is_state, fresh}
use Rattle.text.specs.Refusal.{Outcome, ok, refused, demand, after, pattern, outcome, SoundPattern}
use Rattle.text.proofs.Truth.{and_left, and_right}
use Rattle.text.proofs.Bits.{bit-first}
use Rattle.text.proofs.Outcomes.{demand-met, after-met, after-demand}
use Rattle.text.proofs.Patterns.{pattern-sound, sound-pattern, pattern-refused, pattern-after}
use Rattle.layout.specs.Bytes.{greatest_stretch}
use Rattle.text.specs.declared.refusal.Refusal.{Refusal}
use Rattle.layout.specs.Pieces.{fits_at, fits}
use Rattle.std.specs.Prelude.{Result, Err}
use Rattle.layout.proofs.Frames.{fits_refused}
use Rattle.search.specs.Masks.{StateOf}
use Rattle.search.specs.Answers.{entering}

-- a state of the definitions, as the steps rest on it
pub state-of : (P : List ℕ) (st : ℕ) → is_state (length P) st ≡ true → StateOf P st
unfolding is_state
state-of P st e =
    record {
      small = ltb-true st (2 ^ length P) (and_right (bit st 0) (ltb st (2 ^ length P)) e);
      odd = eqb-true (st % 2) 1 (sym (bit-first st) ∙ and_left (bit st 0) (ltb st (2 ^ length P)) e);
    }

pub fresh-state : (P : List ℕ) → 0 < length P → is_state (length P) fresh ≡ true
unfolding is_state bit
fresh-state P l = lt-ltb fresh (2 ^ length P) (pow-lt l)

-- a call from a state that may go on
pub record Entered (P : List ℕ) (st : ℕ) (s : List ℕ) : Type 0 where
  pub sound : SoundPattern P
  pub short : length s ≤ greatest_stretch
  pub state : is_state (length P) st ≡ true

module _ (P : List ℕ) (st : ℕ) (s : List ℕ) where
  -- what is asked first is asked before all else
  pub entering-after : {A : Type 0} (o : Outcome A) → entering P st s o ≡ after (entering P st s (ok (tt {0}))) (λ _. o)
  unfolding entering pattern fits_at
  entering-after o = simp after-demand

  pub entering-refused : (j p : ℕ) → entering P st s (ok (tt {0})) ≡ refused j p → {A : Type 0} (o : Outcome A)
      → entering P st s o ≡ refused j p
  entering-refused j p e o = entering-after o ∙ rw e

  pub entered : entering P st s (ok (tt {0})) ≡ ok tt → Entered P st s
  unfolding entering fits_at
  entered e =
      let a = after-met (pattern P (ok (tt {0}))) (λ _. fits s (demand (is_state (length P) st) 17 0 (ok tt))) tt
      (sym (pattern-after P _) ∙ e) in
      let b = demand-met (leb (length s) greatest_stretch) 4 0 (demand (is_state (length P) st) 17 0 (ok tt)) tt a.2 in
      let c = demand-met (is_state (length P) st) 17 0 (ok tt) tt b.1 in
      record { sound = pattern-sound P a.1; short = leb-true (length s) greatest_stretch b.0; state = c.0 }

  pub entering-sound : Entered P st s → {A : Type 0} (o : Outcome A) → entering P st s o ≡ o
  unfolding entering
  entering-sound y o = sound-pattern P y.sound _ ∙ rw (le-leb (length s) greatest_stretch y.short, y.state)

  -- the refusals, in their order
  pub entering-pattern : (j p : ℕ) → pattern P (ok (tt {0})) ≡ refused j p → {A : Type 0} (o : Outcome A) → entering P st s o ≡ refused j p
  unfolding entering
  entering-pattern j p e o = pattern-refused P j p e _

  module _ (y : SoundPattern P) where
    pub entering-long : {v : Result (Unit {0}) Refusal} → outcome v ≡ fits_at s → {w : Refusal} → v ≡ Err w → {A : Type 0} (o : Outcome A)
        → entering P st s o ≡ refused w.number w.place
    unfolding entering
    entering-long told is o = sound-pattern P y _ ∙ fits_refused s told is _

    pub entering-over : greatest_stretch < length s → {A : Type 0} (o : Outcome A) → entering P st s o ≡ refused 4 0
    unfolding entering
    entering-over l o = sound-pattern P y _ ∙ rw (lt-leb (length s) greatest_stretch l)

    pub entering-wrong : length s ≤ greatest_stretch → is_state (length P) st ≡ false → {A : Type 0} (o : Outcome A)
        → entering P st s o ≡ refused 17 0
    unfolding entering
    entering-wrong short e o = sound-pattern P y _ ∙ rw (le-leb (length s) greatest_stretch short, e)
