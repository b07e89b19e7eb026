-- The first hit: the first segment in which an occurrence ends, of those that read whole before the first fault.
use Rattle.std.specs.Prelude.{ℕ, zero, suc, ◌-◌, ◌≤◌, cond, List, [], ◌∷◌, ◌++◌, eqb, ltb, Result, Ok, Err}
use Rattle.text.specs.Text.{Text}
use Rattle.text.specs.State.{run, marks_from}
use Rattle.text.specs.Card.{none, first_end}
use Rattle.text.specs.Refusal.{Outcome, ok, refused, after}
use Rattle.text.specs.Strand.{on_strand}
use Rattle.text.specs.declared.strand.Strand.{Strand}
use Rattle.layout.specs.Pieces.{open_at}
use Rattle.layout.specs.Reading.{Taken, segment_at, segments_of, stretch_of}
use Rattle.search.specs.Answers.{entering}
use Rattle.search.specs.declared.first.First.{First}
use Rattle.search.specs.declared.state.State.{State}
use Rattle.search.specs.declared.marking.Marked.{Marked}
use Rattle.text.specs.declared.refusal.Refusal.{Refusal}

-- go on with what was read; where it was refused, b
abbrev pub unless : {A B : Type 0} → Outcome A → B → (A → B) → B
unless (ok a) b f = f a
unless (refused n p) b f = b

-- of n things one after another, each read by f after those seen, the ones that read whole before the first fault
unfoldable pub whole : {A B : Type 0} → (List A → B → Outcome (Taken A B)) → ℕ → List A → B → List A
whole f zero seen at = seen
whole f (suc n) seen at = unless (f seen at) seen (λ x. whole f n (seen ++ (x.value ∷ [])) x.next)

-- the segments of a stretch that read whole before its first fault
unfoldable pub whole_of : List ℕ → Text
whole_of s = unless (open_at s) [] λ n. whole (λ _. segment_at s) n [] 2

-- the first of them in which an occurrence ends, from the state st on, or "none"
unfoldable pub first_in : List ℕ → ℕ → List ℕ → ℕ
first_in P st s = first_end (marks_from P st (whole_of s))

-- an end in a segment; or that nothing ends, and the state after the stretch
pub data Hit : Type 0 where
  ends_in : ℕ → Hit
  clear : ℕ → Hit

-- the first hit; if there is none, the refusal of the stretch, or the state after a sound one
unfoldable pub hitting : List ℕ → ℕ → List ℕ → Outcome Hit
hitting P st s =
    cond (ltb (first_in P st s) none) (ok (ends_in (first_in P st s))) (after (stretch_of s) λ t. ok (clear (run P st t)))

-- the same of n segments from `from` on: the first end, and the first hit
unfoldable pub first_from : List ℕ → ℕ → List ℕ → ℕ → ℕ → ℕ
first_from P st s n from = first_end (marks_from P st (whole (λ _. segment_at s) n [] from))

unfoldable pub hitting_from : List ℕ → ℕ → List ℕ → ℕ → ℕ → Outcome Hit
hitting_from P st s n from =
    cond (ltb (first_from P st s n from) none) (ok (ends_in (first_from P st s n from)))
    (after (segments_of s n from) λ t. ok (clear (run P st t)))

-- the first hit of the pattern as a strand reads it: 1, 2, 3 of the pattern as given, 4, 17, then as above
unfoldable pub firsting : List ℕ → Strand → ℕ → List ℕ → Outcome Hit
firsting P strand st s = entering P st s (hitting (on_strand strand P) st s)

abbrev pub told_first : First → Outcome Hit
told_first (First.Ends k) = ok (ends_in k)
told_first (First.None state) = ok (clear state.bits)
told_first (First.Refused r) = refused r.number r.place

-- the same in numbers: the segment or "none", and the state after the stretch, 0 where something ends
pub record Stop : Type 0 where
  pub segment : ℕ
  pub state : ℕ

abbrev pub stop_of : Hit → Stop
stop_of (ends_in k) = record { segment = k; state = 0 }
stop_of (clear st) = record { segment = none; state = st }

-- what a run that stops tells of the first hit: where there was an end, it is in the last segment that was read
abbrev pub told_hit : Result (Marked State) Refusal → Outcome Hit
told_hit (Ok m) = cond (eqb m.ends 0) (ok (clear m.state.bits)) (ok (ends_in (m.segments - 1)))
told_hit (Err r) = refused r.number r.place

-- its ends are at most its segments
abbrev pub Few : Result (Marked State) Refusal → Type 0
Few (Ok m) = m.ends ≤ m.segments
Few (Err r) = Unit {0}
