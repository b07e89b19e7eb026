-- Steps over a variant and over a segment, whatever method makes them: how far they come in the bytes, and with which state.
use Rattle.std.specs.Prelude.{ℕ, ◌≡◌, Bool, List, [], ◌∷◌, Result, Ok, Err}
use Rattle.text.specs.Text.{Variant, weight, total}
use Rattle.text.specs.State.{next, ends_at, ends}
use Rattle.text.specs.Refusal.{Outcome, ok, refused, after}
use Rattle.text.specs.declared.refusal.Refusal.{Refusal}
use Rattle.layout.specs.Reading.{segment_at}
use Rattle.search.specs.declared.segment.Passed.{Passed}

-- from the state st the variant v alone leads to `bits`, and an occurrence ends in it exactly where `ends` says
pub record Steps (P : List ℕ) (st : ℕ) (v : Variant) (bits : ℕ) (ends : Bool) : Type 0 where
  pub state : bits ≡ next P st (v ∷ [])
  pub end : ends ≡ ends_at P st v

-- the place after what was passed, its size, the state there, and whether an occurrence ends in it
pub record Pass : Type 0 where
  pub next : ℕ
  pub size : ℕ
  pub state : ℕ
  pub ends : Bool

abbrev pub told_passed : Result Passed Refusal → Outcome Pass
told_passed (Ok p) = ok (record { next = p.next; size = p.size; state = p.state.bits; ends = p.ends })
told_passed (Err r) = refused r.number r.place

-- the segment at `at`
unfoldable pub segment_pass : List ℕ → ℕ → List ℕ → ℕ → Outcome Pass
segment_pass P st s at =
    after (segment_at s at) λ x.
    ok (record { next = x.next; size = total weight x.value; state = next P st x.value; ends = ends P st x.value })
