-- Laws of one variant of a walk: what reading it after those before it answers, from what its head and its verdict tell.
use Rattle.std.proofs.Common.{◌≡◌, ℕ, ◌+◌, ◌-◌, ◌<◌, ◌≤◌, Bool, true, false, not, List, length, take, drop, sym, refl, ◌∙◌}
use borrow.Author.Tests.{not-true, not-false}
use Rattle.text.specs.Letter.{letter, every}
use Rattle.text.specs.Text.{Variant, Segment}
use Rattle.text.specs.Refusal.{ok, refused, demand, after, outcome}
use Rattle.text.specs.declared.refusal.Refusal.{Refusal}
use Rattle.text.proofs.Outcomes.{ok-inj, demand-met, after-met}
use Rattle.layout.specs.Skips.{UpTo}
use Rattle.layout.specs.Pieces.{letters_at, next_of, head_at, misspelt_at}
use Rattle.layout.specs.Reading.{Taken, among, value_of, formed, variant_at, values_from}
use Rattle.layout.specs.Prints.{suspected_at, repeats_at, Noted}
use Rattle.layout.specs.declared.pieces.Part.{Part}
use Rattle.layout.proofs.Heads.{Whole, head-found, head-is, whole_part}
use Rattle.layout.proofs.RepeatsInBytes.{repeats-at-walk}
use Rattle.layout.proofs.Prints.{unsuspected}
use Rattle.std.specs.Prelude.{Result, Err}

-- a variant that was read: its letters, whole, and where the next one begins
pub record Read (s : List ℕ) (seen : Segment) (at : ℕ) (x : Taken Variant ℕ) : Type 0 where
  pub inside : next_of s at ≤ length s
  pub letters : every letter (letters_at s at) ≡ true
  pub new : not (among (value_of s at) seen) ≡ true
  pub is : x ≡ record { value = value_of s at; next = next_of s at }

pub variant-read : (s : List ℕ) (seen : Segment) (at : ℕ) (x : Taken Variant ℕ) → variant_at s seen at ≡ ok x → Read s seen at x
unfolding variant_at formed
variant-read s seen at x e =
    let h = after-met (head_at s at) _ x e in
    let b = demand-met _ 7 _ _ x h.2 in
    let c = demand-met _ 8 at _ x b.1 in
    record { inside = (head-is s at _ _ h.1).inside; letters = b.0; new = c.0; is = sym (ok-inj c.1) }

-- it is cut off
pub head-refused : (s : List ℕ) (at : ℕ) {r : Result Part Refusal} {f : Refusal} → outcome r ≡ head_at s at → r ≡ Err f → (seen : Segment)
    → variant_at s seen at ≡ refused f.number f.place
unfolding variant_at formed
head-refused s at told is seen = rw (← told, is)

-- it is whole, and stands after the k of its segment that stand from `first` on
module _ {s : List ℕ} {first k at start next : ℕ} (up : UpTo s first k at) (w : Whole s at start next) where
  here : head_at s at ≡ ok (record { start = at + 2; next = next_of s at })
  here = head-found s at _ refl w.inside

  -- one of its letters is wrong
  wrong-is : every letter (take (next - start) (drop start s)) ≡ false
      → after (misspelt_at s at) (λ _. ok (record { value = value_of s at; next = next_of s at })) ≡ variant_at s (values_from s k first) at
  unfolding misspelt_at variant_at formed
  wrong-is bad = rw (here, ← whole_part s at start next w, bad)

  module _ {wrong : Bool} (spelt : wrong ≡ not (every letter (take (next - start) (drop start s)))) where
    pub misspelt-refused : wrong ≡ true → {f : Refusal} → refused f.number f.place ≡ misspelt_at s at
        → variant_at s (values_from s k first) at ≡ refused f.number f.place
    misspelt-refused is told = sym (wrong-is (not-true _ (sym spelt ∙ is))) ∙ rw (← told)

    -- none is
    spelt-right : wrong ≡ false → variant_at s (values_from s k first) at
        ≡ demand (not (repeats_at s first at)) 8 at (ok (record { value = value_of s at; next = next_of s at }))
    unfolding variant_at formed
    spelt-right is =
        let good : every letter (take (next - start) (drop start s)) ≡ true = not-false _ (sym spelt ∙ is) in
        rw (here, ← whole_part s at start next w, good, repeats-at-walk s first k at start next up w)

    pub again-refused : wrong ≡ false → repeats_at s first at ≡ true → {f : Refusal} → (f.number ≡ 8) × (f.place ≡ at)
        → variant_at s (values_from s k first) at ≡ refused f.number f.place
    again-refused is again told = spelt-right is ∙ rw (again, told.0, told.1)

    pub new-read : wrong ≡ false → repeats_at s first at ≡ false
        → variant_at s (values_from s k first) at ≡ ok (record { value = value_of s at; next = next })
    new-read is new = spelt-right is ∙ rw (new, w.ends)

  -- it need not be compared where the set has not its print
  pub unsuspected-new : {n set : ℕ} → Noted s n first k set → k < n → suspected_at s n set at ≡ false → repeats_at s first at ≡ false
  unsuspected-new {n} {set} noted l none =
      repeats-at-walk s first k at start next up w ∙ unsuspected s n first k set at noted l w.inside none
