-- Laws of a variant's head, and of its letters as they stand.
use Rattle.std.proofs.Common.{◌≡◌, ℕ, ◌+◌, ◌-◌, ◌<◌, ◌≤◌, leb, List, length, take, drop, sym, refl, ap, ◌∙◌, arith, length-drop, length-take, le-leb, leb-true}
use native.Mathlib.Decide.{dec_lt}
use mathlib.Core.Logic.{by_cases}
use borrow.Author.Tests.{lt-leb}
use Rattle.text.specs.Letter.{meant}
use Rattle.text.specs.Refusal.{ok, refused}
use Rattle.text.proofs.Likes.{meant-length}
use Rattle.text.proofs.Outcomes.{ok-inj, demand-met, refused-ok}
use Rattle.layout.specs.Bytes.{word}
use Rattle.layout.specs.Pieces.{letters_at, next_of, head_at}
use Rattle.layout.specs.Reading.{value_of}
use Rattle.layout.specs.declared.pieces.Part.{Part}

-- a variant that is whole: where its letters start, and where the next one begins
pub record Whole (s : List ℕ) (at start next : ℕ) : Type 0 where
  pub starts : start ≡ at + 2
  pub ends : next ≡ next_of s at
  pub inside : next_of s at ≤ length s

pub head-cut : (s : List ℕ) (at : ℕ) → length s < next_of s at → head_at s at ≡ refused 5 at
unfolding head_at
head-cut s at l = rw (lt-leb (next_of s at) (length s) l)

-- found with the number n that its length states
pub head-found :
    (s : List ℕ) (at n : ℕ) → n ≡ word s at → next_of s at ≤ length s → head_at s at ≡ ok (record { start = at + 2; next = at + 2 + n })
unfolding head_at
head-found s at n e l = rw (le-leb (next_of s at) (length s) l, e)

pub head-is : (s : List ℕ) (at start next : ℕ) → head_at s at ≡ ok (record { start = start; next = next }) → Whole s at start next
unfolding head_at
head-is s at start next e =
    let (fits, is) = demand-met (leb (next_of s at) (length s)) 5 at _ (record { start = start; next = next }) e in
    let p : ◌≡◌ {A = Part} (record { start = at + 2; next = next_of s at }) (record { start = start; next = next }) = ok-inj is in
    record {
      starts = sym (ap (λ (x : Part). x.start) p);
      ends = sym (ap (λ (x : Part). x.next) p);
      inside = leb-true (next_of s at) (length s) fits;
    }

-- refused, it is cut off
pub head-not : (s : List ℕ) (at j p : ℕ) → head_at s at ≡ refused j p → length s < next_of s at
head-not s at j p e =
    by_cases (dec_lt (length s) (next_of s at)) (λ (l : length s < next_of s at). l)
    (λ (l : ¬ (length s < next_of s at)). absurd (refused-ok j p _ (sym e ∙ head-found s at _ refl (omega arith))))

-- the part from start to next is the variant's letters
pub whole_part : (s : List ℕ) (at start next : ℕ) → Whole s at start next → take (next - start) (drop start s) ≡ letters_at s at
whole_part s at start next w =
    let long : next - start ≡ word s at = omega (arith, w.starts, w.ends) in
    rw (long, w.starts)

-- a variant that is whole has as many letters as its length states
pub whole-letters : (s : List ℕ) (at : ℕ) → next_of s at ≤ length s → length (letters_at s at) ≡ word s at
whole-letters s at l = simp (length-take, length-drop) (omega arith)

pub whole_length : (s : List ℕ) (at start next : ℕ) → Whole s at start next → length (letters_at s at) ≡ next - start
whole_length s at start next w = omega (arith, whole-letters s at w.inside, w.starts, w.ends)

-- what a variant spells is what the letters mean that stand there
pub value-part : (s : List ℕ) (at : ℕ) → value_of s at ≡ meant (letters_at s at)
unfolding value_of
value-part s at = refl

pub value-length : (s : List ℕ) (at : ℕ) → next_of s at ≤ length s → length (value_of s at) ≡ word s at
value-length s at l = ap length (value-part s at) ∙ meant-length (letters_at s at) ∙ whole-letters s at l
