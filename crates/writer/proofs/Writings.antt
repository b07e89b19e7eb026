-- Laws of a write: each of its refusals in their order, what it accepts, and what then stands in the buffer.
use Prim.Native.Nat.{ℕ, ◌<◌, ◌≤◌}
use mathlib.Core.Path.{◌≡◌, refl, ap, ◌∙◌}
use mathlib.Core.Bool.{Bool, true, false, ◌&&◌, and-false}
use mathlib.Core.List.{List}
use borrow.Author.Tests.{eqb-true, leb-true, eq-eqb, le-leb, lt-leb}
use lib.Dec.{leb, eqb}
use lib.ListN.{length}
use Rattle.text.specs.Text.{Text}
use Rattle.text.specs.Refusal.{Outcome, ok, refused}
use Rattle.text.proofs.Truth.{and_left, and_right}
use Rattle.text.proofs.Outcomes.{ok-inj, demand-met, after-met}
use Rattle.layout.specs.Bytes.{greatest_stretch, over}
use Rattle.layout.specs.Encoding.{encode}
use Rattle.writer.specs.Cuts.{sum}
use Rattle.writer.specs.Writing.{Spot, given, Matching, needed, segments_given, writing_capitals}
use Rattle.writer.specs.Answers.{reached, written}
use Rattle.layout.specs.Bytes.{left_by}
use Rattle.writer.proofs.GivenSegment.{reached-refused, reached-ok}
use Rattle.writer.proofs.GivenText.{text-is}
use Rattle.writer.proofs.Texts.{needed-is}

-- a refused write answers its refusal and leaves the buffer as it was
pub refused-leaves :
    {o : Outcome Text} {n p : ℕ} {told : Outcome ℕ} (d : List ℕ) → told ≡ refused n p → o ≡ refused n p →
    (told ≡ written o) × (d ≡ left_by encode o d)
refused-leaves d e f = rw f (e, refl)

-- the numbers match and fit a stretch
pub record Fitting (letters lengths counts : List ℕ) : Type 0 where
  pub matching : Matching letters lengths counts
  pub small : needed letters lengths counts ≤ greatest_stretch

module _ (letters lengths counts : List ℕ) where
  abbrev counted : Bool
  counted = eqb (sum counts) (length lengths)

  abbrev spelt : Bool
  spelt = eqb (sum lengths) (length letters)

  pub sums-match : counted ≡ true → spelt ≡ true → Matching letters lengths counts
  sums-match e f = record { listed = eqb-true (sum counts) (length lengths) e; spelt = eqb-true (sum lengths) (length letters) f }

  pub counts-refused : (room : ℕ) → counted ≡ false → writing_capitals letters lengths counts room ≡ refused 14 0
  unfolding writing_capitals
  counts-refused room e = rw e

  pub lengths-refused : (room : ℕ) → spelt ≡ false → writing_capitals letters lengths counts room ≡ refused 14 0
  unfolding writing_capitals
  lengths-refused room e = rw (e, and-false counted)

-- the numbers match
module _ {letters lengths counts : List ℕ} (room : ℕ) (m : Matching letters lengths counts) where
  abbrev size : ℕ
  size = needed letters lengths counts

  matches : (counted letters lengths counts && spelt letters lengths counts) ≡ true
  matches = rw (eq-eqb (sum counts) (length lengths) m.listed) (eq-eqb (sum lengths) (length letters) m.spelt)

  pub long-refused : leb size greatest_stretch ≡ false → writing_capitals letters lengths counts room ≡ refused 4 0
  unfolding writing_capitals
  long-refused l = rw (matches, l)

-- and they fit
module _ {letters lengths counts : List ℕ} (room : ℕ) (f : Fitting letters lengths counts) where
  small : leb (needed letters lengths counts) greatest_stretch ≡ true
  small = le-leb (needed letters lengths counts) greatest_stretch f.small

  pub given-refused :
      (n p : ℕ) → reached (segments_given letters lengths counts) ≡ refused n p → writing_capitals letters lengths counts room ≡ refused n p
  unfolding writing_capitals
  given-refused n p e = rw (matches room f.matching, small, reached-refused (segments_given letters lengths counts) n p e)

  -- every segment is accepted
  module _ {n : ℕ} (e : reached (segments_given letters lengths counts) ≡ ok n) where
    pub room-refused : room < needed letters lengths counts → writing_capitals letters lengths counts room ≡ refused 15 0
    unfolding writing_capitals
    room-refused l =
        let r = reached-ok (segments_given letters lengths counts) n e in
        rw (matches room f.matching, small, r.accepts, lt-leb (needed letters lengths counts) room l)

    writing-ok : needed letters lengths counts ≤ room → writing_capitals letters lengths counts room ≡ ok (given letters lengths counts)
    unfolding writing_capitals
    writing-ok l =
        let r = reached-ok (segments_given letters lengths counts) n e in
        let is = text-is f.matching r.value r.accepts in
        rw (matches room f.matching, small, r.accepts, le-leb (needed letters lengths counts) room l, is)

-- an accepted write answers the number of bytes that it has written over the buffer d
pub accepted-leaves :
    {letters lengths counts : List ℕ} (f : Fitting letters lengths counts) (d : List ℕ) {out : List ℕ} {n : ℕ} →
    reached (segments_given letters lengths counts) ≡ ok n → needed letters lengths counts ≤ length d →
    out ≡ over d 0 (encode (given letters lengths counts)) →
    (ok (needed letters lengths counts) ≡ written (writing_capitals letters lengths counts (length d)))
    × (out ≡ left_by encode (writing_capitals letters lengths counts (length d)) d)
accepted-leaves f d e l w = rw (writing-ok (length d) f e l) (ap ok (needed-is f.matching), w)

-- what an accepted write has met
pub record Met (letters lengths counts : List ℕ) (t : Text) : Type 0 where
  pub fitting : Fitting letters lengths counts
  pub last : Spot
  pub all : segments_given letters lengths counts ≡ ok (record { value = t; next = last })

pub writing-met :
    (letters lengths counts : List ℕ) (room : ℕ) (t : Text) → writing_capitals letters lengths counts room ≡ ok t
    → Met letters lengths counts t
unfolding writing_capitals
writing-met letters lengths counts room t e =
    let a : Bool = counted letters lengths counts in
    let b : Bool = spelt letters lengths counts in
    let size : ℕ = needed letters lengths counts in
    let (sums, f) = demand-met (a && b) 14 0 _ t e in
    let (small, g) = demand-met (leb size greatest_stretch) 4 0 _ t f in
    let (x, h, k) = after-met (segments_given letters lengths counts) _ t g in
    let (_, o) = demand-met (leb size room) 15 0 (ok x.value) t k in
    let m = sums-match letters lengths counts (and_left a b sums) (and_right a b sums) in
    record {
      fitting = record { matching = m; small = leb-true size greatest_stretch small };
      last = x.next;
      all = h ∙ ap (λ (T : Text). ok (record { value = T; next = x.next })) (ok-inj o);
    }
