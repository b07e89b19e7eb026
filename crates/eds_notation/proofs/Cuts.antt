-- Laws of the cut: members moved to the front, and what is held before and after it.
use Prim.Native.Nat.{ℕ, ◌+◌, ◌-◌, ◌<◌, ◌≤◌}
use native.Mathlib.Omega.{arith}
use mathlib.Core.Path.{◌≡◌, refl, sym, ap, ◌∙◌}
use mathlib.Core.Bool.{Bool, true, false, ◌&&◌}
use mathlib.Core.List.{List, [], ◌++◌, append_assoc}
use lib.Dec.{leb}
use borrow.Author.Tests.{le-leb, lt-leb, leb-true}
use lib.ListN.{length, take, drop, length-drop}
use lib.Seq.{paste, take-add, length-take-le}
use Rattle.text.specs.Refusal.{Outcome, refused}
use Rattle.text.proofs.Truth.{and_left, and_right, and-false}
use Rattle.layout.specs.Encoding.{encode}
use Rattle.layout.specs.Bytes.{part, over, left_by}
use Rattle.layout.proofs.Overs.{over-front}
use Rattle.writer.specs.Writing.{writing}
use Rattle.writer.specs.Answers.{written}
use Rattle.eds_notation.specs.Notation.{nothing}
use Rattle.eds_notation.specs.Filling.{tape_of, open_letters, open_lengths}
use Rattle.eds_notation.specs.Cutting.{within, Rest, rest, cut_off, closed_letters, closed_lengths, closed_writing}
use Rattle.eds_notation.specs.declared.notation.Begun.{Begun}
use Rattle.eds_notation.specs.declared.filling.Tape.{Tape}

-- what a tape that lies within its buffers is
pub record Within (t : Tape) (letters lengths : ℕ) : Type 0 where
  pub letters-in : t.letters ≤ letters
  pub lengths-in : t.lengths ≤ lengths
  pub letters-open : t.begun.letters ≤ t.letters
  pub lengths-open : t.begun.variants ≤ t.lengths

module _ (t : Tape) (letters lengths : ℕ) where
  pub within-is : within t letters lengths ≡ true → Within t letters lengths
  unfolding within
  within-is e =
      let o = t.begun in
      let a : Bool = leb t.letters letters in
      let b : Bool = leb t.lengths lengths in
      let c : Bool = leb o.letters t.letters in
      let d : Bool = leb o.variants t.lengths in
      let three : (a && b && c) ≡ true = and_left (a && b && c) d e in
      let two : (a && b) ≡ true = and_left (a && b) c three in
      record {
        letters-in = leb-true t.letters letters (and_left a b two);
        lengths-in = leb-true t.lengths lengths (and_right a b two);
        letters-open = leb-true o.letters t.letters (and_right (a && b) c three);
        lengths-open = leb-true o.variants t.lengths (and_right (a && b && c) d e);
      }

  pub within-last :
      t.letters ≤ letters → t.lengths ≤ lengths → t.begun.letters ≤ t.letters →
      leb t.begun.variants t.lengths ≡ within t letters lengths
  unfolding within
  within-last a b c = rw (le-leb t.letters letters a, le-leb t.lengths lengths b, le-leb t.begun.letters t.letters c)

  -- where nothing stands open
  pub within_none : t.letters ≤ letters → t.lengths ≤ lengths → t.begun ≡ nothing → within t letters lengths ≡ true
  within_none a b e =
      let c : t.begun.letters ≡ 0 = ap (λ (o : Begun). o.letters) e in
      let d : t.begun.variants ≡ 0 = ap (λ (o : Begun). o.variants) e in
      let f : t.begun.letters ≤ t.letters = omega arith in
      let g : t.begun.variants ≤ t.lengths = omega arith in
      sym (within-last a b f) ∙ le-leb t.begun.variants t.lengths g

module _ {t : Tape} {letters lengths : ℕ} (w : Within t letters lengths) where
  pub letters-inside : t.letters - t.begun.letters ≤ letters
  letters-inside = omega (arith, w.letters-in)

  pub lengths-inside : t.lengths - t.begun.variants ≤ lengths
  lengths-inside = omega (arith, w.lengths-in)

-- members that are moved to the front, as std says it and as a write over the list
pub moved-front : (l : List ℕ) (n k : ℕ) → k ≤ n → n ≤ length l → paste l 0 (drop (n - k) l) (n - (n - k)) ≡ over l 0 (part l (n - k) k)
unfolding over
moved-front l n k le room =
    let size : n - (n - k) ≡ k = omega arith in
    let inside : k ≤ length (drop (n - k) l) = omega (arith, length-drop (n - k) l) in
    let long : length (part l (n - k) k) ≡ k = length-take-le k (drop (n - k) l) inside in
    rw (size, long) (append_assoc [] (take k (drop (n - k) l)) (drop (0 + k) l))

-- the cut
module _ (t : Tape) (letters lengths : List ℕ) where
  pub cut-not : within t (length letters) (length lengths) ≡ false → rest t letters lengths ≡ cut_off t letters lengths
  unfolding cut_off
  cut-not e = rw e

  pub cut-done :
      within t (length letters) (length lengths) ≡ true → (l n : List ℕ) → l ≡ over letters 0 (open_letters t letters) →
      n ≡ over lengths 0 (open_lengths t lengths) →
      rest (tape_of t.begun.letters t.begun.variants 0 t.begun) l n ≡ cut_off t letters lengths
  unfolding cut_off
  cut-done e l n f g = rw (e, f, g)

-- a front of n members, k of which are moved to the front
front_cut :
    (l : List ℕ) (n k : ℕ) → k ≤ n → n ≤ length l → take n l ≡ take (n - k) l ++ take k (over l 0 (part l (n - k) k))
front_cut l n k le room =
    let split : n ≡ (n - k) + k = omega arith in
    let inside : k ≤ length (drop (n - k) l) = omega (arith, length-drop (n - k) l) in
    let front : take k (over l 0 (part l (n - k) k)) ≡ part l (n - k) k =
    over-front l (part l (n - k) k) k (length-take-le k (drop (n - k) l) inside) in
    ap (λ (m : ℕ). take m l) split ∙ take-add (n - k) k l ∙ ap (λ (r : List ℕ). take (n - k) l ++ r) (sym front)

-- nothing is lost at a cut: what was held is the closed segments and what is held after it; no closed segment is held twice
pub record NothingLost (t : Tape) (letters lengths : List ℕ) (x : Rest) : Type 0 where
  pub letters-kept : take t.letters letters ≡ closed_letters t letters ++ take x.tape.letters x.letters
  pub lengths-kept : take t.lengths lengths ≡ closed_lengths t lengths ++ take x.tape.lengths x.lengths
  pub begun_kept : x.tape.begun ≡ t.begun
  pub counts-none : x.tape.counts ≡ 0

pub cut-kept :
    (t : Tape) (letters lengths : List ℕ) → within t (length letters) (length lengths) ≡ true →
    NothingLost t letters lengths (cut_off t letters lengths)
unfolding cut_off
cut-kept t letters lengths e =
    let w = within-is t (length letters) (length lengths) e in
    rw e (record {
      letters-kept = front_cut letters t.letters t.begun.letters w.letters-open w.letters-in;
      lengths-kept = front_cut lengths t.lengths t.begun.variants w.lengths-open w.lengths-in;
      begun_kept = refl;
      counts-none = refl;
    })

-- what is written of the closed segments
pub closed-given :
    (t : Tape) (letters lengths counts : List ℕ) (room : ℕ) → t.counts ≤ length counts →
    within t (length letters) (length lengths) ≡ true →
    closed_writing t letters lengths counts room
    ≡ writing (closed_letters t letters) (closed_lengths t lengths) (take t.counts counts) room
unfolding closed_writing
closed-given t letters lengths counts room l e = rw (e, le-leb t.counts (length counts) l)

module _ (t : Tape) (letters lengths counts d : List ℕ) where
  -- what is told and left
  abbrev Writes : Outcome ℕ → List ℕ → Type 0
  Writes told out =
      (told ≡ written (closed_writing t letters lengths counts (length d)))
      × (out ≡ left_by encode (closed_writing t letters lengths counts (length d)) d)

  pub closed-few : length counts < t.counts → Writes (refused 14 0) d
  unfolding closed_writing
  closed-few l = let e = lt-leb t.counts (length counts) l in (rw e refl, rw e refl)

  pub closed-not : within t (length letters) (length lengths) ≡ false → Writes (refused 14 0) d
  unfolding closed_writing
  closed-not e = let f = and-false (leb t.counts (length counts)) in (rw (e, f) refl, rw (e, f) refl)

  pub closed-done :
      t.counts ≤ length counts → within t (length letters) (length lengths) ≡ true → (told : Outcome ℕ) (out : List ℕ) →
      told ≡ written (writing (closed_letters t letters) (closed_lengths t lengths) (take t.counts counts) (length d)) →
      out ≡ left_by encode (writing (closed_letters t letters) (closed_lengths t lengths) (take t.counts counts) (length d)) d →
      Writes told out
  closed-done l e told out p q =
      let f = closed-given t letters lengths counts (length d) l e in (rw f p, rw f q)
