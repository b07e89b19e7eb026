-- Marks on any strands: a row of zeros and ones, as long as the text, with a one exactly where an occurrence ends.
use Prim.Native.Nat.{ℕ, zero, suc, ◌≤◌, ◌<◌, max}
use native.Mathlib.Omega.{arith}
use mathlib.Core.Path.{◌≡◌, refl, sym, ◌∙◌}
use mathlib.Core.Logic.{◌⊎◌, inl, inr, ⊎_elim, ◌↔◌}
use mathlib.Core.Bool.{Bool, true, false, cond}
use mathlib.Core.List.{List, [], ◌∷◌}
use lib.ListN.{length, get_or}
use Rattle.std.proofs.Common.{Some, None}
use Rattle.text.specs.Text.{Text, total, size}
use Rattle.text.specs.State.{fresh, ends, next, marks, marks_from}
use Rattle.text.specs.Strand.{opposite, on_strand}
use Rattle.text.proofs.Marks.{marks-length}
use Rattle.text.proofs.Strands.{opposite-length, strand-length}
use Rattle.text.proofs.Occurrences.{marks-ends}
use Rattle.text.specs.Compare.{same}
use Rattle.text.specs.Refusal.{ok, after}
use Rattle.text.specs.declared.strand.Strand.TheVariants.{Given, Opposite}
use Rattle.layout.specs.Bytes.{left_by}
use Rattle.search.specs.Answers.{sums_of, seen_from, searching, told_searched}
use Rattle.search.specs.declared.searching.Searched.{Searched}
use Rattle.search.specs.Either.{united, either_marks, either_sums}
use Rattle.search.proofs.Eithers.{either-length}
use Rattle.lines.specs.Screening.{marks_on, sums_on, EndsOn, given_word, opposite_word, either_word, named_by}
use Rattle.lines.specs.declared.strands.Strands.{Strands}
use Rattle.lines.specs.declared.strands.Strands.TheVariants.{One, Either}

-- each mark is 0 or 1
abbrev pub Row : List ℕ → Type 0
Row [] = Unit {0}
Row (x ∷ xs) = (x ≤ 1) × Row xs

one-or-none : (b : Bool) → cond b 1 0 ≤ 1
one-or-none true = omega arith
one-or-none false = omega arith

marks-row : (P : List ℕ) (st : ℕ) (T : Text) → Row (marks_from P st T)
unfolding marks_from
marks-row P st [] = tt
marks-row P st (g ∷ T) = (one-or-none (ends P st g), marks-row P (next P st g) T)

united-row : (k l : List ℕ) → Row k → Row l → Row (united k l)
unfolding united
united-row [] l r q = tt
united-row (a ∷ k) [] r q = tt
united-row (a ∷ k) (b ∷ l) r q = (let z : max a b ≤ 1 = omega (arith, r.0, q.0) in z, united-row k l r.1 q.1)

-- a one in the union is a one in either row
united-one : (k l : List ℕ) (j : ℕ) → Row k → Row l → get_or (united k l) j 0 ≡ 1 → (get_or k j 0 ≡ 1) ⊎ (get_or l j 0 ≡ 1)
unfolding united
united-one [] l j r q e = absurd (let z : ⊥ = omega arith in z)
united-one (a ∷ k) [] j r q e = absurd (let z : ⊥ = omega arith in z)
united-one (zero ∷ k) (b ∷ l) zero r q e = inr (let z : b ≡ 1 = omega (arith, e) in z)
united-one (suc a ∷ k) (b ∷ l) zero r q e = inl (let z : suc a ≡ 1 = omega (arith, r.0) in z)
united-one (a ∷ k) (b ∷ l) (suc j) r q e = united-one k l j r.1 q.1 e

one-united : (k l : List ℕ) (j : ℕ) → Row k → Row l → length k ≡ length l → (get_or k j 0 ≡ 1) ⊎ (get_or l j 0 ≡ 1) → get_or (united k l) j 0 ≡ 1
unfolding united
one-united [] [] j r q same h = ⊎_elim (λ e. e) (λ e. e) h
one-united [] (b ∷ l) j r q same h = absurd (let z : ⊥ = omega arith in z)
one-united (a ∷ k) [] j r q same h = absurd (let z : ⊥ = omega arith in z)
one-united (a ∷ k) (b ∷ l) zero r q same h =
    ⊎_elim
    (λ (e : a ≡ 1). let z : max a b ≡ 1 = omega (arith, q.0) in z)
    (λ (e : b ≡ 1). let z : max a b ≡ 1 = omega (arith, r.0) in z)
    h
one-united (a ∷ k) (b ∷ l) (suc j) r q same h = one-united k l j r.1 q.1 (omega arith) h

module _ (P : List ℕ) (t : Text) where
  pub on-length : (S : Strands) → length (marks_on S P t) ≡ length t
  unfolding marks
  on-length (One strand) = marks-length (on_strand strand P) fresh t
  on-length Either = either-length P t

  pub on_row : (S : Strands) → Row (marks_on S P t)
  unfolding marks either_marks
  on_row (One strand) = marks-row (on_strand strand P) fresh t
  on_row Either = united-row (marks P t) (marks (opposite P) t) (marks-row P fresh t) (marks-row (opposite P) fresh t)

  -- what a search tells, by its marks
  pub on-sums : (S : Strands) → record { segments = length t; size = size t; ends = total (λ x. x) (marks_on S P t) } ≡ sums_on S P t
  unfolding sums_of seen_from marks either_sums
  on-sums (One strand) = refl
  on-sums Either = refl

  -- the marks are where occurrences end
  pub on-ends : (S : Strands) (j : ℕ) → 0 < length P → (get_or (marks_on S P t) j 0 ≡ 1) ↔ EndsOn S P t j
  unfolding marks either_marks
  on-ends (One strand) j some =
      marks-ends (on_strand strand P) t j (let z : 0 < length (on_strand strand P) = omega (arith, strand-length strand P) in z)
  on-ends Either j some =
      let turned : 0 < length (opposite P) = omega (arith, opposite-length P) in
      let own : Row (marks P t) = marks-row P fresh t in
      let other : Row (marks (opposite P) t) = marks-row (opposite P) fresh t in
      let same : length (marks P t) ≡ length (marks (opposite P) t) = marks-length P fresh t ∙ sym (marks-length (opposite P) fresh t) in (
        λ e.
            ⊎_elim
            (λ a. inl ((marks-ends P t j some).0 a))
            (λ b. inr ((marks-ends (opposite P) t j turned).0 b))
            (united-one (marks P t) (marks (opposite P) t) j own other e),
        λ h.
            one-united (marks P t) (marks (opposite P) t) j own other same
            (⊎_elim (λ a. inl ((marks-ends P t j some).1 a)) (λ b. inr ((marks-ends (opposite P) t j turned).1 b)) h),
      )

-- the strands that a word names, test by test
module _ (w : List ℕ) where
  pub named-given : same w given_word ≡ true → Some (One Given) ≡ named_by w
  unfolding named_by
  named-given a = rw a refl

  module _ (a : same w given_word ≡ false) where
    pub named-opposite : same w opposite_word ≡ true → Some (One Opposite) ≡ named_by w
    unfolding named_by
    named-opposite b = rw (a, b) refl

    module _ (b : same w opposite_word ≡ false) where
      pub named-either : same w either_word ≡ true → Some Either ≡ named_by w
      unfolding named_by
      named-either e = rw (a, b, e) refl

      pub named-unknown : same w either_word ≡ false → None ≡ named_by w
      unfolding named_by
      named-unknown e = rw (a, b, e) refl

-- what a search on these strands answers, and what it leaves
abbrev pub Answers : Strands → (P s d left : List ℕ) → ℕ → Searched → Type 0
Answers S P s d left room r =
    (told_searched r ≡ after (searching P s room) (λ t. ok (sums_on S P t)))
    × (left ≡ left_by (marks_on S P) (searching P s room) d)

pub known_on :
    {S K : Strands} (e : S ≡ K) (P s d left : List ℕ) (room : ℕ) (r : Searched) → Answers K P s d left room r → Answers S P s d left room r
known_on e P s d left room r h = rw e h
