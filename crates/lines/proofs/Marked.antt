-- Laws of the lines of marked segments, mark by mark.
use Prim.Native.Nat.{ℕ, zero, suc, ◌+◌, ◌≤◌, ◌<◌}
use native.Mathlib.Numerals.{add-one}
use native.Mathlib.Omega.{arith}
use mathlib.Core.Path.{◌≡◌, refl, sym, ap, ◌∙◌}
use mathlib.Core.Bool.{Bool, true, false, cond}
use mathlib.Core.List.{List, [], ◌∷◌, ◌++◌, append-nil, append_assoc}
use borrow.Author.Tests.{eq-eqb, ne_eqb}
use lib.ListN.{length, drop, get_or, drop_of_length-le}
use lib.Seq.{drop-cons}
use Rattle.lines.specs.Decimal.{line}
use Rattle.lines.specs.Puts.{Put}
use Rattle.lines.specs.Answer.{end_word, first_word, none_line, marked_from, end_lines, first_line}
use Rattle.lines.proofs.Putting.{put-none, put-more}

-- what holds of the marked segments whether the first one is marked or not
pub either : (b : Bool) (j : ℕ) (js : List ℕ) (Q : List ℕ → Type 0) → Q (j ∷ js) → Q js → Q (cond b (j ∷ js) js)
either true j js Q a b = a
either false j js Q a b = b

-- the marked segments from segment k on
abbrev pub from : List ℕ → ℕ → List ℕ
from marks k = marked_from k (drop k marks)

module _ (marks : List ℕ) (k : ℕ) where
  module _ (l : k < length marks) where
    split : drop k marks ≡ get_or marks k 0 ∷ drop (k + 1) marks
    split = let one : k + 1 ≡ suc k = omega arith in rw one (drop-cons marks k 0 l)

    pub from-marked : get_or marks k 0 ≡ 1 → from marks k ≡ k ∷ from marks (k + 1)
    unfolding marked_from
    from-marked e = let one : k + 1 ≡ suc k = omega arith in rw (split, eq-eqb (get_or marks k 0) 1 e, one)

    pub from-unmarked : (get_or marks k 0 ≡ 1 → ⊥) → from marks k ≡ from marks (k + 1)
    unfolding marked_from
    from-unmarked e = let one : k + 1 ≡ suc k = omega arith in rw (split, ne_eqb (get_or marks k 0) 1 e, one)

  pub from_end : length marks ≤ k → from marks k ≡ []
  unfolding marked_from
  from_end l = rw (drop_of_length-le marks l)

-- the lines of the marked segments before k are put, and those from k on come next
pub record Ending (marks d : List ℕ) (at : ℕ) (out : List ℕ) (next k : ℕ) : Type 0 where
  pub upto : k ≤ length marks
  pub done : List ℕ
  pub split : end_lines (marked_from 0 marks) ≡ done ++ end_lines (from marks k)
  pub put : Put d at done out next

pub ending-none : (marks d : List ℕ) (at : ℕ) → Ending marks d at d at 0
ending-none marks d at = record { upto = omega arith; done = []; split = refl; put = put-none d at }

module _ {marks d : List ℕ} {at : ℕ} {out : List ℕ} {next k : ℕ} (e : Ending marks d at out next k) where
  pub ending-marked :
      {after : List ℕ} {end : ℕ} → k < length marks → get_or marks k 0 ≡ 1 → Put out next (line end_word k) after end →
      Ending marks d at after end (k + 1)
  unfolding end_lines
  ending-marked l is p =
      let more : end_lines (from marks k) ≡ line end_word k ++ end_lines (from marks (k + 1)) = rw (from-marked marks k l is) in
      record {
        upto = omega arith;
        done = e.done ++ line end_word k;
        split = e.split ∙ rw more (sym (append_assoc e.done (line end_word k) (end_lines (from marks (k + 1)))));
        put = put-more e.put p;
      }

  pub ending-unmarked : k < length marks → (get_or marks k 0 ≡ 1 → ⊥) → Ending marks d at out next (k + 1)
  ending-unmarked l is =
      record { upto = omega arith; done = e.done; split = rw (← from-unmarked marks k l is) e.split; put = e.put }

  pub ending-end : length marks ≤ k → Put d at (end_lines (marked_from 0 marks)) out next
  unfolding end_lines
  ending-end l =
      let none : end_lines (from marks k) ≡ [] = rw (from_end marks k l) in
      let all : end_lines (marked_from 0 marks) ≡ e.done = e.split ∙ ap (λ (t : List ℕ). e.done ++ t) none ∙ append-nil e.done in
      rw all e.put

-- where no segment before k is marked, the marked ones are those from k on
unmarked-before :
    (marks : List ℕ) (k : ℕ) → k ≤ length marks → ((i : ℕ) → i < k → get_or marks i 0 ≡ 1 → ⊥) → marked_from 0 marks ≡ from marks k
unmarked-before marks zero l none = refl
unmarked-before marks (suc k) l none =
    unmarked-before marks k (omega arith) (λ i b. none i (omega arith))
    ∙ from-unmarked marks k (omega arith) (none k (omega arith))
    ∙ ap (from marks) (add-one k)

-- the first mark that is 1, or none
module _ (marks : List ℕ) where
  pub first-marked :
      (k : ℕ) → k < length marks → get_or marks k 0 ≡ 1 → ((i : ℕ) → i < k → get_or marks i 0 ≡ 1 → ⊥) →
      line first_word k ≡ first_line (marked_from 0 marks)
  unfolding first_line
  first-marked k l is none = sym (ap first_line (unmarked-before marks k (omega arith) none ∙ from-marked marks k l is))

  pub none-marked : ((i : ℕ) → i < length marks → get_or marks i 0 ≡ 1 → ⊥) → none_line ≡ first_line (marked_from 0 marks)
  unfolding first_line
  none-marked none =
      sym (ap first_line (unmarked-before marks (length marks) (omega arith) none ∙ from_end marks (length marks) (omega arith)))
