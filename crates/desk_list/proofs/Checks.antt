-- Laws of all lines of a list, and of what is said of it.
use Prim.Native.Nat.{ℕ, zero, suc, ◌+◌, ◌-◌, ◌≤◌, ◌<◌}
use native.Mathlib.Omega.{arith}
use native.Mathlib.Decide.{dec_lt}
use mathlib.Core.Path.{◌≡◌, refl, sym, ap, ◌∙◌}
use mathlib.Core.Logic.{by_cases}
use mathlib.Core.Bool.{cond, ◌||◌}
use mathlib.Core.List.{List, []}
use borrow.Author.Tests.{lt-leb}
use lib.ListN.{length}
use Rattle.std.proofs.Common.{Option, Some, None, Result, Ok, Err}
use Rattle.text.specs.Compare.{from_to}
use Rattle.desk_list.specs.Line.{Said, close_of, entry_of, behind, placed, line_of, Next, Onward}
use Rattle.desk_list.specs.Kinds.{in_line, past}
use Rattle.desk_list.specs.Lines.{next_of, then_lines, lines_from, rest_of, lines_of, then_sequences, sequences_in, sequences_of}
use Rattle.desk_list.specs.Lines.{is_wrong, wrong_in, counted, checked_of}
use Rattle.desk_list.specs.declared.reading.Fault.{Fault}
use Rattle.desk_list.specs.declared.reading.Withheld.{Withheld}
use Rattle.desk_list.specs.declared.reading.Line.{Line}
use Rattle.desk_list.specs.declared.checking.Unsound.{Unsound}
use Rattle.desk_list.proofs.Skips.{past-in}
use Rattle.desk_list.proofs.Entries.{line-none, behind-on}

module _ (s : List ℕ) where
  -- a line that begins in the list, by what it says
  pub line-there : (at : ℕ) → at < length s
      → line_of s at ≡ Some (placed at (behind s (past in_line s at)) (entry_of (from_to s at (close_of s at (past in_line s at)))))
  unfolding line_of
  line-there at l = rw (lt-leb (length s) at l) refl

  -- the next line begins after this one
  pub next-on : (at : ℕ) → at < length s → Next at (length s) (next_of (line_of s at))
  next-on at l =
      let p = past-in in_line s at in
      let stop : ℕ = past in_line s at in
      let is : next_of (line_of s at) ≡ behind s stop =
      ap next_of (line-there at l) in
      behind-on s is l p.0 p.1

  none_from : (k at : ℕ) → length s ≤ at → [] ≡ lines_from k s at
  unfolding lines_from
  none_from zero at l = refl
  none_from (suc k) at l = rw (← line-none s at l) refl

  -- more lines than there are bytes left are not there
  pub lines-enough : (j k at : ℕ) → length s - at ≤ j → length s - at ≤ k → lines_from j s at ≡ lines_from k s at
  unfolding lines_from
  lines-enough zero k at l m = let far : length s ≤ at = omega arith in none_from k at far
  lines-enough (suc j) zero at l m = let far : length s ≤ at = omega arith in sym (none_from (suc j) at far)
  lines-enough (suc j) (suc k) at l m =
      by_cases (dec_lt at (length s))
      (λ (h : at < length s).
      let n : ℕ = next_of (line_of s at) in
      let on : at < n = (next-on at h).0 in
      let l1 : length s - n ≤ j = omega (arith, on, l) in
      let m1 : length s - n ≤ k = omega (arith, on, m) in
      ap (then_lines (line_of s at)) (lines-enough j k n l1 m1))
      (λ (h : at < length s → ⊥). let far : length s ≤ at = omega arith in sym (none_from (suc j) at far) ∙ none_from (suc k) at far)

  -- the lines from a place on are the one there, and those after it
  pub rest-line : (at : ℕ) (l : Option Line) → line_of s at ≡ l → rest_of s at ≡ then_lines l (rest_of s (next_of l))
  unfolding rest_of lines_from
  rest-line at l e =
      by_cases (dec_lt at (length s))
      (λ (h : at < length s).
      let n : ℕ = next_of (line_of s at) in
      let one : length s - at ≡ suc (length s - suc at) = omega arith in
      let on : at < n = (next-on at h).0 in
      let few : length s - n ≤ length s - suc at = omega (arith, on) in
      let same : length s - n ≤ length s - n = omega arith in
      ap (λ (k : ℕ). lines_from k s at) one
      ∙ ap (then_lines (line_of s at)) (lines-enough (length s - suc at) (length s - n) n few same)
      ∙ ap (λ (x : Option Line). then_lines x (lines_from (length s - next_of x) s (next_of x))) e)
      (λ (h : at < length s → ⊥).
      let far : length s ≤ at = omega arith in
      let none : length s - at ≡ 0 = omega arith in
      let end : l ≡ None = sym e ∙ sym (line-none s at far) in
      rw (none, end) refl)

-- what a line says, from its two parts
pub said-whole : {said : Said} {x y : Option Withheld} → said ≡ Ok x → x ≡ y → said ≡ Ok y
said-whole e f = rw f at e

-- where the line after this one begins
pub next-line : {at n : ℕ} {l : Option Line} {line : Line} → l ≡ Some line → Onward at n l → Next at n line.next
next-line {at} {n} {l} {line} e h = let z : Onward at n (Some line) = rw e at h in z.1

-- what is said of a list, of which these lines are left after so many sequences
abbrev left_of : List ℕ → ℕ → List Line → Result ℕ Unsound
left_of s count ls = cond (wrong_in ls) (Err Unsound.Wrong) (counted (count + length (sequences_in s ls)))

-- the lines before `at` are right, and have that many sequences
pub record Checking (s : List ℕ) (at count : ℕ) : Type 0 where
  pub few : count ≤ at
  pub inside : at ≤ length s
  pub same : checked_of s ≡ left_of s count (rest_of s at)

pub checking-none : (s : List ℕ) → Checking s 0 0
unfolding checked_of lines_of sequences_of
checking-none s =
    let z : length (sequences_in s (rest_of s 0)) ≡ 0 + length (sequences_in s (rest_of s 0)) = omega arith in
    record {
      few = omega arith;
      inside = omega arith;
      same = ap (λ (n : ℕ). cond (wrong_in (rest_of s 0)) (Err Unsound.Wrong) (counted n)) z;
    }

module _ {s : List ℕ} {at count : ℕ} (p : Checking s at count) {l : Option Line} (e : l ≡ line_of s at) where
  left : {k : Option Line} → l ≡ k → checked_of s ≡ left_of s count (then_lines k (rest_of s (next_of k)))
  left {k} is = p.same ∙ ap (left_of s count) (rest-line s at k (sym e ∙ is))

  module _ {line : Line} (is : l ≡ Some line) where
    said_left :
        {said : Said} → line.said ≡ said →
        checked_of s
        ≡ cond (is_wrong said || wrong_in (rest_of s line.next)) (Err Unsound.Wrong)
        (counted (count + length (then_sequences s said (sequences_in s (rest_of s line.next)))))
    unfolding wrong_in sequences_in
    said_left says = rw (← says) (left is)

    pub checking-nothing : line.said ≡ Ok None → Next at (length s) line.next → Checking s line.next count
    checking-nothing says n = record { few = omega (arith, p.few, n.0); inside = n.1; same = said_left says }

    pub checking-more : {w : Withheld} → line.said ≡ Ok (Some w) → Next at (length s) line.next → Checking s line.next (count + 1)
    checking-more says n =
        let k : ℕ = length (sequences_in s (rest_of s line.next)) in
        let z : count + suc k ≡ count + 1 + k = omega arith in
        record {
          few = omega (arith, p.few, n.0);
          inside = n.1;
          same = said_left says ∙ ap (λ (n : ℕ). cond (wrong_in (rest_of s line.next)) (Err Unsound.Wrong) (counted n)) z;
        }

    pub checking-wrong : {fault : Fault} → line.said ≡ Err fault → Err Unsound.Wrong ≡ checked_of s
    checking-wrong says = sym (said_left says)

  pub checking-end : l ≡ None → {r : Result ℕ Unsound} → r ≡ counted count → r ≡ checked_of s
  unfolding wrong_in sequences_in
  checking-end is h = let z : count + 0 ≡ count = omega arith in h ∙ sym (left is ∙ ap counted z)
