-- What the lines tell. Those of an accepted input name exactly the segments in which an occurrence ends, in rising order, with their
-- number before and the first of them after; `first none` stands exactly where that number is 0; the digits tell a number; and the
-- files of a text have different names.
use Prim.Native.Nat.{ℕ, zero, suc, ◌+◌, ◌-◌, ◌*◌, ◌/◌, ◌%◌, ◌≤◌, ◌<◌}
use native.Mathlib.Omega.{arith}
use native.Mathlib.Decide.{dec_lt}
use mathlib.Core.Path.{◌≡◌, refl, sym, ap, ◌∙◌}
use mathlib.Core.Logic.{⊎_elim, by_cases, ◌↔◌}
use mathlib.Core.List.{List, [], ◌∷◌, ◌++◌, append_assoc, append_cancel_left}
use mathlib.Core.List.Memᴰ
use mathlib.Core.List.{Memᴰ}
use lib.ListN.{length, get_or, get_or-append}
use Rattle.text.specs.Text.{Text, size}
use Rattle.text.specs.Refusal.{ok, refused}
use Rattle.layout.specs.Pieces.{most_in_stretch}
use Rattle.search.specs.Answers.{Sums}
use Rattle.lines.specs.Input.{pattern_in, stretch_in}
use Rattle.lines.specs.Decimal.{digit, digits, line}
use Rattle.lines.specs.Answer.{segments_word, size_word, ends_word, none_line, marked_from, end_lines, first_line, text_lines}
use Rattle.lines.specs.Answer.{refusal_line, answer_lines, screening, lines_of}
use Rattle.lines.proofs.Digits.{digits-one, digits_more, digits-some, digits-front}
use Rattle.lines.proofs.Named.{Rising, named-is, is-named, named-rising, named_count}
use Rattle.lines.specs.Screening.{marks_on, EndsOn}
use Rattle.lines.specs.declared.strands.Strands.{Strands}
use Rattle.lines.proofs.Screens.{on_row, on-sums, on-ends}
use Rattle.lines.proofs.Enough.{searched-sound}
-- numbers up to 99,999 have names of their own, and the next one has the name of 0
pub use Rattle.lines.proofs.FileNames.{numbered-apart, numbered-again}

-- the lines of a text, where the segments of this list are named
unfoldable pub naming : Text → List ℕ → List ℕ
naming t js =
    line segments_word (length t) ++ line size_word (size t) ++ line ends_word (length js) ++ end_lines js ++ first_line js

-- the lines of a text in which occurrences of P on these strands end: they name exactly these segments
pub record Printed (S : Strands) (P : List ℕ) (t : Text) (lines : List ℕ) : Type 0 where
  pub named : List ℕ
  pub are : lines ≡ naming t named
  pub rising : Rising named
  pub exactly : (j : ℕ) → Memᴰ j named ↔ EndsOn S P t j

-- the lines of an accepted input
pub accepted : (S : Strands) (input : List ℕ) (t : Text) → screening input ≡ ok t → Printed S (pattern_in input) t (lines_of S input)
unfolding lines_of text_lines naming
accepted S input t e =
    let P : List ℕ = pattern_in input in
    let ms : List ℕ = marks_on S P t in
    let all : List ℕ = marked_from 0 ms in
    let (sound, _) = searched-sound P (stretch_in input) most_in_stretch t e in
    record {
      named = all;
      are =
          ap (answer_lines S P) e
          ∙ ap (λ (x : Sums). text_lines x ms) (sym (on-sums P t S))
          ∙ ap
          (λ (n : ℕ). line segments_word (length t) ++ line size_word (size t) ++ line ends_word n ++ end_lines all ++ first_line all)
          (named_count 0 ms (on_row P t S));
      rising = named-rising 0 ms;
      exactly = λ j. (
        λ m.
            let h = named-is 0 ms j m in
            let same : j ≡ h.0 = omega (arith, h.1) in
            (on-ends P t S j sound.some).0 (rw same h.2),
        λ h.
            let same : j ≡ 0 + j = omega arith in
            Memᴰ.cast same (is-named 0 ms j ((on-ends P t S j sound.some).1 h)),
      );
    }

-- the line of a refused one
pub turned_down : (S : Strands) (input : List ℕ) (n p : ℕ) → screening input ≡ refused n p → lines_of S input ≡ refusal_line n p
unfolding lines_of
turned_down S input n p e = ap (answer_lines S (pattern_in input)) e

-- the first one named is the least
pub first-least : (j : ℕ) (js : List ℕ) → Rising (j ∷ js) → (i : ℕ) → Memᴰ i (j ∷ js) → j ≤ i
first-least j js r i m =
    ⊎_elim (λ e. let z : j ≤ i = omega (arith, e) in z) (λ h. let z : j ≤ i = omega (arith, r.0 i h) in z) (Memᴰ.cases_cons m)

-- `first none` exactly when there are 0
pub first-none : (js : List ℕ) → (first_line js ≡ none_line) ↔ (length js ≡ 0)
unfolding first_line line
first-none [] = (λ e. refl, λ e. refl)
first-none (j ∷ js) = (
  λ e.
      let letter : get_or (digits j ++ (10 ∷ [])) 0 0 ≡ 0x6E = ap (λ (l : List ℕ). get_or l 6 0) e in
      let front = get_or-append (digits j) (10 ∷ []) 0 0 (digits-some j) in
      absurd (let z : ⊥ = omega (arith, digits-front j) in z),
  λ e. absurd (let z : ⊥ = omega arith in z),
)

-- what stands in the lines from the number of marked segments on
abbrev behind : List ℕ → List ℕ
behind js = digits (length js) ++ ((10 ∷ []) ++ (end_lines js ++ first_line js))

regroup : (a b w n x e f : List ℕ) → a ++ b ++ (w ++ n ++ x) ++ e ++ f ≡ (a ++ b ++ w) ++ (n ++ (x ++ (e ++ f)))
regroup a b w n x e f = simp append_assoc

naming-split : (t : Text) (js : List ℕ) → naming t js ≡ (line segments_word (length t) ++ line size_word (size t) ++ ends_word) ++ behind js
unfolding naming line
naming-split t js =
    regroup (line segments_word (length t)) (line size_word (size t)) ends_word (digits (length js)) (10 ∷ []) (end_lines js) (first_line js)

none_named : (t : Text) (js : List ℕ) → naming t js ≡ naming t [] → js ≡ []
none_named t [] e = refl
none_named t (j ∷ js) e =
    let number : ℕ = suc (length js) in
    let common : List ℕ = line segments_word (length t) ++ line size_word (size t) ++ ends_word in
    let same : behind (j ∷ js) ≡ behind [] =
    append_cancel_left common (behind (j ∷ js)) (behind []) (sym (naming-split t (j ∷ js)) ∙ e ∙ naming-split t []) in
    let own : get_or (behind (j ∷ js)) 0 0 ≡ get_or (digits number) 0 0 = get_or-append (digits number) _ 0 0 (digits-some number) in
    let none : get_or (behind []) 0 0 ≡ 48 =
    get_or-append (digits 0) _ 0 0 (digits-some 0) ∙ ap (λ (l : List ℕ). get_or l 0 0) (digits-one 0 (omega arith)) in
    let more : 48 < get_or (digits number) 0 0 = (digits-front number).some (omega arith) in
    absurd (let z : ⊥ = omega (arith, ap (λ (l : List ℕ). get_or l 0 0) same) in z)

none-listed : {js : List ℕ} {j : ℕ} → js ≡ [] → Memᴰ j js → ⊥
none-listed e m = Memᴰ.not-nil (rw e at m)

none-ends : (js : List ℕ) → ((j : ℕ) → Memᴰ j js → ⊥) → js ≡ []
none-ends [] h = refl
none-ends (j ∷ js) h = absurd (h j (Memᴰ.head refl))

-- no segment is named, with `ends 0` and `first none`, exactly when no occurrence on these strands ends anywhere
pub clear :
    (S : Strands) (input : List ℕ) (t : Text) → screening input ≡ ok t →
    (lines_of S input ≡ naming t []) ↔ ((j : ℕ) → EndsOn S (pattern_in input) t j → ⊥)
clear S input t e = (
  λ is j h. none-listed (none_named t p.named (sym p.are ∙ is)) ((p.exactly j).1 h),
  λ none. p.are ∙ ap (naming t) (none-ends p.named (λ j m. none j ((p.exactly j).0 m))),
)
  where
    p : Printed S (pattern_in input) t (lines_of S input)
    p = accepted S input t e

-- the number that digits tell, from the highest on, after those that told n
unfoldable pub value : ℕ → List ℕ → ℕ
value n [] = n
value n (d ∷ ds) = value (10 * n + (d - 48)) ds

value-more : (n : ℕ) (ds : List ℕ) (d : ℕ) → value n (ds ++ (d ∷ [])) ≡ 10 * value n ds + (d - 48)
unfolding value
value-more n [] d = refl
value-more n (x ∷ ds) d = value-more (10 * n + (x - 48)) ds d

value-below : (k n : ℕ) → n < k → value 0 (digits n) ≡ n
unfolding value
value-below zero n l = absurd (let z : ⊥ = omega arith in z)
value-below (suc k) n l =
    by_cases (dec_lt n 10)
    (λ (few : n < 10). rw (digits-one n few) (omega arith))
    (λ (many : n < 10 → ⊥).
    let ten : 10 ≤ n = omega arith in
    let tenth : value 0 (digits (n / 10)) ≡ n / 10 = value-below k (n / 10) (omega arith) in
    rw (digits_more n ten, value-more 0 (digits (n / 10)) (digit (n % 10)), tenth) (omega arith))

-- the digits of a number tell it
pub told : (n : ℕ) → value 0 (digits n) ≡ n
told n = value-below (suc n) n (omega arith)
