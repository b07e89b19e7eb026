-- Laws of the lines of the groups, byte by byte of their names.
use Rattle.std.proofs.Common.{◌≡◌, ℕ, suc, ◌+◌, ◌-◌, ◌%◌, ◌<◌, ◌≤◌, List, [], ◌∷◌, ◌++◌, length, get_or, take, drop, sym, refl, ap, ◌∙◌, append_assoc, append-nil, arith, length-drop, drop_of_length-le, get_or-drop, drop-cons, take-suc, eq-eqb, ne_eqb}
use Rattle.lines.specs.Decimal.{line}
use Rattle.lines.specs.Puts.{Put}
use Rattle.lines.proofs.Putting.{put-none, put-more}
use Rattle.test_tally.specs.Report.{colon_word, group_line, group_lines}

-- the line of a group
module _ (name d : List ℕ) (at count : ℕ) where
  pub group-none : count ≡ 0 → Put d at (group_line name count) d at
  unfolding group_line
  group-none e = rw (eq-eqb count 0 e) (put-none d at)

  pub group-line :
      {out after : List ℕ} {next end : ℕ} → (count ≡ 0 → ⊥) → Put d at name out next → Put out next (line colon_word count) after end →
      Put d at (group_line name count) after end
  unfolding group_line
  group-line h p q = rw (ne_eqb count 0 h) (put-more p q)

-- the bytes of a name that were read: those from `start` to i
abbrev pub up_to : List ℕ → ℕ → ℕ → List ℕ
up_to names start i = take (i - start) (drop start names)

module _ (groups names : List ℕ) (number start i : ℕ) where
  abbrev pub rest : List ℕ
  rest = group_lines groups number (up_to names start i) (drop i names)

  module _ (l : i < length names) where
    split : drop i names ≡ get_or names i 0 ∷ drop (i + 1) names
    split = let one : i + 1 ≡ suc i = omega arith in rw one (drop-cons names i 0 l)

    pub rest-named :
        get_or names i 0 ≡ 10 →
        rest ≡ group_line (up_to names start i) (get_or groups (number % 64) 0)
        ++ group_lines groups (number + 1) (up_to names (i + 1) (i + 1)) (drop (i + 1) names)
    unfolding group_lines
    rest-named e =
        let one : number + 1 ≡ suc number = omega arith in
        let none : i + 1 - (i + 1) ≡ 0 = omega arith in
        rw (split, eq-eqb (get_or names i 0) 10 e, one, none)

    pub rest-on :
        start ≤ i → (get_or names i 0 ≡ 10 → ⊥) → rest ≡ group_lines groups number (up_to names start (i + 1)) (drop (i + 1) names)
    unfolding group_lines
    rest-on b h =
        let long : i + 1 - start ≡ suc (i - start) = omega arith in
        let inside : i - start < length (drop start names) = omega (arith, length-drop start names) in
        let place : start + (i - start) ≡ i = omega arith in
        let byte : get_or (drop start names) (i - start) 0 ≡ get_or names i 0 =
        get_or-drop start names (i - start) 0 ∙ ap (λ (k : ℕ). get_or names k 0) place in
        let more : up_to names start (i + 1) ≡ up_to names start i ++ (get_or names i 0 ∷ []) =
        ap (λ (k : ℕ). take k (drop start names)) long
        ∙ take-suc (drop start names) (i - start) 0 inside
        ∙ ap (λ (x : ℕ). up_to names start i ++ (x ∷ [])) byte in
        rw (split, ne_eqb (get_or names i 0) 10 h, more)

  pub rest_end : length names ≤ i → rest ≡ []
  unfolding group_lines
  rest_end l = rw (drop_of_length-le names l)

-- the lines of the groups before `number` are put, and those from it on come next; its name begins at `start`
pub record Reporting (groups names d out : List ℕ) (next number start i : ℕ) : Type 0 where
  pub upto : i ≤ length names
  pub begun : start ≤ i
  pub few : number ≤ i
  pub done : List ℕ
  pub split : group_lines groups 0 [] names ≡ done ++ rest groups names number start i
  pub put : Put d 0 done out next

pub reporting-none : (groups names d : List ℕ) → Reporting groups names d d 0 0 0 0
reporting-none groups names d =
    record { upto = omega arith; begun = omega arith; few = omega arith; done = []; split = refl; put = put-none d 0 }

module _ {groups names d out : List ℕ} {next number start i : ℕ} (e : Reporting groups names d out next number start i) where
  pub reporting-named :
      {after : List ℕ} {end count : ℕ} → i < length names → get_or names i 0 ≡ 10 → count ≡ get_or groups (number % 64) 0 →
      Put out next (group_line (up_to names start i) count) after end →
      Reporting groups names d after end (number + 1) (i + 1) (i + 1)
  reporting-named {count = count} l is c p =
      let here : List ℕ = group_line (up_to names start i) count in
      let further : List ℕ = rest groups names (number + 1) (i + 1) (i + 1) in
      let more : rest groups names number start i ≡ here ++ further = rw c (rest-named groups names number start i l is) in
      record {
        upto = omega arith;
        begun = omega arith;
        few = omega (arith, e.few);
        done = e.done ++ here;
        split = e.split ∙ rw more (sym (append_assoc e.done here further));
        put = put-more e.put p;
      }

  pub reporting-on : i < length names → (get_or names i 0 ≡ 10 → ⊥) → Reporting groups names d out next number start (i + 1)
  reporting-on l is =
      record {
        upto = omega arith;
        begun = omega (arith, e.begun);
        few = omega (arith, e.few);
        done = e.done;
        split = rw (← rest-on groups names number start i l e.begun is) e.split;
        put = e.put;
      }

  pub reporting-end : length names ≤ i → Put d 0 (group_lines groups 0 [] names) out next
  reporting-end l =
      let all : group_lines groups 0 [] names ≡ e.done =
      e.split ∙ ap (λ (t : List ℕ). e.done ++ t) (rest_end groups names number start i l) ∙ append-nil e.done in
      rw all e.put
