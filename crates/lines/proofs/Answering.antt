-- The lines of a search's answer, from what the search tells and the marks that it leaves.
use Prim.Native.Nat.{ℕ, ◌+◌, ◌≤◌}
use native.Mathlib.Omega.{arith}
use mathlib.Core.Path.{◌≡◌, sym, ap, ap₂, ◌∙◌}
use mathlib.Core.List.{List, ◌++◌}
use lib.ListN.{length, take, drop, length-append}
use lib.Seq.{take_at}
use Rattle.text.specs.Text.{Text}
use Rattle.text.specs.Refusal.{Outcome, ok, after}
use Rattle.text.specs.declared.refusal.Refusal.{Refusal}
use Rattle.text.proofs.Outcomes.{told-met, told-refused}
use Rattle.layout.specs.Bytes.{over}
use Rattle.layout.specs.Bytes.{left_by}
use Rattle.search.specs.Answers.{Sums, searching, told_searched}
use Rattle.search.specs.declared.searching.Searched.{Searched}
use Rattle.search.specs.declared.searching.Searched.TheVariants.{Marked, Refused}
use Rattle.layout.specs.Pieces.{most_in_stretch}
use Rattle.lines.specs.Input.{pattern_in, stretch_in}
use Rattle.lines.specs.Puts.{Put}
use Rattle.lines.specs.Screening.{sums_on, marks_on}
use Rattle.lines.specs.Answer.{text_lines, refusal_line, answer_lines, lines_of}
use Rattle.lines.specs.declared.strands.Strands.{Strands}
use Rattle.lines.proofs.Screens.{on-length, on-sums}

module _ (S : Strands) (P s d left : List ℕ) (room : ℕ) (r : Searched)
    (told : told_searched r ≡ after (searching P s room) (λ t. ok (sums_on S P t)))
    (wrote : left ≡ left_by (marks_on S P) (searching P s room) d) where
  pub answered-refused :
      (wrong : Refusal) → r ≡ Refused wrong → refusal_line wrong.number wrong.place ≡ answer_lines S P (searching P s room)
  answered-refused wrong e =
      sym (ap (answer_lines S P) (told-refused (searching P s room) (sums_on S P) wrong.number wrong.place
      (sym told ∙ ap told_searched e)))

  module _ (n z m : ℕ) (e : r ≡ Marked n z m) where
    met : (t : Text) × (searching P s room ≡ ok t) × (sums_on S P t ≡ record { segments = n; size = z; ends = m })
    met = told-met (searching P s room) (sums_on S P) _ (sym told ∙ ap told_searched e)

    count : length (marks_on S P met.0) ≡ n
    count = on-length P met.0 S ∙ ap (λ (x : Sums). x.segments) (on-sums P met.0 S ∙ met.2)

    further : List ℕ
    further = drop (0 + length (marks_on S P met.0)) d

    front : left ≡ marks_on S P met.0 ++ further
    unfolding over further
    front = wrote ∙ ap (λ (o : Outcome Text). left_by (marks_on S P) o d) met.1

    -- there are as many marks as it tells segments
    pub answered-long : n ≤ length left
    answered-long = omega (arith, count, ap length front ∙ length-append (marks_on S P met.0) further)

    pub answered-marked : text_lines (record { segments = n; size = z; ends = m }) (take n left) ≡ answer_lines S P (searching P s room)
    answered-marked =
        let own : take n left ≡ marks_on S P met.0 = ap (take n) front ∙ take_at (marks_on S P met.0) further n count in
        ap₂ text_lines (sym met.2) own ∙ sym (ap (answer_lines S P) met.1)

-- what is put are the lines of an input with this pattern and this stretch
pub lines-put :
    {d out xs : List ℕ} {next : ℕ} (S : Strands) (input P s : List ℕ) → P ≡ pattern_in input → s ≡ stretch_in input →
    xs ≡ answer_lines S P (searching P s most_in_stretch) → Put d 0 xs out next → Put d 0 (lines_of S input) out next
unfolding lines_of
lines-put S input P s p q e put = rw (← p, ← q, ← e) put
