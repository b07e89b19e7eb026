-- How far the lines of a file have come, and what one line more makes of it.
use Rattle.std.specs.Prelude.{ℕ, ◌+◌, ◌-◌, ◌≤◌, min, ◌≡◌, true, cond, List, [], ◌∷◌, Option, None, Some, Result, Ok, Err, length, drop}
use Rattle.text.specs.Refusal.{Outcome, ok, refused, after, outcome}
use Rattle.text.specs.declared.refusal.Refusal.{Refusal}
use Rattle.vcf.specs.Pieces.{lines}
use Rattle.vcf.specs.Records.{beyond, position, reference, alts, behind, passed_over, comment, fitting, records}
use Rattle.vcf.specs.Records.{placed}
use Rattle.vcf.specs.Building.{gap, text_from}
use Rattle.vcf.specs.Tallies.{Tally, nothing, opened, tally_in, tally_text, Sane}
use Rattle.vcf.specs.declared.survey.needed.Needed.{Needed}
use Rattle.vcf.specs.declared.survey.scan.Reached.{Reached}
use Rattle.vcf.specs.declared.survey.scan.Gathered.{Gathered}

-- after a record outside the window, and after one in it
abbrev pub over_record : Reached → List ℕ → Reached
over_record s l = record { from = min beyond (behind l); base = s.base; kept = s.kept; needed = s.needed }

abbrev pub behind_record : List ℕ → ℕ → Reached → List ℕ → Reached
behind_record w p s l =
    record {
      from = min beyond (behind l);
      base = behind l - p;
      kept = s.kept + 1;
      needed = tally_in (opened (tally_text s.needed (gap w s.base (position l - p)))) [] (reference l ∷ alts l);
    }

-- one line more, if it is right
unfoldable pub line_step : List ℕ → List ℕ → ℕ → Reached → List ℕ → Option Reached
line_step name w p s l =
    cond (comment l) (Some s)
    (cond (fitting name w p s.from l)
    (Some (cond (passed_over w p l) (over_record s l) (behind_record w p s l)))
    None)

-- what every line leaves: the base is not after the last record, nor after the window, and each record has moved it
pub record Reach (w : List ℕ) (p : ℕ) (s : Reached) : Type 0 where
  pub put : placed w p ≡ true
  pub sane : Sane s.needed
  pub passed : s.base ≤ s.from - p
  pub inside : s.base ≤ length w
  pub few : s.kept ≤ s.base

-- what the text needs
abbrev pub told_gathered : Result Gathered Refusal → Outcome Needed
told_gathered (Ok g) = ok g.needed
told_gathered (Err r) = refused r.number r.place

-- the lines from place `start` on say what all lines say, and n of them are records in the window
pub record Starting (name w : List ℕ) (p : ℕ) (file : List ℕ) (start n : ℕ) : Type 0 where
  pub inside : start ≤ length file
  pub number : ℕ
  pub from : ℕ
  pub begins : records name w p 1 0 (lines file) ≡ records name w p number from (lines (drop start file))
  pub count : (rs : List (List ℕ)) → records name w p 1 0 (lines file) ≡ ok rs → n ≡ length rs

abbrev pub Starts : List ℕ → List ℕ → ℕ → List ℕ → Result Gathered Refusal → Type 0
Starts name w p file (Ok g) = Starting name w p file g.start g.kept
Starts name w p file (Err r) = Unit {0}

-- what the text of the lines from number n on needs, after what was reached: 19 at the first wrong line, then 4
unfoldable pub scan_from : List ℕ → List ℕ → ℕ → ℕ → ℕ → ℕ → Tally → List (List ℕ) → Outcome Needed
scan_from name w p n from base t ls = after (records name w p n from ls) λ rs. outcome (tally_text t (text_from w p base rs))

unfoldable pub scanning : List ℕ → List ℕ → ℕ → List ℕ → Outcome Needed
scanning name w p file = scan_from name w p 1 0 0 nothing (lines file)
