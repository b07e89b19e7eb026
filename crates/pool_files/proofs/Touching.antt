-- Building from the lines that touch a window is building from the whole file: records outside the window change nothing but what they
-- may refuse.
use Rattle.std.proofs.Common.{◌≡◌, ℕ, suc, ◌≤◌, Bool, true, false, cond, ◌&&◌, ◌||◌, leb, List, [], ◌∷◌, sym, refl, ap, ◌∙◌, ap₂, arith, le-leb, leb-true}
use Rattle.text.specs.Compare.{prefix}
use Rattle.text.specs.Letter.{letter, meant, every, first_not}
use Rattle.text.specs.Refusal.{Outcome, ok, demand, after}
use Rattle.text.proofs.Truth.{and_left, and_right}
use Rattle.text.proofs.Outcomes.{demand-met, after-met, ok-inj}
use Rattle.writer.specs.Putting.{putting}
use Rattle.vcf.specs.Pieces.{lines}
use Rattle.vcf.specs.Records.{position, reference, behind, comment, is_record, passed_over, agrees, fitting, records}
use Rattle.vcf.specs.Records.{heading, placed}
use Rattle.vcf.specs.Building.{text_from, building}

module _ (name w : List ℕ) (p : ℕ) where
  -- the records that lines keep are kept where they stand alone
  abbrev Alone : List (List ℕ) → Type 0
  Alone ls =
      (rs : List (List ℕ)) (n from m start : ℕ) →
      start ≤ from →
      records name w p n from ls ≡ ok rs →
      records name w p m start rs ≡ ok rs

  module _ (l : List ℕ) (from : ℕ) (fits : fitting name w p from l ≡ true) where
    abbrev there : Bool
    there = passed_over w p l || agrees w p (position l) (reference l)

    both : (is_record name l && leb from (position l)) ≡ true
    unfolding fitting
    both = and_left (is_record name l && leb from (position l)) there fits

    late : from ≤ position l
    late = leb-true from (position l) (and_right (is_record name l) (leb from (position l)) both)

    earlier : (start : ℕ) → start ≤ from → fitting name w p start l ≡ true
    unfolding fitting
    earlier start le =
        let sound : is_record name l ≡ true = and_left (is_record name l) (leb from (position l)) both in
        let lies : there ≡ true = and_right (is_record name l && leb from (position l)) there fits in
        let first : leb start (position l) ≡ true = le-leb start (position l) (omega (arith, late)) in
        rw (sound, first, lies)

  module _ (l : List ℕ) (ls : List (List ℕ)) (alone : Alone ls) where
    one_more : Alone (l ∷ ls)
    unfolding records
    one_more rs n from m start le h = cases (comment l) (passed_over w p l) refl refl h
      where
        cases : (b c : Bool) → comment l ≡ b → passed_over w p l ≡ c →
            cond b (records name w p (suc n) from ls)
            (demand (fitting name w p from l) 19 n (after (records name w p (suc n) (behind l) ls) λ xs. ok (cond c xs (l ∷ xs)))) ≡ ok rs →
            records name w p m start rs ≡ ok rs
        cases true c e f h = alone rs (suc n) from m start le h
        cases false true e f h =
            let d = demand-met (fitting name w p from l) 19 n (after (records name w p (suc n) (behind l) ls) λ xs. ok xs) rs h in
            let k = after-met (records name w p (suc n) (behind l) ls) (λ xs. ok xs) rs d.1 in
            let further : start ≤ behind l = omega (arith, late l from d.0) in
            alone rs (suc n) (behind l) m start further (k.1 ∙ k.2)
        cases false false e f h =
            let d = demand-met (fitting name w p from l) 19 n (after (records name w p (suc n) (behind l) ls) λ xs. ok (l ∷ xs)) rs h in
            let k = after-met (records name w p (suc n) (behind l) ls) (λ xs. ok (l ∷ xs)) rs d.1 in
            let is : rs ≡ l ∷ k.0 = sym (ok-inj k.2) in
            let same : behind l ≤ behind l = omega arith in
            let rest : records name w p (suc m) (behind l) k.0 ≡ ok k.0 =
            alone k.0 (suc n) (behind l) (suc m) (behind l) same k.1 in
            rw is (rw (e, earlier l from d.0 start le, rest, f))

  pub alone : (ls : List (List ℕ)) → Alone ls
  unfolding records
  alone [] rs n from m start le h = let none : rs ≡ [] = sym (ok-inj h) in rw none
  alone (l ∷ ls) rs n from m start le h = one_more l ls (alone ls) rs n from m start le h

  over-top : (top : List ℕ) (kept : List (List ℕ)) → comment top ≡ true → records name w p 1 0 (top ∷ kept) ≡ records name w p 2 0 kept
  unfolding records
  over-top top kept skipped = rw skipped

-- a file whose lines are a comment, as the heading is, and those lines of a whole file that touch the window, is built as that file is
pub touching-builds :
    (name window : List ℕ) (p : ℕ) (whole file : List ℕ) (room : ℕ) (top : List ℕ) (kept : List (List ℕ)) →
    prefix heading whole ≡ true →
    records name (meant window) p 1 0 (lines whole) ≡ ok kept →
    prefix heading file ≡ true →
    lines file ≡ top ∷ kept →
    comment top ≡ true →
    building file window p name room ≡ building whole window p name room
unfolding building
touching-builds name window p whole file room top kept begun accepted begins are skipped =
    let w : List ℕ = meant window in
    let same : 0 ≤ 0 = omega arith in
    let rest : records name w p 2 0 kept ≡ ok kept = alone name w p (lines whole) kept 1 0 2 0 same accepted in
    let own : records name w p 1 0 (lines file) ≡ ok kept
    = ap (records name w p 1 0) are ∙ over-top name w p top kept skipped ∙ rest in
    ap₂
    (λ (first : Bool) (found : Outcome (List (List ℕ))).
    demand (placed window p) 28 0
    (demand first 18 0
    (demand (every letter window) 7 (first_not letter window)
    (after found λ ls. putting (text_from w p 0 ls) room))))
    (begins ∙ sym begun)
    (own ∙ sym accepted)
