-- Laws of the call: each refusal of the code is the definition's, in its order, whatever the room is.
use Prim.Native.Nat.{ℕ, ◌<◌, ◌≤◌}
use native.Mathlib.Omega.{arith}
use mathlib.Core.Path.{◌≡◌, refl, sym, ap, ap₂, ◌∙◌}
use mathlib.Core.Bool.{true, false}
use mathlib.Core.List.{List}
use lib.ListN.{length}
use borrow.Author.Tests.{le-leb, lt-leb}
use Rattle.text.specs.Letter.{letter, meant, every, first_not}
use Rattle.text.specs.Text.{Text}
use Rattle.text.specs.Compare.{prefix}
use Rattle.text.specs.Refusal.{Outcome, ok, refused, after, outcome}
use Rattle.text.proofs.Letters.{first-le, first-every, first-not-every}
use Rattle.text.proofs.Outcomes.{refused-ok, refused-inj, after-met}
use Rattle.layout.specs.Encoding.{encode}
use Rattle.writer.specs.Putting.{putting}
use Rattle.vcf.specs.Pieces.{lines}
use Rattle.vcf.specs.Records.{heading, placed, records, touching}
use Rattle.vcf.proofs.Kept.{kept}
use Rattle.vcf.proofs.Windows.{placed-meant}
use Rattle.vcf.specs.Building.{text_from, window_text, building}
use Rattle.std.proofs.Common.{Result, Ok, Err}
use Rattle.text.specs.declared.refusal.Refusal.{Refusal}
use Rattle.text.proofs.Told.{told-once}
use Rattle.vcf.specs.Tallies.{Tally, nothing, tally_text}
use Rattle.vcf.specs.Steps.{Starting, scan_from, scanning}
use Rattle.vcf.specs.Surveys.{Readable, Built, Unbuilt}
use Rattle.vcf.specs.declared.survey.needed.Needed.{Needed}
use Rattle.vcf.proofs.Verdicts.{told-long, told-repeated, told-fits, Fitting}

-- what is told is what was answered
told-ok : {A : Type 0} (x : Result A Refusal) (a : A) → outcome x ≡ ok a → x ≡ Ok a
told-ok x a e = told-once x (Ok a) e

refused-alike : {A B : Type 0} {m q n k : ℕ} → ◌≡◌ {A = Outcome A} (refused m q) (refused n k) → ◌≡◌ {A = Outcome B} (refused m q) (refused n k)
refused-alike e = let (i, j) = refused-inj e in ap₂ refused i j

module _ (file window : List ℕ) (p : ℕ) (name : List ℕ) where
  abbrev answer : ℕ → Outcome Text
  answer room = building file window p name room

  abbrev w : List ℕ
  w = meant window

  pub survey-place : placed window p ≡ false → Unbuilt file window p name 28 0
  unfolding building
  survey-place e = record { always = λ room. rw e }

  module _ (put : placed window p ≡ true) where
    pub survey-placed : placed w p ≡ true
    survey-placed = placed-meant window p ∙ put

    pub survey-heading : prefix heading file ≡ false → Unbuilt file window p name 18 0
    unfolding building
    survey-heading e = record { always = λ room. rw (put, e) }

    module _ (begun : prefix heading file ≡ true) where
      pub survey-letter : (r : ℕ) → r ≡ first_not letter window → r < length window → Unbuilt file window p name 7 r
      unfolding building
      survey-letter r e l = let m : first_not letter window < length window =
          omega arith in record { always = λ room. rw (put, begun, first-not-every letter window m, e) }

      module _ (r : ℕ) (is : r ≡ first_not letter window) (l : length window ≤ r) where
        spelt : every letter window ≡ true
        spelt = first-every letter window (let m : first_not letter window ≡ length window = omega (arith, first-le letter window) in m)

        from-records : (room : ℕ) → answer room ≡ after (records name w p 1 0 (lines file)) λ ls. putting (text_from w p 0 ls) room
        unfolding building
        from-records room = rw (put, begun, spelt)

        -- what the records are refused for, and then what their text needs
        pub survey-refused : (n k : ℕ) → scanning name w p file ≡ refused n k → Unbuilt file window p name n k
        unfolding scanning scan_from
        survey-refused n k e = record { always = λ room. from-records room ∙ step room (records name w p 1 0 (lines file)) e }
          where
            text : (room : ℕ) (T : Text) (t : Tally) → tally_text nothing T ≡ t → outcome t ≡ refused n k → putting T room ≡ refused n k
            text room T (Ok t) h e = absurd (refused-ok n k t (sym e))
            text room T (Err r) h e = told-long T room h ∙ refused-alike e

            step :
                (room : ℕ) (o : Outcome (List (List ℕ))) → after o (λ rs. outcome (tally_text nothing (text_from w p 0 rs))) ≡ refused n k →
                after o (λ ls. putting (text_from w p 0 ls) room) ≡ refused n k
            step room (ok ls) e = text room (text_from w p 0 ls) (tally_text nothing (text_from w p 0 ls)) refl e
            step room (refused m q) e = refused-alike e

        module _ (t : Needed) (e : scanning name w p file ≡ ok t) where
          -- the records, and what their text needs
          pub record Tallied : Type 0 where
            pub kept : List (List ℕ)
            pub accepted : records name w p 1 0 (lines file) ≡ ok kept
            pub needed : tally_text nothing (text_from w p 0 kept) ≡ Ok t

          keeps : Tallied
          unfolding scanning scan_from
          keeps =
              let m = after-met (records name w p 1 0 (lines file)) (λ rs. outcome (tally_text nothing (text_from w p 0 rs))) t e in
              record { kept = m.0; accepted = m.1; needed = told-ok (tally_text nothing (text_from w p 0 m.0)) t m.2 }

          abbrev T : Text
          T = text_from w p 0 keeps.kept

          from-text : (room : ℕ) → answer room ≡ putting T room
          from-text room = from-records room ∙ rw keeps.accepted

          pub survey-repeated : {r : Refusal} → t.variants ≡ Err r → Unbuilt file window p name r.number r.place
          survey-repeated f = record { always = λ room. from-text room ∙ told-repeated T room keeps.needed f }

          -- the records are the lines that have a base in the window
          of-lines : keeps.kept ≡ touching w p (lines file)
          of-lines = (kept name w p (lines file) keeps.kept 1 0 keeps.accepted).0

          module _ {v : ℕ} (f : t.variants ≡ Ok v) where
            fit : (room : ℕ) → Fitting T room keeps.needed
            fit room = told-fits T room keeps.needed f

            short : (room : ℕ) → room < t.bytes → answer room ≡ refused 15 0
            short room m = from-text room ∙ (fit room).asks ∙ rw (lt-leb t.bytes room m)

            whole : (room : ℕ) → t.bytes ≤ room → answer room ≡ ok (window_text w p file)
            whole room m = from-text room ∙ (fit room).asks ∙ rw (le-leb t.bytes room m, of-lines)

            readable :
                {start n : ℕ} → Starting name w p file start n → (room : ℕ) → t.bytes ≤ room →
                Readable w p file start n t.segments room
            readable {start} {n} a room m =
                record {
                  put = survey-placed;
                  inside = a.inside;
                  name = name;
                  number = a.number;
                  from = a.from;
                  accepted = sym a.begins ∙ keeps.accepted ∙ ap ok of-lines;
                  many = a.count keeps.kept keeps.accepted ∙ ap length of-lines;
                  count = rw (← of-lines) (sym (fit room).segments);
                  fits = rw (← of-lines) (let l : length (encode T) ≤ room = omega (arith, (fit room).bytes) in l);
                }

            pub survey-fits : {start n : ℕ} → Starting name w p file start n → Built file window p name t.bytes t.segments start n
            survey-fits a =
                record {
                  size = rw (← of-lines) (sym (fit 0).bytes);
                  short = short;
                  whole = whole;
                  readable = readable a;
                }
