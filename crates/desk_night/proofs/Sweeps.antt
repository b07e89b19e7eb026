-- Laws of every sequence of a list taken over one stretch.
use Prim.Native.Nat.{ℕ, zero, suc, ◌+◌, ◌-◌, ◌≤◌, ◌<◌}
use native.Mathlib.Omega.{arith}
use mathlib.Core.Path.{◌≡◌, refl, sym, ap, ◌∙◌}
use mathlib.Core.Bool.{Bool}
use mathlib.Core.List.{List, [], ◌∷◌}
use lib.ListN.{take}
use Rattle.std.proofs.Common.{Option, Some, None, Result, Ok, Err}
use Rattle.std.specs.Result.{result_unwrap_or}
use Rattle.text.specs.Compare.{from_to}
use Rattle.text.specs.declared.refusal.Refusal.{Refusal}
use Rattle.text.specs.Refusal.{outcome}
use Rattle.desk_verdict.specs.declared.standing.Standing.{Standing}
use Rattle.desk_list.specs.Line.{Said, line_of}
use Rattle.desk_list.specs.Lines.{next_of, then_lines, rest_of, lines_of, Sequence, then_sequences, sequences_in, sequences_of, most}
use Rattle.desk_list.specs.declared.reading.Withheld.{Withheld}
use Rattle.desk_list.specs.declared.reading.Line.{Line}
use Rattle.desk_list.proofs.Checks.{rest-line}
use Rattle.desk_night.specs.Standings.{standing_at}
use Rattle.desk_night.specs.Sweep.{moved, landed, turned, sweeping}
use Rattle.desk_night.specs.declared.sweeping.Swept.{Swept}

-- one sequence, from what is told of it
pub lands : (first : Bool) (s P : List ℕ) (k : ℕ) (x : Swept) {here : Standing} → here ≡ standing_at x.standings k
    → {r o : Result Standing Refusal} → outcome r ≡ moved first P here s → r ≡ o → landed k x (outcome o) ≡ turned first s P k x
unfolding turned
lands first s P k x is met e = ap (landed k x) (sym (ap outcome e) ∙ met ∙ ap (λ (y : Standing). moved first P y s) is)

-- the lines before `at` are taken, and have k sequences
pub record Sweeping (first : Bool) (list s : List ℕ) (x₀ x : Swept) (k at : ℕ) : Type 0 where
  pub few : k ≤ most
  pub same : sweeping first s 0 (take most (sequences_of list)) x₀
      ≡ sweeping first s k (take (most - k) (sequences_in list (rest_of list at))) x

module _ {first : Bool} {list s : List ℕ} where
  pub sweeping-none : (x : Swept) → Sweeping first list s x x 0 0
  unfolding sequences_of lines_of
  sweeping-none x = record { few = omega arith; same = refl }

  module _ {x₀ x : Swept} {k at : ℕ} (p : Sweeping first list s x₀ x k at) where
    -- 32 are taken
    pub sweeping-full : most ≤ k → x ≡ sweeping first s 0 (take most (sequences_of list)) x₀
    unfolding sweeping
    sweeping-full l =
        let none : most - k ≡ 0 = omega arith in
        sym (p.same ∙ ap (λ (n : ℕ). sweeping first s k (take n (sequences_in list (rest_of list at))) x) none)

    module _ {l : Option Line} (e : l ≡ line_of list at) where
      left : {m : Option Line} → l ≡ m → sweeping first s 0 (take most (sequences_of list)) x₀
          ≡ sweeping first s k (take (most - k) (sequences_in list (then_lines m (rest_of list (next_of m))))) x
      left {m} is =
          p.same
          ∙ ap (λ (ls : List Line). sweeping first s k (take (most - k) (sequences_in list ls)) x) (rest-line list at m (sym e ∙ is))

      module _ {line : Line} (is : l ≡ Some line) where
        abbrev rest : List Sequence
        rest = sequences_in list (rest_of list line.next)

        -- by the sequence that the line says, if it says one; a wrong line says none
        said_left : {o : Option Withheld} → result_unwrap_or line.said None ≡ o → sweeping first s 0 (take most (sequences_of list)) x₀
            ≡ sweeping first s k (take (most - k) (then_sequences list (Ok o) rest)) x
        unfolding sequences_in
        said_left {o} says = left is ∙ ap (λ (Ps : List Sequence). sweeping first s k (take (most - k) Ps) x) (go line.said says)
          where
            go : (said : Said) → result_unwrap_or said None ≡ o → then_sequences list said rest ≡ then_sequences list (Ok o) rest
            go (Ok p) e = ap (λ (q : Option Withheld). then_sequences list (Ok q) rest) e
            go (Err fault) e = ap (λ (q : Option Withheld). then_sequences list (Ok q) rest) e

        pub sweeping-past : result_unwrap_or line.said None ≡ None → Sweeping first list s x₀ x k line.next
        sweeping-past says = record { few = p.few; same = said_left says }

        pub sweeping-more : {w : Withheld} → result_unwrap_or line.said None ≡ Some w → k < most → {P : List ℕ} → P ≡ from_to list w.start w.end
            → {y : Swept} → y ≡ turned first s P k x → Sweeping first list s x₀ y (k + 1) line.next
        unfolding sweeping
        sweeping-more {w} says lt {P} part {y} to =
            let one : most - k ≡ suc (most - (k + 1)) = omega arith in
            let up : suc k ≡ k + 1 = omega arith in
            let Q : Sequence = record { label = w.label; bases = from_to list w.start w.end } in
            let here : y ≡ turned first s Q.bases k x = to ∙ ap (λ (b : List ℕ). turned first s b k x) part in
            record {
              few = omega arith;
              same =
                  said_left says ∙ ap (λ (n : ℕ). sweeping first s k (take n (Q ∷ rest)) x) one
                  ∙ ap (sweeping first s (suc k) (take (most - (k + 1)) rest)) (sym here)
                  ∙ ap (λ (j : ℕ). sweeping first s j (take (most - (k + 1)) rest) y) up;
            }

      pub sweeping-end : l ≡ None → x ≡ sweeping first s 0 (take most (sequences_of list)) x₀
      unfolding sequences_in sweeping
      sweeping-end is = sym (left is ∙ none (most - k))
        where
          none : (n : ℕ) → sweeping first s k (take n []) x ≡ x
          none zero = refl
          none (suc n) = refl
