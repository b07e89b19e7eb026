-- Every sequence taken over one stretch: there is no trouble exactly if each of them is moved.
use Prim.Native.Nat.{ℕ, zero, suc, ◌+◌, ◌≤◌, ◌<◌}
use native.Mathlib.Omega.{arith}
use mathlib.Core.Path.{◌≡◌, refl, sym, ap, ◌∙◌}
use mathlib.Core.Bool.{Bool}
use mathlib.Core.List.{List, [], ◌∷◌}
use lib.ListN.{length, get_or, set, length-set}
use lib.Seq.{get_or-set_same, get_or-set_other}
use Rattle.std.proofs.Common.{Option, Some, None}
use Rattle.std.specs.Option.{option_or}
use Rattle.text.specs.Refusal.{Outcome, ok, refused}
use Rattle.desk_verdict.specs.declared.standing.Standing.{Standing}
use Rattle.desk_list.specs.Lines.{Sequence}
use Rattle.desk_night.specs.Standings.{standing_at}
use Rattle.desk_night.specs.Sweep.{moved, landed, turned, sweeping}
use Rattle.desk_night.specs.declared.trouble.Trouble.{Trouble}
use Rattle.desk_night.specs.declared.sweeping.Swept.{Swept}

-- the bases of sequence i
abbrev pub bases_at : List Sequence → ℕ → List ℕ
bases_at Ps i = (get_or Ps i (record { label = 0; bases = [] })).bases

-- a refusal is a trouble
refused-trouble : (t : Option Trouble) (n p : ℕ) → option_or t (Some (Trouble.Refused (record { number = n; place = p }))) ≡ None → ⊥
refused-trouble None n p e = cc
refused-trouble (Some u) n p e = cc

-- where sequence k stands after it was moved, and where the others do
module _ (xs : List Standing) (k : ℕ) (y : Standing) where
  pub moved_here : k < length xs → standing_at (set xs k y) k ≡ y
  moved_here l = get_or-set_same xs k y _ l

  pub moved_other : (j : ℕ) → (j ≡ k → ⊥) → standing_at (set xs k y) j ≡ standing_at xs j
  moved_other j h = get_or-set_other xs k j y _ h

-- these sequences are moved without trouble, from number k on, and those before are as they were
pub record Rounded (first : Bool) (s : List ℕ) (k : ℕ) (Ps : List Sequence) (x y : Swept) : Type 0 where
  pub was : x.trouble ≡ None
  pub each : (i : ℕ) → i < length Ps
      → moved first (bases_at Ps i) (standing_at x.standings (k + i)) s ≡ ok (standing_at y.standings (k + i))
  pub others : (i : ℕ) → i < k → standing_at y.standings i ≡ standing_at x.standings i
  pub long : length y.standings ≡ length x.standings

module _ (first : Bool) (s : List ℕ) (k : ℕ) (x : Swept) where
  landed-long : (o : Outcome Standing) → length (landed k x o).standings ≡ length x.standings
  landed-long (ok y) = length-set x.standings k y
  landed-long (refused n p) = refl

  turned-long : (P : List ℕ) → length (turned first s P k x).standings ≡ length x.standings
  unfolding turned
  turned-long P = landed-long (moved first P (standing_at x.standings k) s)

  -- one sequence, then those after it
  module _ (P : Sequence) (Ps : List Sequence) (y : Swept) (l : k < length x.standings) where
    landed-step : (o : Outcome Standing) → moved first P.bases (standing_at x.standings k) s ≡ o
        → Rounded first s (suc k) Ps (landed k x o) y → Rounded first s k (P ∷ Ps) x y
    landed-step (ok z) e r =
        let xs : List Standing = x.standings in
        let here : standing_at y.standings k ≡ z = r.others k (omega arith) ∙ moved_here xs k z l in
        record {
          was = r.was;
          each = λ i h. each-by i h here;
          others = λ i h.
              let less : i < suc k = omega arith in
              let other : i ≡ k → ⊥ = λ q. (let c : ⊥ = omega arith in c) in
              r.others i less ∙ moved_other xs k z i other;
          long = r.long ∙ length-set xs k z;
        }
      where
        each-by : (i : ℕ) → i < length (P ∷ Ps) → standing_at y.standings k ≡ z
            → moved first (bases_at (P ∷ Ps) i) (standing_at x.standings (k + i)) s ≡ ok (standing_at y.standings (k + i))
        each-by zero h here =
            let none : k + 0 ≡ k = omega arith in
            ap (λ (j : ℕ). moved first P.bases (standing_at x.standings j) s) none ∙ e
            ∙ sym (ap ok (ap (standing_at y.standings) none ∙ here))
        each-by (suc i) h here =
            let up : k + suc i ≡ suc k + i = omega arith in
            let less : i < length Ps = omega arith in
            let other : suc k + i ≡ k → ⊥ = λ q. (let c : ⊥ = omega arith in c) in
            ap (λ (j : ℕ). moved first (bases_at Ps i) (standing_at x.standings j) s) up
            ∙ ap (λ (u : Standing). moved first (bases_at Ps i) u s) (sym (moved_other x.standings k z (suc k + i) other))
            ∙ r.each i less
            ∙ ap (λ (j : ℕ). ok (standing_at y.standings j)) (sym up)
    landed-step (refused n p) e r = absurd (refused-trouble x.trouble n p r.was)

    round-step : Rounded first s (suc k) Ps (turned first s P.bases k x) y → Rounded first s k (P ∷ Ps) x y
    unfolding turned
    round-step r = landed-step (moved first P.bases (standing_at x.standings k) s) refl r

module _ (first : Bool) (s : List ℕ) where
  pub rounds : (k : ℕ) (Ps : List Sequence) (x : Swept) → k + length Ps ≤ length x.standings
      → (sweeping first s k Ps x).trouble ≡ None → Rounded first s k Ps x (sweeping first s k Ps x)
  unfolding sweeping
  rounds k [] x l e =
      record { was = e; each = λ i h. absurd (let z : ⊥ = omega (arith, h) in z); others = λ i h. refl; long = refl }
  rounds k (P ∷ Ps) x l e =
      let next : Swept = turned first s P.bases k x in
      let room : suc k + length Ps ≤ length next.standings = omega (arith, l, turned-long first s k x P.bases) in
      let here : k < length x.standings = omega (arith, l) in
      round-step first s k x P Ps (sweeping first s (suc k) Ps next) here (rounds (suc k) Ps next room e)

  -- and where each is moved there is no trouble
  pub rounds-calm : (k : ℕ) (Ps : List Sequence) (x : Swept) → x.trouble ≡ None
      → ((i : ℕ) → i < length Ps → (z : Standing) × (moved first (bases_at Ps i) (standing_at x.standings (k + i)) s ≡ ok z))
      → (sweeping first s k Ps x).trouble ≡ None
  unfolding sweeping turned
  rounds-calm k [] x e h = e
  rounds-calm k (P ∷ Ps) x e h =
      let xs : List Standing = x.standings in
      let none : k + 0 ≡ k = omega arith in
      let some : 0 < length (P ∷ Ps) = omega arith in
      let (z, met) = h 0 some in
      let here : moved first P.bases (standing_at xs k) s ≡ ok z =
      ap (λ (j : ℕ). moved first P.bases (standing_at xs j) s) (sym none) ∙ met in
      let next : Swept = record { standings = set xs k z; trouble = x.trouble } in
      ap (λ (o : Outcome Standing). (sweeping first s (suc k) Ps (landed k x o)).trouble) here
      ∙ rounds-calm (suc k) Ps next e
      (λ i l.
      let up : suc k + i ≡ k + suc i = omega arith in
      let more : suc i < length (P ∷ Ps) = omega arith in
      let other : suc k + i ≡ k → ⊥ = λ q. (let c : ⊥ = omega arith in c) in
      let (u, there) = h (suc i) more in (
        u,
        ap (λ (v : Standing). moved first (bases_at Ps i) v s) (moved_other xs k z (suc k + i) other)
            ∙ ap (λ (j : ℕ). moved first (bases_at Ps i) (standing_at xs j) s) up ∙ there,
      ))
