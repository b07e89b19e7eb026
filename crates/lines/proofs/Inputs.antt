-- Laws of the parts of the program's input, at each of its lengths.
use Prim.Native.Nat.{ℕ, ◌+◌, ◌-◌, ◌≤◌, ◌<◌}
use native.Mathlib.Omega.{arith}
use mathlib.Core.Path.{◌≡◌, refl, sym, ap, ◌∙◌}
use mathlib.Core.List.{List, [], ◌∷◌}
use lib.ListN.{length, take, drop, length-drop, drop_of_length-le}
use lib.Seq.{take_all}
use Rattle.lines.specs.Input.{announced, pattern_in, stretch_in}

-- no input
pub none-announced : (i : List ℕ) → length i ≡ 0 → 0 ≡ announced i
unfolding announced
none-announced [] e = refl
none-announced (x ∷ xs) e = absurd (let z : ⊥ = omega arith in z)

pub none-pattern : (i : List ℕ) → length i ≡ 0 → i ≡ pattern_in i
unfolding announced pattern_in
none-pattern [] e = refl
none-pattern (x ∷ xs) e = absurd (let z : ⊥ = omega arith in z)

module _ (i : List ℕ) (n : ℕ) (is : n ≡ announced i) where
  -- the input ends inside the pattern, or after it
  pub cut-pattern : length i < 1 + n → take (length i - 1) (drop 1 i) ≡ pattern_in i
  unfolding pattern_in
  cut-pattern l =
      let left : length (drop 1 i) ≡ length i - 1 = length-drop 1 i in
      let few : length (drop 1 i) ≤ announced i = omega arith in
      take_all (length i - 1) (drop 1 i) (omega arith) ∙ sym (take_all (announced i) (drop 1 i) few)

  pub whole-pattern : take (1 + n - 1) (drop 1 i) ≡ pattern_in i
  unfolding pattern_in
  whole-pattern = let e : 1 + n - 1 ≡ announced i = omega arith in ap (λ (k : ℕ). take k (drop 1 i)) e

  pub no-stretch : length i < 1 + n → [] ≡ stretch_in i
  unfolding stretch_in
  no-stretch l = let far : length i ≤ 1 + announced i = omega arith in sym (drop_of_length-le i far)

  pub whole-stretch : take (length i - (1 + n)) (drop (1 + n) i) ≡ stretch_in i
  unfolding stretch_in
  whole-stretch =
      let left : length (drop (1 + n) i) ≤ length i - (1 + n) = omega (arith, length-drop (1 + n) i) in
      take_all (length i - (1 + n)) (drop (1 + n) i) left ∙ ap (λ (k : ℕ). drop (1 + k) i) is
