-- Laws of the place where bytes of a kind end.
use Prim.Native.Nat.{ℕ, suc, ◌+◌, ◌≤◌, ◌<◌, max}
use native.Mathlib.Omega.{arith}
use mathlib.Core.Path.{◌≡◌, refl, sym, ◌∙◌}
use mathlib.Core.Bool.{Bool, true, false}
use mathlib.Core.List.{List}
use lib.ListN.{length, get_or, drop, drop_of_length-le, length-drop}
use Rattle.text.specs.Letter.{first_not}
use Rattle.text.proofs.Letters.{first-at, first-le}
use Rattle.desk_list.specs.Kinds.{past}

-- where bytes of a kind end, there and no further than the end
pub past-in : (k : ℕ → Bool) (s : List ℕ) (from : ℕ) → (from ≤ past k s from) × (past k s from ≤ max from (length s))
unfolding past
past-in k s from = (omega arith, omega (arith, first-le k (drop from s), length-drop from s))

-- the bytes from `start` up to i are of the kind
pub record Skipping (k : ℕ → Bool) (s : List ℕ) (start i : ℕ) : Type 0 where
  pub upto : start ≤ i
  pub inside : i ≤ max start (length s)
  pub same : past k s start ≡ past k s i

pub skipping-none : (k : ℕ → Bool) (s : List ℕ) (start : ℕ) → Skipping k s start start
skipping-none k s start = record { upto = omega arith; inside = omega arith; same = refl }

module _ {k : ℕ → Bool} {s : List ℕ} {start i : ℕ} (p : Skipping k s start i) where
  pub skipping-more : i < length s → k (get_or s i 0) ≡ true → Skipping k s start (i + 1)
  unfolding past
  skipping-more l e =
      let step : first_not k (drop i s) ≡ suc (first_not k (drop (i + 1) s)) = first-at k s i l ∙ rw e refl in
      record {
        upto = omega (arith, p.upto);
        inside = omega arith;
        same = p.same
            ∙ (let z : past k s i ≡ past k s (i + 1) = omega (arith, step) in z);
      }

  pub skipping-stop : i < length s → k (get_or s i 0) ≡ false → i ≡ past k s start
  unfolding past
  skipping-stop l e =
      let step : first_not k (drop i s) ≡ 0 = first-at k s i l ∙ rw e refl in
      sym (p.same ∙ (let z : past k s i ≡ i = omega (arith, step) in z))

  pub skipping-end : length s ≤ i → i ≡ past k s start
  unfolding past first_not
  skipping-end l =
      let step : first_not k (drop i s) ≡ 0 = rw (drop_of_length-le s l) refl in
      sym (p.same ∙ (let z : past k s i ≡ i = omega (arith, step) in z))
