-- Laws of decimal numbers, digit by digit.
use Prim.Native.Nat.{ℕ, suc, ◌+◌, ◌*◌, ◌%◌, ◌^◌, ◌≤◌, ◌<◌}
use native.Mathlib.Omega.{arith}
use mathlib.Core.Path.{◌≡◌, refl, ap, ◌∙◌}
use mathlib.Core.List.{List, [], ◌∷◌}
use borrow.Author.Tests.{lt-ltb, le-ltb}
use lib.ListN.{length, get_or, drop, drop_of_length-le}
use lib.Seq.{drop-cons}
use Rattle.desk_list.specs.Number.{value, number_of}
use Rattle.std.proofs.Common.{Some, None}

value_grows : (n : ℕ) (ds : List ℕ) → n ≤ value n ds
unfolding value
value_grows n [] = omega arith
value_grows n (d ∷ ds) = let h : n * 10 + d % 16 ≤ value (n * 10 + d % 16) ds = value_grows (n * 10 + d % 16) ds in omega arith

value-step : (n : ℕ) (ds : List ℕ) (i : ℕ) → i < length ds → value n (drop i ds) ≡ value (n * 10 + get_or ds i 0 % 16) (drop (i + 1) ds)
unfolding value
value-step n ds i l = let one : i + 1 ≡ suc i = omega arith in rw (one, drop-cons ds i 0 l) refl

-- the first i digits tell n
pub record Telling (ds : List ℕ) (n i : ℕ) : Type 0 where
  pub upto : i ≤ length ds
  pub same : value 0 ds ≡ value n (drop i ds)
  pub small : n < 2 ^ 64

pub telling-none : (ds : List ℕ) → Telling ds 0 0
telling-none ds = record { upto = omega arith; same = refl; small = omega arith }

module _ {ds : List ℕ} {n i : ℕ} (t : Telling ds n i) (l : i < length ds) where
  pub telling-large : 2 ^ 64 ≤ n * 10 + get_or ds i 0 % 16 → None ≡ number_of ds
  unfolding number_of
  telling-large h =
      let k : ℕ = n * 10 + get_or ds i 0 % 16 in
      let far : 2 ^ 64 ≤ value 0 ds = omega (arith, t.same ∙ value-step n ds i l, value_grows k (drop (i + 1) ds)) in
      rw (le-ltb (value 0 ds) (2 ^ 64) far) refl

  pub telling-more : {m : ℕ} → m ≡ n * 10 + get_or ds i 0 % 16 → m < 2 ^ 64 → Telling ds m (i + 1)
  telling-more {m} e h = record { upto = omega arith; same = rw e (t.same ∙ value-step n ds i l); small = h }

pub telling-end : {ds : List ℕ} {n i : ℕ} → Telling ds n i → length ds ≤ i → Some n ≡ number_of ds
unfolding number_of value
telling-end {ds} {n} {i} t l =
    let all : value 0 ds ≡ n = t.same ∙ ap (value n) (drop_of_length-le ds l) in
    rw (all, lt-ltb n (2 ^ 64) t.small) refl
