-- Laws of lines and columns, byte by byte.
use Prim.Native.Nat.{ℕ, suc, ◌+◌, ◌<◌, ◌≤◌, min}
use native.Mathlib.Decide.{dec_lt}
use mathlib.Core.Logic.{by_cases}
use native.Mathlib.Numerals.{add-one}
use native.Mathlib.Omega.{arith}
use mathlib.Core.Path.{◌≡◌, refl, sym, ◌∙◌}
use mathlib.Core.List.{List, ◌∷◌}
use lib.ListN.{length, take, drop, get_or, drop_of_length-le}
use lib.Seq.{drop-cons, take_all}
use Rattle.eds_notation.specs.Places.{over_byte, behind}
use Rattle.eds_notation.specs.declared.place.Place.{Place}

-- the bytes from place i on lead from q to where all of them lead from p
pub record Behind (p : Place) (bytes : List ℕ) (q : Place) (i : ℕ) : Type 0 where
  pub leads : behind q (drop i bytes) ≡ behind p bytes

pub behind-none : (p : Place) (bytes : List ℕ) → Behind p bytes p 0
behind-none p bytes = record { leads = refl }

module _ {p : Place} {bytes : List ℕ} {q : Place} {i : ℕ} (b : Behind p bytes q i) where
  pub behind_more : i < length bytes → {r : Place} → r ≡ over_byte q (get_or bytes i 0) → Behind p bytes r (i + 1)
  unfolding behind
  behind_more l {r} e =
      let split : drop i bytes ≡ get_or bytes i 0 ∷ drop (suc i) bytes = drop-cons bytes i 0 l in
      let one : i + 1 ≡ suc i = add-one i in
      let here : behind r (drop (suc i) bytes) ≡ behind q (drop i bytes) = rw (e, split) in
      record { leads = rw one (here ∙ b.leads) }

  pub behind-all : length bytes ≤ i → q ≡ behind p bytes
  unfolding behind
  behind-all l = rw (drop_of_length-le bytes l) at b.leads

-- as many as count, in a part of the bytes
pub take-min : (n m : ℕ) (bytes : List ℕ) → m ≡ min n (length bytes) → take m bytes ≡ take n bytes
take-min n m bytes e =
    by_cases (dec_lt n (length bytes))
    (λ (l : n < length bytes). let same : m ≡ n = omega arith in rw same)
    (λ (l : n < length bytes → ⊥). take_all m bytes (omega arith) ∙ sym (take_all n bytes (omega arith)))
