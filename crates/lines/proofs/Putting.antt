-- Laws of putting bytes into a buffer: one piece after another is both in one.
use Prim.Native.Nat.{ℕ, zero, suc, ◌+◌, ◌-◌, ◌≤◌, ◌<◌, min}
use native.Mathlib.Omega.{arith}
use native.Mathlib.Decide.{dec_lt}
use mathlib.Core.Path.{◌≡◌, refl, sym, ap, ap₂, ◌∙◌}
use mathlib.Core.Logic.{by_cases}
use mathlib.Core.List.{List, [], ◌∷◌, ◌++◌}
use lib.ListN.{length, take, drop, length-take, length-append}
use lib.Seq.{take_all, take_at, take-nil, length-take-le, drop-drop}
use borrow.Rule.Slice.PartMut.{put_mid}
use Rattle.layout.specs.Bytes.{over}
use Rattle.layout.proofs.Overs.{over_none, length_over, over-over}
use Rattle.lines.specs.Puts.{fitting, Put}

take-append : (n : ℕ) (xs ys : List ℕ) → take n (xs ++ ys) ≡ take n xs ++ take (n - length xs) ys
take-append zero xs ys = let none : 0 - length xs ≡ 0 = omega arith in rw none
take-append (suc n) [] ys = let all : suc n - 0 ≡ suc n = omega arith in rw all
take-append (suc n) (x ∷ xs) ys =
    let same : suc n - suc (length xs) ≡ n - length xs = omega arith in
    rw same (ap (λ (l : List ℕ). x ∷ l) (take-append n xs ys))

-- there is no room after the buffer's end
put-far : (d : List ℕ) (at : ℕ) (xs out : List ℕ) (next : ℕ) → length d < at → Put d at xs out next → (out ≡ d) × (next ≡ at)
put-far d at xs out next far p =
    let none : length d - at ≡ 0 = omega arith in
    let e : next ≡ at + 0 = rw none at p.place in
    (rw none at p.left ∙ over_none d at, omega arith)

pub put-behind : (d : List ℕ) (at : ℕ) (xs : List ℕ) → length d < at → Put d at xs d at
put-behind d at xs far =
    let none : length d - at ≡ 0 = omega arith in
    let e : at ≡ at + 0 = omega arith in
    record { left = rw none (sym (over_none d at)); place = rw none e }

pub put-none : (d : List ℕ) (at : ℕ) → Put d at [] d at
put-none d at =
    let none : fitting d at [] ≡ [] = take-nil (length d - at) in
    let e : at ≡ at + 0 = omega arith in
    record { left = rw none (sym (over_none d at)); place = rw none e }

module _ {d : List ℕ} {at : ℕ} {xs out : List ℕ} {next : ℕ} (p : Put d at xs out next) where
  inside : at ≤ length d → at + length (fitting d at xs) ≤ length d
  inside l = omega (arith, length-take (length d - at) xs)

  pub put-length : length out ≡ length d
  put-length =
      by_cases (dec_lt (length d) at)
      (λ (far : length d < at). ap length (put-far d at xs out next far p).0)
      (λ (near : length d < at → ⊥).
      let l : at ≤ length d = omega arith in
      ap length p.left ∙ length_over d at (fitting d at xs) (inside l))

  -- one more piece
  put-far-more : {ys left : List ℕ} {end : ℕ} → length d < at → Put out next ys left end → Put d at (xs ++ ys) left end
  put-far-more {ys} {left} {end} far q =
      let (a, b) = put-far d at xs out next far p in
      let further : length out < next = omega (arith, ap length a) in
      let (u, v) = put-far out next ys left end further q in
      let stays : Put d at (xs ++ ys) d at = put-behind d at (xs ++ ys) far in
      rw (u ∙ a, v ∙ b) stays

  put-near-more : {ys left : List ℕ} {end : ℕ} → at ≤ length d → Put out next ys left end → Put d at (xs ++ ys) left end
  put-near-more {ys} {left} {end} l q =
      let n : ℕ = length d - at in
      let f : List ℕ = fitting d at xs in
      let g : List ℕ = fitting out next ys in
      let room : length out - next ≡ n - length xs = omega (arith, put-length, p.place, length-take n xs) in
      let whole : fitting d at (xs ++ ys) ≡ f ++ g = take-append n xs ys ∙ ap (λ (k : ℕ). f ++ take k ys) (sym room) in
      let here : over out next g ≡ over (over d at f) (at + length f) g = ap₂ (λ (o : List ℕ) (k : ℕ). over o k g) p.left p.place in
      record {
        left = q.left ∙ here ∙ over-over d at f (inside l) g ∙ ap (over d at) (sym whole);
        place = omega (arith, q.place, p.place, ap length whole ∙ length-append f g);
      }

  pub put-more : {ys left : List ℕ} {end : ℕ} → Put out next ys left end → Put d at (xs ++ ys) left end
  put-more q =
      by_cases (dec_lt (length d) at)
      (λ (far : length d < at). put-far-more far q)
      (λ (near : length d < at → ⊥). let l : at ≤ length d = omega arith in put-near-more l q)

-- all of the bytes, where there is room
pub put_all : (d xs out : List ℕ) (next : ℕ) → Put d 0 xs out next → length xs ≤ length d → (next ≡ length xs) × (take next out ≡ xs)
unfolding over
put_all d xs out next p room =
    let all : fitting d 0 xs ≡ xs = let l : length xs ≤ length d - 0 = omega arith in take_all (length d - 0) xs l in
    let far : next ≡ length xs = omega (arith, p.place, ap length all) in
    let front : out ≡ xs ++ drop (0 + length xs) d = p.left ∙ ap (over d 0) all in
    (far, rw (front, far) (take_at xs (drop (0 + length xs) d) (length xs) refl))

-- the first n of the bytes, where n is the smaller of their number and the room
take-least : (n k : ℕ) (xs : List ℕ) → n ≡ min (length xs) k → take n xs ≡ take k xs
take-least n k xs e =
    by_cases (dec_lt k (length xs))
    (λ (l : k < length xs). let same : n ≡ k = omega arith in rw same)
    (λ (l : k < length xs → ⊥).
    let a : length xs ≤ n = omega arith in
    let b : length xs ≤ k = omega arith in
    take_all n xs a ∙ sym (take_all k xs b))

-- bytes copied to a place: those for which there is room
pub put-copied :
    (bytes d : List ℕ) (at n : ℕ) → at ≤ length d → n ≡ min (length bytes) (length d - at) → (xs : List ℕ) → xs ≡ take n bytes →
    Put d at bytes (put_mid at (at + n - at) d xs) (at + n)
unfolding over
put-copied bytes d at n l e xs is =
    let same : xs ≡ fitting d at bytes = is ∙ take-least n (length d - at) bytes e in
    let size : length xs ≡ n = ap length is ∙ length-take-le n bytes (omega arith) in
    let far : at + n - at ≡ length xs = omega arith in
    record {
      left = rw (far, drop-drop, ← same) refl;
      place = omega (arith, ap length same);
    }
