-- Laws of the standings of the sequences of a list, asked together.
use Prim.Native.Nat.{ℕ, zero, suc, ◌+◌, ◌≤◌, ◌<◌}
use native.Mathlib.Omega.{arith}
use mathlib.Core.Path.{◌≡◌, refl, sym, ap, ◌∙◌}
use native.Mathlib.Decide.{dec_lt}
use mathlib.Core.Logic.{by_cases}
use mathlib.Core.Bool.{Bool, true, false, cond}
use mathlib.Core.List.{List, []}
use borrow.Author.Tests.{eq-eqb, ne_eqb, eqb-true, le-ltb, ltb-false}
use lib.Dec.{eqb}
use lib.ListN.{length, take}
use lib.Seq.{length-take-le, get_or-take}
use Rattle.std.specs.Bool.{MatchBool}
use Rattle.std.specs.List.{HoldsAt, AllWithin}
use Rattle.desk_verdict.specs.declared.standing.Standing.{Standing}
use Rattle.desk_night.specs.Standings.{standing_at, going_in, some_end, all_end}

-- no more go on than there are
going-few : (n : ℕ) (xs : List Standing) → going_in n xs ≤ n
unfolding going_in
going-few zero xs = omega arith
going-few (suc n) xs = go (eqb (standing_at xs n).ends 0) (going-few n xs)
  where
    go : (b : Bool) → going_in n xs ≤ n → cond b 1 0 + going_in n xs ≤ suc n
    go true few = omega (arith, few)
    go false few = omega (arith, few)

-- all of them do exactly if none has ended
each-going : (n : ℕ) (xs : List Standing) → ((i : ℕ) → i < n → (standing_at xs i).ends ≡ 0) → going_in n xs ≡ n
unfolding going_in
each-going zero xs h = refl
each-going (suc n) xs h =
    let rest = each-going n xs (λ i l. h i (omega (arith, l))) in
    let one : ◌≡◌ {A = ℕ} (cond (eqb (standing_at xs n).ends 0) 1 0) 1 = rw (eq-eqb (standing_at xs n).ends 0 (h n (omega arith))) refl in
    omega (arith, one, rest)

going-each : (n : ℕ) (xs : List Standing) → n ≤ going_in n xs → (i : ℕ) → i < n → (standing_at xs i).ends ≡ 0
unfolding going_in
going-each zero xs e i l = absurd (let z : ⊥ = omega (arith, l) in z)
going-each (suc n) xs e i l = go (eqb (standing_at xs n).ends 0) refl e (going-each n xs)
  where
    go : (b : Bool) → eqb (standing_at xs n).ends 0 ≡ b → suc n ≤ cond b 1 0 + going_in n xs
        → (n ≤ going_in n xs → (j : ℕ) → j < n → (standing_at xs j).ends ≡ 0) → (standing_at xs i).ends ≡ 0
    go true f h rest =
        by_cases (dec_lt i n) (λ (k : i < n). rest (omega (arith, h)) i k)
        (λ (k : i < n → ⊥).
        let last : i ≡ n = omega arith in
        ap (λ (j : ℕ). (standing_at xs j).ends) last ∙ eqb-true (standing_at xs n).ends 0 f)
    go false f h rest = absurd (let z : ⊥ = omega (arith, h, going-few n xs) in z)

-- none has ended exactly if each goes on; then not all have
pub none_each : (n : ℕ) (xs : List Standing) → some_end n xs ≡ false → (i : ℕ) → i < n → (standing_at xs i).ends ≡ 0
unfolding some_end
none_each n xs e = going-each n xs (ltb-false (going_in n xs) n e)

pub each_none : (n : ℕ) (xs : List Standing) → ((i : ℕ) → i < n → (standing_at xs i).ends ≡ 0) → some_end n xs ≡ false
unfolding some_end
each_none n xs h = le-ltb (going_in n xs) n (let z : n ≤ going_in n xs = omega (arith, each-going n xs h) in z)

pub each-some : (n : ℕ) (xs : List Standing) → 0 < n → ((i : ℕ) → i < n → (standing_at xs i).ends ≡ 0) → all_end n xs ≡ false
unfolding all_end
each-some n xs l h = ne_eqb (going_in n xs) 0 (λ e. let z : ⊥ = omega (arith, e, l, each-going n xs h) in z)

-- one that goes on is counted, and nothing is where each has ended
going-some : (n : ℕ) (xs : List Standing) (i : ℕ) → i < n → (standing_at xs i).ends ≡ 0 → 0 < going_in n xs
unfolding going_in
going-some zero xs i l e = absurd (let z : ⊥ = omega (arith, l) in z)
going-some (suc n) xs i l e =
    by_cases (dec_lt i n)
    (λ (k : i < n). let z : 0 < cond (eqb (standing_at xs n).ends 0) 1 0 + going_in n xs = omega (arith, going-some n xs i k e) in z)
    (λ (k : i < n → ⊥).
    let last : n ≡ i = omega arith in
    let here : (standing_at xs n).ends ≡ 0 = ap (λ (j : ℕ). (standing_at xs j).ends) last ∙ e in
    rw (eq-eqb (standing_at xs n).ends 0 here) (let z : 0 < 1 + going_in n xs = omega arith in z))

ended-none : (n : ℕ) (xs : List Standing) → ((i : ℕ) → i < n → (standing_at xs i).ends ≡ 0 → ⊥) → going_in n xs ≡ 0
unfolding going_in
ended-none zero xs h = refl
ended-none (suc n) xs h =
    rw (ne_eqb (standing_at xs n).ends 0 (h n (omega arith)), ended-none n xs (λ i l. h i (omega (arith, l)))) refl

-- what a walk over the first n of them finds
module _ (n : ℕ) (xs : List Standing) (room : n ≤ length xs) where
  abbrev Going : Standing → Type 0
  Going x = x.ends ≡ 0

  abbrev Ended : Standing → Type 0
  Ended x = x.ends ≡ 0 → ⊥

  abbrev front : List Standing
  front = take n xs

  -- the first n are all of the front
  long : length front ≡ n
  long = length-take-le n xs room

  at_front : (i : ℕ) → i < n → standing_at front i ≡ standing_at xs i
  at_front i l = get_or-take n xs i _ l

  pub any-ended : (r : Bool) → MatchBool r ((k : ℕ) × (k < length front) × HoldsAt Ended front k) (AllWithin Going front 0 (length front))
      → r ≡ some_end n xs
  any-ended true (k, l, ended) =
      let inside : k < n = omega (arith, l, long) in
      go (some_end n xs) refl (rw (at_front k inside) at (ended (standing_at [] 0)))
    where
      go : (b : Bool) → some_end n xs ≡ b → Ended (standing_at xs k) → true ≡ b
      go true e h = refl
      go false e h = absurd (h (none_each n xs e k (omega (arith, l, long))))
  any-ended false none =
      sym (each_none n xs λ i l. rw (at_front i l) at (none i (standing_at [] 0) (omega arith) (omega (arith, l, long))))

  pub all-ended : (r : Bool) → MatchBool r (AllWithin Ended front 0 (length front)) ((k : ℕ) × (k < length front) × HoldsAt Going front k)
      → r ≡ all_end n xs
  unfolding all_end
  all-ended true each =
      sym (eq-eqb (going_in n xs) 0
      (ended-none n xs λ i l. rw (at_front i l) at (each i (standing_at [] 0) (omega arith) (omega (arith, l, long)))))
  all-ended false (k, l, on) =
      let inside : k < n = omega (arith, l, long) in
      let some : 0 < going_in n xs = going-some n xs k inside (rw (at_front k inside) at (on (standing_at [] 0))) in
      sym (ne_eqb (going_in n xs) 0 (λ e. let z : ⊥ = omega (arith, some, e) in z))
