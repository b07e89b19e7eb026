-- Laws of first ends: `later`, `earliest` and `first_end`. A first end is at most "none", and its lower bounds say which it is.
use Prim.Native.Nat.{ℕ, zero, suc, ◌+◌, ◌≤◌, ◌<◌, zero-le, min}
use native.Mathlib.Omega.{arith}
use native.Mathlib.Decide.{dec_lt, ℕ_discrete}
use native.Mathlib.Nat.{le_refl, le_trans, le-min, min-le_left, min-le_right}
use borrow.Author.Tests.{eqb-true, eqb-false}
use mathlib.Core.Path.{◌≡◌, refl, sym}
use mathlib.Core.Logic.Iff
use mathlib.Core.Logic.{◌↔◌, by_cases, ◌⊎◌, inl, inr, ⊎_elim}
use mathlib.Core.Bool.{Bool, true, false, cond, false≢true}
use mathlib.Core.List.{List, [], ◌∷◌, ◌++◌}
use lib.Dec.{eqb}
use lib.ListN.{length, get_or}
use Rattle.text.specs.Bits.{bit}
use Rattle.text.specs.Card.{none, later, earliest, first_end}
use Rattle.text.proofs.Each.{each_first, each_last}

-- two first ends with the same lower bounds are equal
pub same-bounds : (x y : ℕ) → x ≤ none → y ≤ none → ((e : ℕ) → e ≤ none → (e ≤ x) ↔ (e ≤ y)) → x ≡ y
same-bounds x y a b h =
    let p : x ≤ y = (h x a).0 (omega arith) in
    let q : y ≤ x = (h y b).1 (omega arith) in
    omega arith

pub later-le : (n x : ℕ) → later n x ≤ none
unfolding later
later-le n x = omega arith

pub later-none : (n : ℕ) → later n none ≡ none
unfolding later
later-none n = omega arith

pub later-zero : (x : ℕ) → x ≤ none → later 0 x ≡ x
unfolding later
later-zero x l = omega arith

pub later-add : (a b x : ℕ) → later (a + b) x ≡ later a (later b x)
unfolding later
later-add a b x = omega arith

pub later-min : (n x y : ℕ) → later n (min x y) ≡ min (later n x) (later n y)
unfolding later
later-min n x y = omega arith

pub min_assoc : (x y z : ℕ) → min (min x y) z ≡ min x (min y z)
min_assoc x y z = omega arith

pub min-is : (A : ℕ → Type 0) (x y : ℕ) → A x → A y → A (min x y)
min-is A x y a b =
    by_cases (dec_lt x y)
    (λ (l : x < y). let e : min x y ≡ x = omega arith in rw e a)
    (λ (l : ¬ (x < y)). let e : min x y ≡ y = omega arith in rw e b)

-- a first end among n segments: "none", or the number of one of them
abbrev pub EndOf : ℕ → ℕ → Type 0
EndOf n e = (e ≡ none) ⊎ (e < n)

pub end-le : (n e : ℕ) → n ≤ none → EndOf n e → e ≤ none
end-le n e l h = ⊎_elim (λ (p : e ≡ none). omega arith) (λ (p : e < n). omega arith) h

-- more segments after, and segments before
pub end-behind : (n k e : ℕ) → EndOf n e → EndOf (n + k) e
end-behind n k e h = ⊎_elim (λ (p : e ≡ none). inl p) (λ (p : e < n). inr (omega arith)) h

pub end_before : (n k e : ℕ) → EndOf k e → EndOf (n + k) (later n e)
unfolding later
end_before n k e h = ⊎_elim (λ (p : e ≡ none). inl (omega arith)) (λ (p : e < k). inr (omega arith)) h

pub earliest-le : (st : ℕ) (f : ℕ → ℕ) (n : ℕ) → earliest st f n ≤ none
unfolding earliest
earliest-le st f zero = omega arith
earliest-le st f (suc n) = let h : earliest st f n ≤ none = earliest-le st f n in omega arith

cond-least : (b : Bool) (x e : ℕ) → e ≤ none → (e ≤ cond b x none) ↔ (b ≡ true → e ≤ x)
cond-least true x e l = (λ h p. h, λ h. h refl)
cond-least false x e l = (λ h p. absurd (false≢true p), λ h. l)

-- the earliest end is the greatest number that is at most each end over the state's bits
pub earliest-least : (st : ℕ) (f : ℕ → ℕ) (n e : ℕ) → e ≤ none → (e ≤ earliest st f n) ↔ ((q : ℕ) → q < n → bit st q ≡ true → e ≤ f q)
unfolding earliest
earliest-least st f zero e l = (λ h q k b. absurd (let z : ⊥ = omega arith in z), λ h. l)
earliest-least st f (suc n) e l =
    let each = each_last (λ q. bit st q ≡ true → e ≤ f q) n in
    let rest = earliest-least st f n e l in
    let last = cond-least (bit st n) (f n) e l in (
      λ h. each.1 (rest.0 (le_trans h (min-le_left _ _)), last.0 (le_trans h (min-le_right _ _))),
      λ h. le-min (rest.1 (each.0 h).0) (last.1 (each.0 h).1),
    )

pub is-earliest : (x st : ℕ) (f : ℕ → ℕ) (n : ℕ)
    → x ≤ none
    → ((e : ℕ) → e ≤ none → (e ≤ x) ↔ ((q : ℕ) → q < n → bit st q ≡ true → e ≤ f q))
    → earliest st f n ≡ x
is-earliest x st f n l h =
    same-bounds (earliest st f n) x (earliest-le st f n) l (λ e k. Iff.trans (earliest-least st f n e k) (Iff.symm (h e k)))

-- what holds of "none" and of each end holds of the earliest
pub earliest-is : (A : ℕ → Type 0) (st : ℕ) (f : ℕ → ℕ) (n : ℕ) → A none → ((q : ℕ) → q < n → A (f q)) → A (earliest st f n)
unfolding earliest
earliest-is A st f zero a h = a
earliest-is A st f (suc n) a h =
    min-is A (earliest st f n) (cond (bit st n) (f n) none)
    (earliest-is A st f n a ((each_last (λ q. A (f q)) n).0 h).0)
    (elim (bit st n) as (λ b. A (cond b (f n) none)) [ true ↦ h n (omega arith) | false ↦ a ])

min-cond : (b : Bool) (x y u v : ℕ) → min (min x y) (cond b (min u v) none) ≡ min (min x (cond b u none)) (min y (cond b v none))
min-cond true x y u v = omega arith
min-cond false x y u v = omega arith

-- the earliest of the earlier ends is the earlier of the earliest
pub earliest-min : (st : ℕ) (f g : ℕ → ℕ) (n : ℕ) → earliest st (λ q. min (f q) (g q)) n ≡ min (earliest st f n) (earliest st g n)
unfolding earliest
earliest-min st f g zero = refl
earliest-min st f g (suc n) = rw (earliest-min st f g n) (min-cond (bit st n) _ _ _ _)

later-cond : (b : Bool) (k x : ℕ) → cond b (later k x) none ≡ later k (cond b x none)
later-cond true k x = refl
later-cond false k x = sym (later-none k)

pub earliest-later : (st : ℕ) (f : ℕ → ℕ) (n k : ℕ) → earliest st (λ q. later k (f q)) n ≡ later k (earliest st f n)
unfolding earliest
earliest-later st f zero k = sym (later-none k)
earliest-later st f (suc n) k = rw (earliest-later st f n k, later-min, later-cond)

pub first_end-le : (l : List ℕ) → first_end l ≤ none
unfolding first_end
first_end-le [] = omega arith
first_end-le (x ∷ l) =
    elim (eqb x 1) as (λ b. cond b 0 (later 1 (first_end l)) ≤ none) [ true ↦ zero-le | false ↦ later-le 1 (first_end l) ]

-- the first end of two rows of marks
pub first_end-append : (l k : List ℕ) → first_end (l ++ k) ≡ min (first_end l) (later (length l) (first_end k))
unfolding first_end later
first_end-append [] k = let h : first_end k ≤ none = first_end-le k in omega arith
first_end-append (x ∷ l) k = rw (first_end-append l k) (either (eqb x 1) (first_end l) (first_end k) (length l))
  where
    either : (b : Bool) (e f n : ℕ) → cond b 0 (later 1 (min e (later n f))) ≡ min (cond b 0 (later 1 e)) (later (suc n) f)
    either true e f n = omega arith
    either false e f n = omega arith

-- an end after the first mark
first-least : (x f e : ℕ) → suc e ≤ none → (suc e ≤ cond (eqb x 1) 0 (later 1 f)) ↔ ((x ≡ 1 → ⊥) × (e ≤ f))
unfolding later
first-least x f e l = either (eqb x 1) refl
  where
    either : (b : Bool) → eqb x 1 ≡ b → (suc e ≤ cond b 0 (later 1 f)) ↔ ((x ≡ 1 → ⊥) × (e ≤ f))
    either true h = (λ p. absurd (let z : ⊥ = omega arith in z), λ p. absurd (p.0 (eqb-true x 1 h)))
    either false h = (λ p. (eqb-false x 1 h, omega arith), λ p. omega arith)

-- a first end is the greatest number below which no mark is 1
pub first_end-least : (l : List ℕ) (e : ℕ) → e ≤ none → (e ≤ first_end l) ↔ ((j : ℕ) → j < e → get_or l j 0 ≡ 1 → ⊥)
unfolding first_end
first_end-least [] e h = (λ p j k z. omega arith, λ p. h)
first_end-least (x ∷ l) zero h = (λ p j k z. omega arith, λ p. zero-le)
first_end-least (x ∷ l) (suc e) h =
    let each = each_first (λ j. get_or (x ∷ l) j 0 ≡ 1 → ⊥) e in
    let front = first-least x (first_end l) e h in
    let rest = first_end-least l e (omega arith) in
    (λ p. each.1 ((front.0 p).0, rest.0 (front.0 p).1), λ p. front.1 ((each.0 p).0, rest.1 (each.0 p).1))

-- a first end that is not "none" is the number of a mark
pub first_end-within : (l : List ℕ) → first_end l < none → first_end l < length l
unfolding first_end later
first_end-within [] h = absurd (let z : ⊥ = omega arith in z)
first_end-within (x ∷ l) h = either (eqb x 1) (first_end l) (length l) (first_end-within l) h
  where
    either : (b : Bool) (f n : ℕ) → (f < none → f < n) → cond b 0 (later 1 f) < none → cond b 0 (later 1 f) < suc n
    either true f n ih k = omega arith
    either false f n ih k = let below : f < n = ih (omega arith) in omega arith

-- a first end that is not "none" is the number of a mark that is 1
pub first_end-mark : (l : List ℕ) → first_end l < none → get_or l (first_end l) 0 ≡ 1
first_end-mark l k =
    by_cases (ℕ_discrete (get_or l (first_end l) 0) 1)
    (λ (h : get_or l (first_end l) 0 ≡ 1). h)
    (λ (h : ¬ (get_or l (first_end l) 0 ≡ 1)).
    let farther : suc (first_end l) ≤ first_end l = (first_end-least l (suc (first_end l)) k).1 (unmarked h) in
    absurd (let z : ⊥ = omega arith in z))
  where
    unmarked : ¬ (get_or l (first_end l) 0 ≡ 1) → (j : ℕ) → j < suc (first_end l) → get_or l j 0 ≡ 1 → ⊥
    unmarked h j near m =
        by_cases (dec_lt j (first_end l))
        (λ (early : j < first_end l). (first_end-least l (first_end l) (first_end-le l)).0 (le_refl (first_end l)) j early m)
        (λ (late : ¬ (j < first_end l)). let e : j ≡ first_end l = omega arith in h (rw e at m))

-- the first end among a text's marks is "none" or the number of one of them
pub first_end-end : (l : List ℕ) → EndOf (length l) (first_end l)
first_end-end l =
    by_cases (dec_lt (first_end l) none)
    (λ (h : first_end l < none). inr (first_end-within l h))
    (λ (h : ¬ (first_end l < none)). inl (let e : first_end l ≡ none = omega (arith, first_end-le l) in e))
