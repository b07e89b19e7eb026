-- The exits of no segments, row by row, and the rows of the empty card.
use Prim.Native.Nat.{ℕ, zero, suc, ◌+◌, ◌*◌, ◌%◌, ◌^◌, ◌<◌, ◌≤◌, min}
use native.Mathlib.Nat.{one-mul, mod-eq_of_lt, le_refl, le_of_lt}
use native.Mathlib.Numerals.{add-one}
use native.Mathlib.Decide.{ℕ_discrete, dec_lt}
use native.Mathlib.Omega.{arith}
use mathlib.Core.Path.{◌≡◌, refl, sym, ap, ◌∙◌, fun_ext}
use mathlib.Core.Logic.{by_cases}
use mathlib.Core.Bool.{Bool, true, false, cond}
use mathlib.Core.List.{List, ◌∷◌, map}
use borrow.Author.Tests.{lt-ltb, le-ltb}
use lib.Dec.{ltb}
use lib.ListN.{length, get_or, set, replicate, length-set}
use lib.Pow.{pow-lt}
use lib.Seq.{ext_get_or, get_or-set_same, get_or-set_other}
use Rattle.text.specs.Card.{none, dead, lone, tabulate, rows_of}
use Rattle.text.proofs.Rows.{length-tabulate, get_d_tabulate}
use Rattle.card.specs.Held.{exits_of, firsts_of, lones}

module _ {A : Type 0} where
  map-tabulate : {B : Type 0} (g : A → B) (f : ℕ → A) (n : ℕ) → map g (tabulate f n) ≡ tabulate (λ q. g (f q)) n
  unfolding tabulate
  map-tabulate g f zero = refl
  map-tabulate g f (suc n) = ap (λ l. g (f 0) ∷ l) (map-tabulate g (λ q. f (suc q)) n)

  tabulate-cong : (f g : ℕ → A) (n : ℕ) → ((q : ℕ) → f q ≡ g q) → tabulate f n ≡ tabulate g n
  tabulate-cong f g n h = ap (λ (f : ℕ → A). tabulate f n) (fun_ext h)

  tabulate-replicate : (a : A) (n : ℕ) → tabulate (λ q. a) n ≡ replicate n a
  unfolding tabulate
  tabulate-replicate a zero = refl
  tabulate-replicate a (suc n) = ap (λ l. a ∷ l) (tabulate-replicate a n)

cond-exit : (b : Bool) (q : ℕ) → (cond b (lone q) dead).exit ≡ cond b (2 ^ q) 0
cond-exit true q = refl
cond-exit false q = refl

cond-first : (b : Bool) (q : ℕ) → (cond b (lone q) dead).first ≡ none
cond-first true q = refl
cond-first false q = refl

pub exits-lone : (m : ℕ) → exits_of (rows_of m lone) ≡ lones m
unfolding rows_of lones
exits-lone m = map-tabulate _ _ 64 ∙ tabulate-cong _ _ 64 (λ q. cond-exit (ltb q m) q)

pub firsts-lone : (m : ℕ) → firsts_of (rows_of m lone) ≡ replicate 64 none
unfolding rows_of
firsts-lone m = map-tabulate _ _ 64 ∙ tabulate-cong _ _ 64 (λ q. cond-first (ltb q m) q) ∙ tabulate-replicate none 64

-- the bits below q are set, each in its own row
pub record Loning (m : ℕ) (exits : List ℕ) (q : ℕ) : Type 0 where
  pub inside : q ≤ min m 64
  pub states : exits ≡ lones q

module _ (m : ℕ) where
  pub loning-none : Loning m (replicate 64 0) 0
  unfolding lones
  loning-none =
      let nothing = tabulate-cong (λ q. cond (ltb q 0) (2 ^ q) 0) (λ q. 0) 64 (λ q. rw (le-ltb q 0 (omega arith))) in
      record { inside = omega arith; states = sym (nothing ∙ tabulate-replicate 0 64) }

lones-long : (n : ℕ) → length (lones n) ≡ 64
unfolding lones
lones-long n = length-tabulate _ 64

lones-at : (n p : ℕ) → p < 64 → get_or (lones n) p 0 ≡ cond (ltb p n) (2 ^ p) 0
unfolding lones
lones-at n p l = get_d_tabulate (λ q. cond (ltb q n) (2 ^ q) 0) 64 p 0 l

-- one more is below q + 1 than below q: q itself
ltb-other : (p q : ℕ) → (p ≡ q → ⊥) → ltb p q ≡ ltb p (suc q)
ltb-other p q ne =
    by_cases (dec_lt p q)
    (λ (l : p < q). lt-ltb p q l ∙ sym (lt-ltb p (suc q) (let z : p < suc q = omega arith in z)))
    (λ (l : ¬ (p < q)).
    let far : q < p = omega (arith, ne) in
    le-ltb p q (le_of_lt far) ∙ sym (le-ltb p (suc q) far))

set-lones : (q : ℕ) → q < 64 → set (lones q) q (2 ^ q) ≡ lones (suc q)
set-lones q l =
    ext_get_or 0 (set (lones q) q (2 ^ q)) (lones (suc q)) even
    (λ p k.
    let small : p < 64 = omega (arith, length-set (lones q) q (2 ^ q), lones-long q) in
    each p small ∙ sym (lones-at (suc q) p small))
  where
    even : length (set (lones q) q (2 ^ q)) ≡ length (lones (suc q))
    even = length-set (lones q) q (2 ^ q) ∙ lones-long q ∙ sym (lones-long (suc q))

    each : (p : ℕ) → p < 64 → get_or (set (lones q) q (2 ^ q)) p 0 ≡ cond (ltb p (suc q)) (2 ^ p) 0
    each p small =
        by_cases (ℕ_discrete p q)
        (λ (e : p ≡ q).
        let inside : q < length (lones q) = omega (arith, lones-long q) in
        rw (e, get_or-set_same (lones q) q (2 ^ q) 0 inside, lt-ltb q (suc q) (le_refl (suc q))))
        (λ (ne : ¬ (p ≡ q)).
        get_or-set_other (lones q) q p (2 ^ q) 0 ne ∙ lones-at q p small ∙ ap (λ (b : Bool). cond b (2 ^ p) 0) (ltb-other p q ne))

-- there are 64 rows, however many bases there are
lones-most : (m : ℕ) → lones (min m 64) ≡ lones m
lones-most m =
    by_cases (dec_lt m 64)
    (λ (l : m < 64). ap lones (let e : min m 64 ≡ m = omega arith in e))
    (λ (l : ¬ (m < 64)). ap lones (let e : min m 64 ≡ 64 = omega arith in e) ∙ ext_get_or 0 (lones 64) (lones m) even (same l))
  where
    even : length (lones 64) ≡ length (lones m)
    even = lones-long 64 ∙ sym (lones-long m)

    same : ¬ (m < 64) → (p : ℕ) → p < length (lones 64) → get_or (lones 64) p 0 ≡ get_or (lones m) p 0
    same l p k =
        let small : p < 64 = omega (arith, lones-long 64) in
        let below : p < m = omega arith in
        lones-at 64 p small
        ∙ ap (λ (b : Bool). cond b (2 ^ p) 0) (lt-ltb p 64 small ∙ sym (lt-ltb p m below))
        ∙ sym (lones-at m p small)

module _ (m : ℕ) (exits : List ℕ) (q : ℕ) (h : Loning m exits q) (most : ℕ) (few : most ≡ min m 64) where
  pub loning-more : q < most → Loning m (set exits q (1 * 2 ^ q % 2 ^ 64)) (q + 1)
  loning-more l =
      let inside : q < 64 = omega arith in
      let alone : 1 * 2 ^ q % 2 ^ 64 ≡ 2 ^ q = ap (λ (n : ℕ). n % 2 ^ 64) (one-mul (2 ^ q)) ∙ mod-eq_of_lt (pow-lt inside) in
      record { inside = omega arith; states = rw (alone, h.states, add-one) (set-lones q inside) }

  pub loning-all : most ≤ q → exits ≡ lones m
  loning-all l = let e : q ≡ min m 64 = omega (arith, h.inside) in h.states ∙ ap lones e ∙ lones-most m
