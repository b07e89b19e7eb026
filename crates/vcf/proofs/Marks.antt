-- Laws of bytes cut at marks: the first piece from a place on, and the rest after its mark.
use Prim.Native.Nat.{ℕ, suc, ◌+◌, ◌-◌, ◌<◌, ◌≤◌}
use native.Mathlib.Numerals.{add-one}
use native.Mathlib.Omega.{arith}
use mathlib.Core.Path.{◌≡◌, refl, sym, ap, ◌∙◌}
use mathlib.Core.Logic.{by_cases}
use native.Mathlib.Decide.{dec_lt}
use mathlib.Core.Bool.{Bool, true, false, not, cond, ◌||◌, ◌&&◌}
use mathlib.Core.List.{List, [], ◌∷◌, ◌++◌}
use lib.Dec.{eqb, ltb}
use lib.ListN.{length, take, drop, get_or, length-take, length-drop, take-append-drop, drop_of_length-le}
use lib.Seq.{drop-drop, drop-cons, take_all}
use borrow.Author.Tests.{le-ltb, lt-ltb, eq-eqb, ne_eqb}
use Rattle.text.specs.Letter.{every, first_not}
use Rattle.text.proofs.Letters.{first-le}
use Rattle.text.proofs.Truth.{and-true, and_left, and_right}
use Rattle.layout.specs.Bytes.{part}
use Rattle.vcf.specs.Pieces.{onto, cut_at, pieces, lines, other, end_of, Skips, Ends, next_line}

-- a byte is the mark, or another
pub is-mark : (c x : ℕ) → x ≡ c → other c x ≡ false
is-mark c x e = rw (eq-eqb x c e)

pub is-other : (c x : ℕ) → (x ≡ c → ⊥) → other c x ≡ true
is-other c x e = rw (ne_eqb x c e)

module _ (c : ℕ) where
  -- a mark: the piece before it, and what is cut after it
  cut-marked :
      (end : List (List ℕ)) (s : List ℕ) → first_not (other c) s < length s →
      cut_at c end s ≡ take (first_not (other c) s) s ∷ cut_at c end (drop (suc (first_not (other c) s)) s)
  unfolding cut_at first_not
  cut-marked end [] l = absurd (let z : ⊥ = omega arith in z)
  cut-marked end (x ∷ s) l = step (eqb x c) l (cut-marked end s)
    where
      step :
          (b : Bool) → cond (not b) (suc (first_not (other c) s)) 0 < suc (length s) →
          (first_not (other c) s < length s →
          cut_at c end s ≡ take (first_not (other c) s) s ∷ cut_at c end (drop (suc (first_not (other c) s)) s)) →
          cond b ([] ∷ cut_at c end s) (onto x (cut_at c end s))
          ≡ take (cond (not b) (suc (first_not (other c) s)) 0) (x ∷ s)
          ∷ cut_at c end (drop (suc (cond (not b) (suc (first_not (other c) s)) 0)) (x ∷ s))
      step true l h = refl
      step false l h = let m : first_not (other c) s < length s = omega arith in rw (h m)

  -- no mark: one piece
  cut-whole : (s : List ℕ) → first_not (other c) s ≡ length s → pieces c s ≡ s ∷ []
  unfolding cut_at first_not
  cut-whole [] e = refl
  cut-whole (x ∷ s) e = step (eqb x c) e (cut-whole s)
    where
      step :
          (b : Bool) → cond (not b) (suc (first_not (other c) s)) 0 ≡ suc (length s) →
          (first_not (other c) s ≡ length s → pieces c s ≡ s ∷ []) →
          cond b ([] ∷ pieces c s) (onto x (pieces c s)) ≡ (x ∷ s) ∷ []
      step true l h = absurd (let z : ⊥ = omega arith in z)
      step false l h = let m : first_not (other c) s ≡ length s = omega arith in rw (h m)

  line-whole : (x : ℕ) (s : List ℕ) → first_not (other c) (x ∷ s) ≡ suc (length s) → cut_at c [] (x ∷ s) ≡ (x ∷ s) ∷ []
  unfolding cut_at first_not
  line-whole x [] e = step (eqb x c) e
    where
      step : (b : Bool) → ◌≡◌ {A = ℕ} (cond (not b) 1 0) 1 → cond b ([] ∷ []) (onto x []) ≡ (x ∷ []) ∷ []
      step true l = absurd (let z : ⊥ = omega arith in z)
      step false l = refl
  line-whole x (y ∷ s) e = step (eqb x c) e (line-whole y s)
    where
      step :
          (b : Bool) → cond (not b) (suc (first_not (other c) (y ∷ s))) 0 ≡ suc (suc (length s)) →
          (first_not (other c) (y ∷ s) ≡ suc (length s) → cut_at c [] (y ∷ s) ≡ (y ∷ s) ∷ []) →
          cond b ([] ∷ cut_at c [] (y ∷ s)) (onto x (cut_at c [] (y ∷ s))) ≡ (x ∷ y ∷ s) ∷ []
      step true l h = absurd (let z : ⊥ = omega arith in z)
      step false l h = let m : first_not (other c) (y ∷ s) ≡ suc (length s) = omega arith in rw (h m)

  module _ (s : List ℕ) (from : ℕ) where
    pub end-inside : from ≤ length s → end_of c s from ≤ length s
    unfolding end_of
    end-inside l = omega (arith, first-le (other c) (drop from s), length-drop from s)

    -- a mark at or after `from`
    pub cut-next :
        (end : List (List ℕ)) → end_of c s from < length s →
        cut_at c end (drop from s) ≡ part s from (end_of c s from - from) ∷ cut_at c end (drop (end_of c s from + 1) s)
    unfolding end_of
    cut-next end l =
        let n : ℕ = first_not (other c) (drop from s) in
        let inside : n < length (drop from s) = omega (arith, length-drop from s) in
        let size : from + n - from ≡ n = omega arith in
        let next : from + n + 1 ≡ from + suc n = omega arith in
        rw (size, next, ← drop-drop (suc n) from s) (cut-marked end (drop from s) inside)

    -- none
    no-mark : from ≤ length s → end_of c s from ≡ length s → first_not (other c) (drop from s) ≡ length (drop from s)
    unfolding end_of
    no-mark l e = omega (arith, length-drop from s)

    pub rest-is : from ≤ length s → end_of c s from ≡ length s → part s from (end_of c s from - from) ≡ drop from s
    rest-is l e = take_all (end_of c s from - from) (drop from s) (omega (arith, length-drop from s))

    pub cut-last : from ≤ length s → end_of c s from ≡ length s → pieces c (drop from s) ≡ part s from (end_of c s from - from) ∷ []
    cut-last l e = rw (rest-is l e) (cut-whole (drop from s) (no-mark l e))

-- what is found in the part from `from` on
pub ends_is :
    (c : ℕ) (s : List ℕ) (from n : ℕ) → from ≤ length s → n ≡ first_not (other c) (take (length s - from) (drop from s)) →
    Ends c s from (from + n)
unfolding end_of
ends_is c s from n l e =
    let w : take (length s - from) (drop from s) ≡ drop from s =
    take_all (length s - from) (drop from s) (omega (arith, length-drop from s)) in
    let m : n ≡ first_not (other c) (drop from s) = e ∙ rw w in
    record { is = rw m; behind = omega arith; inside = omega (arith, first-le (other c) (drop from s), length-drop from s) }

-- from a place in the list it lies in the list
pub ends-inside : {c : ℕ} {s : List ℕ} {from end : ℕ} → Ends c s from end → from ≤ length s → end ≤ length s
ends-inside e l = omega (arith, e.inside)

-- from after the list on there is nothing
pub ends-behind : (c : ℕ) (s : List ℕ) (from : ℕ) → length s < from → Ends c s from from
unfolding end_of first_not
ends-behind c s from l =
    let m : length s ≤ from = omega arith in
    let z : from ≡ from + 0 = omega arith in
    record { is = rw (drop_of_length-le s m) z; behind = omega arith; inside = omega arith }

-- bytes looked at together: so far a mark was found, or none
pub record Clearing (c : ℕ) (s : List ℕ) (found : Bool) (i : ℕ) : Type 0 where
  pub inside : i ≤ length s
  pub rest : every (other c) s ≡ (not found && every (other c) (drop i s))

pub clearing-none : (c : ℕ) (s : List ℕ) → Clearing c s false 0
clearing-none c s = record { inside = omega arith; rest = refl }

module _ {c : ℕ} {s : List ℕ} {found : Bool} {i : ℕ} (h : Clearing c s found i) where
  pub clearing-more : i < length s → Clearing c s (found || eqb (get_or s i 0) c) (i + 1)
  unfolding every
  clearing-more l =
      let more : every (other c) (drop i s) ≡ (not (eqb (get_or s i 0) c) && every (other c) (drop (i + 1) s)) =
      rw add-one (ap (every (other c)) (drop-cons s i 0 l)) in
      record { inside = omega arith; rest = h.rest ∙ rw more (both found (eqb (get_or s i 0) c) (every (other c) (drop (i + 1) s))) }
    where
      both : (a b d : Bool) → (not a && (not b && d)) ≡ (not (a || b) && d)
      both true b d = refl
      both false b d = refl

  pub clearing-end : length s ≤ i → not found ≡ every (other c) s
  unfolding every
  clearing-end l = sym (h.rest ∙ rw (drop_of_length-le s l) (and-true (not found)))

-- blocks without a mark are passed
skips-none : (c : ℕ) (s : List ℕ) (from : ℕ) → from ≤ length s → Skips c s from from
skips-none c s from l = record { rest = refl; behind = omega arith; inside = l }

first-behind : (f : ℕ → Bool) (b r : List ℕ) → every f b ≡ true → first_not f (b ++ r) ≡ length b + first_not f r
unfolding every first_not
first-behind f [] r e = omega arith
first-behind f (x ∷ b) r e =
    let rest : first_not f (b ++ r) ≡ length b + first_not f r = first-behind f b r (and_right (f x) (every f b) e) in
    rw (and_left (f x) (every f b) e) (omega arith)

skips-more :
    {c : ℕ} {s : List ℕ} {from at : ℕ} (n : ℕ) → Skips c s from at → at + n ≤ length s →
    every (other c) (take (at + n - at) (drop at s)) ≡ true → Skips c s from (at + n)
unfolding end_of
skips-more {c} {s} {from} {at} n h l e =
    let f : ℕ → Bool = other c in
    let size : at + n - at ≡ n = omega arith in
    let own : length (take n (drop at s)) ≡ n = simp (length-take, length-drop) (omega arith) in
    let split : drop at s ≡ take n (drop at s) ++ drop (at + n) s =
    sym (take-append-drop n (drop at s)) ∙ rw (drop-drop n at s) in
    let first : first_not f (drop at s) ≡ n + first_not f (drop (at + n) s) =
    ap (first_not f) split ∙ first-behind f (take n (drop at s)) (drop (at + n) s) (rw size at e) ∙ rw own in
    record { rest = h.rest ∙ omega (arith, first); behind = omega (arith, h.behind); inside = l }

-- that many bytes are left
pub record Skipping (c : ℕ) (s : List ℕ) (from at left : ℕ) : Type 0 where
  pub skips : Skips c s from at
  pub count : at + left ≡ length s

pub skipping-none : (c : ℕ) (s : List ℕ) (from : ℕ) → from ≤ length s → Skipping c s from from (length s - from)
skipping-none c s from l = record { skips = skips-none c s from l; count = omega arith }

pub skipping-more :
    {c : ℕ} {s : List ℕ} {from at left : ℕ} (n : ℕ) → Skipping c s from at left → n ≤ left →
    every (other c) (take (at + n - at) (drop at s)) ≡ true → Skipping c s from (at + n) (left - n)
skipping-more n h l e = record { skips = skips-more n h.skips (omega (arith, h.count)) e; count = omega (arith, h.count) }

pub skips-ends : {c : ℕ} {s : List ℕ} {from at end : ℕ} → Skips c s from at → Ends c s at end → Ends c s from end
skips-ends h e =
    record {
      is = e.is ∙ sym h.rest;
      behind = omega (arith, h.behind, e.behind);
      inside = omega (arith, h.inside, e.inside);
    }

-- the first piece from `from` on, whether a mark follows it or not
pub first_piece :
    (c : ℕ) (s : List ℕ) (from : ℕ) → from ≤ length s →
    get_or (pieces c (drop from s)) 0 [] ≡ part s from (end_of c s from - from)
first_piece c s from l =
    by_cases (dec_lt (end_of c s from) (length s))
    (λ (m : end_of c s from < length s). rw (cut-next c s from ([] ∷ []) m))
    (λ (m : ¬ (end_of c s from < length s)).
    let e : end_of c s from ≡ length s = omega (arith, end-inside c s from l) in
    rw (cut-last c s from l e))

-- piece number k is looked for
pub record Sought (c : ℕ) (s : List ℕ) (k from i : ℕ) : Type 0 where
  pub inside : from ≤ length s
  pub most : i ≤ k
  pub rest : get_or (pieces c s) k [] ≡ get_or (pieces c (drop from s)) (k - i) []

left_one : (i k : ℕ) → i < k → k - i ≡ suc (k - (i + 1))
left_one i k l = omega arith

pub sought-none : (c : ℕ) (s : List ℕ) (k : ℕ) → Sought c s k 0 0
sought-none c s k = let e : k - 0 ≡ k = omega arith in record { inside = omega arith; most = omega arith; rest = rw e }

module _ {c : ℕ} {s : List ℕ} {k from i : ℕ} (h : Sought c s k from i) where
  pub sought-more : i < k → {end : ℕ} → Ends c s from end → (end ≡ length s → ⊥) → Sought c s k (end + 1) (i + 1)
  sought-more l {end} e m =
      let n : end_of c s from < length s = omega (arith, m) in
      record {
        inside = omega arith;
        most = omega arith;
        rest = h.rest ∙ rw (cut-next c s from ([] ∷ []) n, left_one i k l, e.is);
      }

  pub sought-missing :
      i < k → {end : ℕ} → Ends c s from end → end ≡ length s → take (length s - end) (drop end s) ≡ get_or (pieces c s) k []
  sought-missing l {end} e m =
      let n : end_of c s from ≡ length s = omega arith in
      let z : length s - end ≡ 0 = omega arith in
      rw z (sym (h.rest ∙ rw (cut-last c s from h.inside n, left_one i k l)))

  pub sought-end : k ≤ i → {end : ℕ} → Ends c s from end → get_or (pieces c s) k [] ≡ part s from (end - from)
  sought-end l {end} e =
      let z : k - i ≡ 0 = omega arith in
      h.rest ∙ rw (z, e.is) (first_piece c s from h.inside)

-- pieces are counted
pub record Counted (c : ℕ) (s : List ℕ) (n from i : ℕ) : Type 0 where
  pub inside : from ≤ length s
  pub most : i ≤ n
  pub rest : length (pieces c s) ≡ i + length (pieces c (drop from s))

pub counted_none : (c : ℕ) (s : List ℕ) (n : ℕ) → Counted c s n 0 0
counted_none c s n = record { inside = omega arith; most = omega arith; rest = omega arith }

-- there is always a piece
pub some-piece : (c : ℕ) (s : List ℕ) → 0 < length (pieces c s)
unfolding cut_at
some-piece c [] = omega arith
some-piece c (x ∷ s) = step (eqb x c) (pieces c s)
  where
    step : (b : Bool) (l : List (List ℕ)) → 0 < length (cond b ([] ∷ l) (onto x l))
    step true l = omega arith
    step false [] = omega arith
    step false (p ∷ l) = omega arith

module _ {c : ℕ} {s : List ℕ} {n from i : ℕ} (h : Counted c s n from i) where
  pub counted-more : i < n → {end : ℕ} → Ends c s from end → (end ≡ length s → ⊥) → Counted c s n (end + 1) (i + 1)
  counted-more l {end} e m =
      let k : end_of c s from < length s = omega (arith, m) in
      let z = ap length (cut-next c s from ([] ∷ []) k) in
      record { inside = omega arith; most = omega arith; rest = rw e.is (omega (arith, z, h.rest)) }

  pub counted-last : i < n → {end : ℕ} → Ends c s from end → end ≡ length s → ltb n (length (pieces c s)) ≡ false
  counted-last l {end} e m =
      let k : end_of c s from ≡ length s = omega arith in
      let z = ap length (cut-last c s from h.inside k) in
      le-ltb n (length (pieces c s)) (omega (arith, z, h.rest))

  pub counted-end : n ≤ i → ltb n (length (pieces c s)) ≡ true
  counted-end l = lt-ltb n (length (pieces c s)) (omega (arith, h.rest, some-piece c (drop from s)))

last_line : (s : List ℕ) (at : ℕ) → at < length s → first_not (other 0x0A) (drop at s) ≡ length (drop at s) → lines (drop at s)
    ≡ drop at s ∷ lines []
unfolding cut_at
last_line s at l f =
    let c : drop at s ≡ get_or s at 0 ∷ drop (suc at) s = drop-cons s at 0 l in
    rw c (line-whole 0x0A (get_or s at 0) (drop (suc at) s) (rw c at f))

-- the next line, and the lines after it
pub lines_next :
    (s : List ℕ) (at end : ℕ) → at < length s → Ends 0x0A s at end →
    lines (drop at s) ≡ part s at (end - at) ∷ lines (drop (next_line s end) s)
unfolding next_line
lines_next s at end l e =
    by_cases (dec_lt end (length s))
    (λ (m : end < length s).
    let n : end_of 0x0A s at < length s = omega arith in
    rw (lt-ltb end (length s) m, e.is) (cut-next 0x0A s at [] n))
    (λ (m : ¬ (end < length s)).
    let n : end ≡ length s = omega arith in
    let k : end_of 0x0A s at ≡ length s = omega arith in
    let w : part s at (end - at) ≡ drop at s = rw e.is (rest-is 0x0A s at (omega arith) k) in
    let y : length s ≤ end = omega arith in
    let z : drop end s ≡ [] = drop_of_length-le s y in
    rw (le-ltb end (length s) y, w, z) (last_line s at l (no-mark 0x0A s at (omega arith) k)))

pub lines_none : (s : List ℕ) (at : ℕ) → length s ≤ at → lines (drop at s) ≡ []
unfolding cut_at
lines_none s at l = rw (drop_of_length-le s l)

pub next-behind : (s : List ℕ) (at end : ℕ) → at < length s → Ends 0x0A s at end → (at < next_line s end) × (next_line s end ≤ length s)
unfolding next_line
next-behind s at end l e =
    by_cases (dec_lt end (length s))
    (λ (m : end < length s). rw (lt-ltb end (length s) m) (omega arith, omega arith))
    (λ (m : ¬ (end < length s)). rw (le-ltb end (length s) (omega arith)) (omega arith, omega arith))

-- pieces are counted to the last: n - 1 of them stand before `from`
pub record Counting (c : ℕ) (s : List ℕ) (n from : ℕ) : Type 0 where
  pub inside : from ≤ length s
  pub rest : length (pieces c s) + 1 ≡ n + length (pieces c (drop from s))

pub counting-none : (c : ℕ) (s : List ℕ) → Counting c s 1 0
counting-none c s = record { inside = omega arith; rest = omega arith }

module _ {c : ℕ} {s : List ℕ} {n from : ℕ} (h : Counting c s n from) {end : ℕ} (e : Ends c s from end) where
  pub counting-few : n ≤ length (pieces c s)
  counting-few = omega (arith, h.rest, some-piece c (drop from s))

  pub counting-last : end ≡ length s → n ≡ length (pieces c s)
  counting-last m =
      let k : end_of c s from ≡ length s = omega arith in
      omega (arith, h.rest, ap length (cut-last c s from h.inside k))

  pub counting_more : (end ≡ length s → ⊥) → Counting c s (n + 1) (end + 1)
  counting_more m =
      let k : end_of c s from < length s = omega (arith, m) in
      let z = ap length (cut-next c s from ([] ∷ []) k) in
      record { inside = omega (arith, m); rest = rw e.is (omega (arith, z, h.rest)) }
