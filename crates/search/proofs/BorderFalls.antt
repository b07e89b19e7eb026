-- The fallback from k matched bases with a letter after them, border by border.
use Prim.Native.Nat.{ℕ, zero, suc, ◌+◌, ◌-◌, ◌≤◌, ◌<◌}
use native.Mathlib.Nat.{le_of_lt}
use native.Mathlib.Numerals.{add-one}
use native.Mathlib.Omega.{arith}
use mathlib.Core.Path.{◌≡◌, sym, ap, ◌∙◌}
use mathlib.Core.List.{List, [], ◌∷◌, ◌++◌}
use lib.ListN.{length, take, get_or}
use Rattle.text.specs.Occurrence.{Suffix}
use Rattle.search.specs.Border.{Border, Next, Matched}
use Rattle.search.proofs.BorderStrings.{suffix-self, suffix-none}
use Rattle.search.proofs.BorderLengths.{last-base, one_more, next-length, grow}

module _ (P : List ℕ) (c : ℕ) where
  -- base k fits: one more
  next-found : (k : ℕ) → k < length P → get_or P k 0 ≡ c → Next P k c (k + 1)
  next-found k l e = rw add-one record {
    within = l;
    ends = one_more P (take k P) c k l e (suffix-self (take k P));
    most = λ r h x. next-length P k c r (le_of_lt l) h x;
  }

  -- the first base does not fit: nothing ends
  next-none : 0 < length P → (get_or P 0 0 ≡ c → ⊥) → Next P 0 c 0
  next-none l f = record { within = le_of_lt l; ends = suffix-none P (c ∷ []); most = most }
    where
      most : (r : ℕ) → r ≤ length P → Suffix (take r P) (take 0 P ++ (c ∷ [])) → r ≤ 0
      most zero h x = omega arith
      most (suc zero) h x = absurd (f (last-base P [] c 0 l x).1)
      most (suc (suc r)) h x = omega (arith, next-length P 0 c (suc (suc r)) (le_of_lt l) h x)

  -- base k does not fit: whatever ends after the border of k ends after k
  next-border : (k b x : ℕ) → 0 < k → k < length P → (get_or P k 0 ≡ c → ⊥) → Border P k b → Next P b c x → Next P k c x
  next-border k b x some l f border w =
      let near : k - 1 < length P = omega arith in
      let g = grow P (take k P) (k - 1) b c x near border w in
      record { within = w.within; ends = g.ends; most = λ r h e. g.most r (upto r h e) e }
    where
      upto : (r : ℕ) → r ≤ length P → Suffix (take r P) (take k P ++ (c ∷ [])) → r ≤ suc (k - 1)
      upto zero h e = omega arith
      upto (suc r) h e =
          let other : r ≡ k → ⊥ = λ (q : r ≡ k). f (ap (λ (i : ℕ). get_or P i 0) (sym q) ∙ (last-base P (take k P) c r h e).1) in
          omega (arith, next-length P k c (suc r) (le_of_lt l) h e)

-- a fallback from k has come down to q: whatever ends after q ends after k
pub record Falls (P : List ℕ) (c k q : ℕ) : Type 0 where
  pub down : q ≤ k
  pub rest : (x : ℕ) → Next P q c x → Next P k c x

pub falls-none : {P : List ℕ} {c k : ℕ} → Falls P c k k
falls-none = record { down = omega arith; rest = λ x w. w }

module _ {P table : List ℕ} {c k q : ℕ} (m : Matched P table k) (f : Falls P c k q) where
  near : q < length P
  near = omega (arith, m.near, f.down)

  pub falls-less : (q ≡ 0 → ⊥) → get_or table q 0 < q
  falls-less some = omega (arith, (m.filled.border q f.down).within)

  -- base q does not fit: on to its border
  pub falls-more : (q ≡ 0 → ⊥) → (get_or P q 0 ≡ c → ⊥) → Falls P c k (get_or table q 0)
  falls-more some other =
      let border = m.filled.border q f.down in
      let some : 0 < q = omega arith in
      record {
        down = omega (arith, f.down, border.within);
        rest = λ x w. f.rest x (next-border P c q (get_or table q 0) x some near other border w);
      }

  -- base q fits
  pub falls-found : get_or P q 0 ≡ c → Next P k c (q + 1)
  falls-found e = f.rest (q + 1) (next-found P c q near e)

  -- no base fits
  pub falls-end : (get_or P q 0 ≡ c → ⊥) → q ≡ 0 → Next P k c 0
  falls-end other e = (rw e at f.rest) 0 (next-none P c (rw e at near) (rw e at other))
