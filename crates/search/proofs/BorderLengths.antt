-- Laws of the longest length at which a pattern's first bases end a string. One law, `grow`, moves it by a letter: in the
-- construction of the table, in the scan of a variant and in each step of a fallback.
use Prim.Native.Nat.{ℕ, zero, suc, ◌-◌, ◌≤◌, ◌<◌}
use native.Mathlib.Omega.{arith}
use mathlib.Core.Path.{◌≡◌, refl}
use mathlib.Core.List.{List, [], ◌∷◌, ◌++◌}
use lib.ListN.{length, take, get_or, length-append}
use lib.Seq.{take-suc, length-take-le}
use Rattle.text.specs.Occurrence.{Suffix}
use Rattle.search.specs.Border.{Longest, Border, Next}
use Rattle.text.proofs.Snoc.{suffix-less, suffix-more}
use Rattle.search.proofs.BorderStrings.{suffix_trans, suffix-length, suffix-of-longer}

module _ (P : List ℕ) where
  -- bases that end a string with a letter after it: those before the last one end the string, and the last one is the letter
  pub last-base : (s : List ℕ) (c r : ℕ) → r < length P → Suffix (take (suc r) P) (s ++ (c ∷ []))
      → Suffix (take r P) s × (get_or P r 0 ≡ c)
  last-base s c r l x = suffix-less s c (take r P) (get_or P r 0) (rw (take-suc P r 0 l) at x)

  pub one_more : (s : List ℕ) (c r : ℕ) → r < length P → get_or P r 0 ≡ c → Suffix (take r P) s → Suffix (take (suc r) P) (s ++ (c ∷ []))
  one_more s c r l e x = rw (take-suc P r 0 l) (suffix-more s c (take r P) (get_or P r 0) x e)

  -- first bases that end a string are no longer than it
  pub ends-length : (s : List ℕ) (r : ℕ) → r ≤ length P → Suffix (take r P) s → r ≤ length s
  ends-length s r l x = omega (arith, suffix-length x, length-take-le r P l)

  -- after k bases and a letter at most k + 1 bases end
  pub next-length : (k c r : ℕ) → k ≤ length P → r ≤ length P → Suffix (take r P) (take k P ++ (c ∷ [])) → r ≤ suc k
  next-length k c r h l x =
      omega (arith, ends-length (take k P ++ (c ∷ [])) r l x, length-append (take k P) (c ∷ []), length-take-le k P h)

  -- of two lengths at which first bases end a string, the fewer end the more
  ends_more : (s : List ℕ) (r k : ℕ) → r ≤ k → k ≤ length P → Suffix (take r P) s → Suffix (take k P) s → Suffix (take r P) (take k P)
  ends_more s r k l h x y =
      let w : r ≤ length P = omega arith in
      let shorter : length (take r P) ≤ length (take k P) = omega (arith, length-take-le r P w, length-take-le k P h) in
      suffix-of-longer x y shorter

  -- a letter more
  pub grow : (s : List ℕ) (n k c x : ℕ) → n < length P → Longest P s n k → Next P k c x → Longest P (s ++ (c ∷ [])) (suc n) x
  grow s n k c x l g w =
      record {
        within = omega (arith, g.within, low);
        ends = suffix_trans w.ends (suffix-more s c (take k P) c g.ends refl);
        most = most;
      }
    where
      inside : k ≤ length P
      inside = omega (arith, g.within)

      low : x ≤ suc k
      low = next-length k c x inside w.within w.ends

      most : (r : ℕ) → r ≤ suc n → Suffix (take r P) (s ++ (c ∷ [])) → r ≤ x
      most zero h e = omega arith
      most (suc r) h e =
          let near : r < length P = omega arith in
          let b = last-base s c r near e in
          let below : r ≤ k = g.most r (let z : r ≤ n = omega arith in z) b.0 in
          w.most (suc r) near (one_more (take k P) c r near b.1 (ends_more s r k below inside b.0 g.ends))

  -- below a length k at which first bases end a string, the longest is the border of k
  pub longest-below : (s : List ℕ) (k b : ℕ) → k ≤ length P → Suffix (take k P) s → Border P k b → Longest P s (k - 1) b
  longest-below s k b l x border = record {
    within = border.within;
    ends = suffix_trans border.ends x;
    most = λ r h y. border.most r h (ends_more s r k (let z : r ≤ k = omega arith in z) l y x);
  }
