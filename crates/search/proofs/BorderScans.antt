-- The scan of a variant, letter by letter.
use Prim.Native.Nat.{ℕ, suc, ◌+◌, ◌-◌, ◌≤◌, ◌<◌}
use native.Mathlib.Nat.{le_refl, le_of_lt}
use native.Mathlib.Numerals.{add-one}
use native.Mathlib.Omega.{arith}
use mathlib.Core.Path.{◌≡◌, refl, ap}
use mathlib.Core.Logic.{⊎_elim, inl}
use mathlib.Core.Bool.{Bool, true, false, false≢true}
use mathlib.Core.List.{List, [], ◌∷◌, ◌++◌}
use lib.ListN.{length, take, get_or, length-append}
use lib.Seq.{take-suc, take_all, take-length}
use Rattle.text.specs.Refusal.{SoundPattern}
use Rattle.text.specs.Occurrence.{Suffix, Inside}
use Rattle.search.specs.Border.{Longest, Next, Borders, Matched}
use Rattle.search.specs.BorderStep.{Scans}
use Rattle.text.proofs.Snoc.{inside-less, inside-more}
use Rattle.search.proofs.BorderStrings.{suffix-none, suffix-inside}
use Rattle.search.proofs.BorderLengths.{ends-length, grow, longest-below}
use Rattle.search.proofs.BorderTables.{filled-below}

-- nothing is read: no base ends it, and nothing lies in it
scans-none : (P : List ℕ) → 0 < length P → Scans P [] 0 false
scans-none P l = record { ends = longest; inside = (λ e. absurd (false≢true e), λ h. absurd (outside h)) }
  where
    longest : Longest P [] (length P - 1) 0
    longest = record {
      within = omega arith;
      ends = suffix-none P [];
      most = λ r h x. ends-length P [] r (let z : r ≤ length P = omega arith in z) x;
    }

    outside : Inside P [] → ⊥
    outside h = omega (arith, simp length-append at (ap length h.split))

-- the letter c is put after s, and the first x bases end that
module _ {P s : List ℕ} {k : ℕ} {whole : Bool} (c : ℕ) {x : ℕ} (sized : SoundPattern P) (g : Scans P s k whole) (w : Next P k c x) where
  grown : Longest P (s ++ (c ∷ [])) (length P) x
  grown =
      let n : suc (length P - 1) ≡ length P = omega (arith, sized.some) in
      let l : length P - 1 < length P = omega (arith, sized.some) in
      rw n at (grow P s (length P - 1) k c x l g.ends w)

  -- these are the whole pattern
  scans-whole : {table : List ℕ} → Borders P table → x ≡ length P → Scans P (s ++ (c ∷ [])) (get_or table (length P) 0) true
  scans-whole {table} b e =
      let m = length P in
      let end : Suffix (take m P) (s ++ (c ∷ [])) = rw e at grown.ends in
      record {
        ends = longest-below P (s ++ (c ∷ [])) m (get_or table m 0) (le_refl m) end (b.border m (le_refl m));
        inside = (λ t. suffix-inside (rw take-length at end), λ h. refl);
      }

  -- they are not
  scans-part : (x ≡ length P → ⊥) → Scans P (s ++ (c ∷ [])) x whole
  scans-part other = record {
    ends = longest;
    inside = (
      λ t. inside-more s c P (inl (g.inside.0 t)),
      λ h. ⊎_elim g.inside.1 (λ (y : Suffix P (s ++ (c ∷ []))). absurd (other (is_whole y))) (inside-less s c P h),
    );
  }
    where
      longest : Longest P (s ++ (c ∷ [])) (length P - 1) x
      longest = record {
        within = omega (arith, grown.within);
        ends = grown.ends;
        most = λ r h y. grown.most r (let z : r ≤ length P = omega arith in z) y;
      }

      is_whole : Suffix P (s ++ (c ∷ [])) → x ≡ length P
      is_whole y = omega (arith, grown.within, grown.most (length P) (le_refl (length P)) (rw take-length y))

-- a scan of the variant v has read its first i letters
pub record Scanning (P v : List ℕ) (k : ℕ) (whole : Bool) (i : ℕ) : Type 0 where
  pub inside : i ≤ length v
  pub scans : Scans P (take i v) k whole

pub scanning-none : {P v : List ℕ} → SoundPattern P → Scanning P v 0 false 0
scanning-none {P} sized = record { inside = omega arith; scans = scans-none P sized.some }

scanning-more :
    (P v : List ℕ) (k : ℕ) (whole : Bool) (i : ℕ) → i < length v → Scans P (take i v ++ (get_or v i 0 ∷ [])) k whole →
    Scanning P v k whole (i + 1)
scanning-more P v k whole i l g = rw add-one record { inside = l; scans = rw (take-suc v i 0 l) g }

module _ {P table v : List ℕ} {k : ℕ} {whole : Bool} {i : ℕ} (sized : SoundPattern P) (b : Borders P table) (g : Scanning P v k whole i) where
  -- a fallback may start from the longest
  pub scanning-matched : Matched P table k
  scanning-matched =
      let near : k < length P = omega (arith, sized.some, g.scans.ends.within) in
      record { near = near; short = sized.short; filled = filled-below k (le_of_lt near) b }

  -- one letter more, with which the whole pattern ends, or does not
  module _ {x k' : ℕ} {whole' : Bool} (l : i < length v) (w : Next P k (get_or v i 0) x) where
    pub scanning-whole : x ≡ length P → k' ≡ get_or table (length P) 0 → whole' ≡ true → Scanning P v k' whole' (i + 1)
    scanning-whole e p q =
        rw (p, q) (scanning-more P v (get_or table (length P) 0) true i l (scans-whole (get_or v i 0) sized g.scans w b e))

    pub scanning-part : (x ≡ length P → ⊥) → k' ≡ x → whole' ≡ whole → Scanning P v k' whole' (i + 1)
    scanning-part e p q = rw (p, q) (scanning-more P v x whole i l (scans-part (get_or v i 0) sized g.scans w e))

pub scanning-all : {P v : List ℕ} {k : ℕ} {whole : Bool} {i : ℕ} → Scanning P v k whole i → length v ≤ i → Scans P v k whole
scanning-all {P} {v} {k} {whole} {i} g l = rw (take_all i v l) at g.scans
