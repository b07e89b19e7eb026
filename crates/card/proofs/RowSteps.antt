-- The rows of a card, one after another: lists that are written from place 1 on, and what a variant and a segment make of each row.
use Prim.Native.Nat.{ℕ, ◌+◌, ◌*◌, ◌%◌, ◌^◌, ◌≤◌, ◌<◌, min, max}
use native.Mathlib.Decide.{dec_lt, ℕ_discrete}
use native.Mathlib.Omega.{arith}
use mathlib.Core.Path.{◌≡◌, refl, sym, ap, ap₂, ◌∙◌}
use mathlib.Core.Logic.{by_cases, ⊎_elim}
use mathlib.Core.Bool.{Bool, true, not, cond, ◌&&◌, false≢true}
use mathlib.Core.List.{List}
use lib.Bits.{bit_and, bit_or, and_le_r, and_zero_r, or_zero_r}
use lib.Dec.{eqb}
use lib.ListN.{length, get_or, set, length-set}
use lib.Seq.{get_or-set_same, get_or-set_other}
use Rattle.text.specs.Bits.{bit}
use Rattle.text.specs.State.{next}
use Rattle.text.specs.Card.{Row, none, dead, row}
use Rattle.text.proofs.Truth.{or_cases, or_left, or_right}
use Rattle.text.proofs.Bits.{bit-ext, bit-zero, bit-or, bit-and, bit-mod}
use Rattle.card.specs.Held.{row_of, rows_in, Full}
use Rattle.card.specs.RowStep.{Within, meets, Moves, Covers, Spread, VariantOver, row_after, Settled}
use Rattle.card.proofs.RowsHeld.{rows-set, even, full-set, rows-length, rows_row}

-- the places from 1 up to q hold f, and the others what they held before
pub record Filled {A : Type 0} (d : A) (f : ℕ → A) (old new : List A) (q : ℕ) : Type 0 where
  pub start : 0 < q
  pub full : length new ≡ 64
  pub done : (p : ℕ) → 0 < p → p < q → get_or new p d ≡ f p
  pub kept : (p : ℕ) → (0 < p → p < q → ⊥) → get_or new p d ≡ get_or old p d

pub filled_none : {A : Type 0} (d : A) (f : ℕ → A) (old : List A) → length old ≡ 64 → Filled d f old old 1
filled_none d f old full =
    record { start = omega arith; full = full; done = λ p some l. absurd (let z : ⊥ = omega arith in z); kept = λ p h. refl }

module _ {A : Type 0} (d : A) (f : ℕ → A) (old new : List A) (q : ℕ) (s : Filled d f old new q) where
  -- the place that comes next
  pub filled_next : get_or new q d ≡ get_or old q d
  filled_next = s.kept q (λ some l. omega arith)

  pub filled_more : (v : A) → v ≡ f q → q < 64 → Filled d f old (set new q v) (q + 1)
  filled_more v e small =
      record { start = omega arith; full = length-set new q v ∙ s.full; done = done; kept = kept }
    where
      inside : q < length new
      inside = omega (arith, s.full)

      done : (p : ℕ) → 0 < p → p < q + 1 → get_or (set new q v) p d ≡ f p
      done p some l =
          by_cases (ℕ_discrete p q)
          (λ (h : p ≡ q). rw h (get_or-set_same new q v d inside ∙ e))
          (λ (h : ¬ (p ≡ q)). get_or-set_other new q p v d h ∙ s.done p some (omega arith))

      kept : (p : ℕ) → (0 < p → p < q + 1 → ⊥) → get_or (set new q v) p d ≡ get_or old p d
      kept p out =
          get_or-set_other new q p v d (λ h. out (omega (arith, s.start)) (omega arith))
          ∙ s.kept p (λ some l. out some (omega arith))

  -- the end of a loop over the rows up to m
  module _ (m : ℕ) (done : m ≤ q) (most : q ≤ max 1 m) where
    pub filled-each : (p : ℕ) → 0 < p → p < m → get_or new p d ≡ f p
    filled-each p some l = s.done p some (omega arith)

    pub filled-kept : (p : ℕ) → m ≤ p → get_or new p d ≡ get_or old p d
    filled-kept p far = s.kept p (λ some l. omega arith)

-- what a word lets pass of a shift, whether or not the shift was cut to a word
and_word : (a reached : ℕ) → reached < 2 ^ 64 → bit_and (a % 2 ^ 64) reached ≡ bit_and a reached
and_word a reached small =
    bit-ext 64 (bit_and (a % 2 ^ 64) reached) (bit_and a reached)
    (omega (arith, and_le_r (a % 2 ^ 64) reached))
    (omega (arith, and_le_r a reached))
    (λ r l. bit-and (a % 2 ^ 64) reached r ∙ ap (λ (b : Bool). b && bit reached r) (bit-mod a 64 r l) ∙ sym (bit-and a reached r))

-- the rows before q have what n letters make of their states
pub record Spreading (n reached : ℕ) (exits old new : List ℕ) (q : ℕ) : Type 0 where
  pub filled : Filled 0 (λ p. bit_or (get_or old p 0) (bit_and (get_or exits p 0 * 2 ^ n) reached)) old new q

pub spreading-none : (n reached : ℕ) (exits old : List ℕ) → length old ≡ 64 → Spreading n reached exits old old 1
spreading-none n reached exits old full = record { filled = filled_none 0 _ old full }

module _ (n reached : ℕ) (exits old new : List ℕ) (q : ℕ) (s : Spreading n reached exits old new q) where
  pub spreading-more : reached < 2 ^ 64 → q < 64
      → Spreading n reached exits old (set new q (bit_or (get_or new q 0) (bit_and (get_or exits q 0 * 2 ^ n % 2 ^ 64) reached))) (q + 1)
  spreading-more word small =
      record {
        filled =
            filled_more 0 _ old new q s.filled _
            (ap₂ bit_or (filled_next 0 _ old new q s.filled) (and_word (get_or exits q 0 * 2 ^ n) reached word)) small;
      }

  pub spreading-end : (m : ℕ) → m ≤ q → Spread m n reached exits old new
  spreading-end m done = record { full = s.filled.full; each = λ p some l. s.filled.done p some (omega arith) }

-- what a variant makes of the rows
module _ (P : List ℕ) (live : ℕ) (v exits old : List ℕ) (reached finished : ℕ) (covers : Covers (length P) live exits)
    (moves : Moves P live v reached finished) where
  pub passed-spread : (new : List ℕ) → Spread (length P) (length v) reached exits old new → VariantOver P live v exits old new finished
  passed-spread new s =
      record {
        full = s.full;
        each = λ q some l. s.each q some l ∙ ap (bit_or (get_or old q 0)) (sym (moves.state (get_or exits q 0) (covers.each q some l)));
        end = moves.end;
      }

  -- where nothing passes, nothing is added
  pub passed_none : length old ≡ 64 → reached ≡ 0 → VariantOver P live v exits old old finished
  passed_none full e =
      record {
        full = full;
        each = λ q some l.
            sym
            (ap (bit_or (get_or old q 0))
            (moves.state (get_or exits q 0) (covers.each q some l)
            ∙ ap (bit_and (get_or exits q 0 * 2 ^ length v)) e
            ∙ and_zero_r (get_or exits q 0 * 2 ^ length v))
            ∙ or_zero_r (get_or old q 0));
        end = moves.end;
      }

  -- what passes has fewer than 64 letters
  pub passed-short : (reached ≡ 0 → ⊥) → length v < 64
  passed-short some =
      by_cases (dec_lt (length v) 64)
      (λ (l : length v < 64). l)
      (λ (l : ¬ (length v < 64)). absurd (some (moves.short (omega arith))))

-- the rows before q are settled, and `live` is the union of their next states
pub record Settling (m finished k : ℕ) (next : List ℕ) (rows : List Row) (exits firsts : List ℕ) (live q : ℕ) : Type 0 where
  pub most : q ≤ max 1 m
  pub full : Full exits firsts
  pub filled : Filled dead (λ p. row_after k (get_or next p 0) (meets (row rows p).exit finished) (row rows p)) rows (rows_in exits firsts) q
  pub all : (p : ℕ) → 0 < p → p < q → Within (get_or next p 0) live
  pub least : (y : ℕ) → ((p : ℕ) → 0 < p → p < q → Within (get_or next p 0) y) → Within live y

pub settling-none : (m finished k : ℕ) (next exits firsts : List ℕ) → Full exits firsts
    → Settling m finished k next (rows_in exits firsts) exits firsts 0 1
settling-none m finished k next exits firsts full =
    record {
      most = omega arith;
      full = full;
      filled = filled_none dead _ (rows_in exits firsts) (rows-length full);
      all = λ p some l. absurd (let z : ⊥ = omega arith in z);
      least = λ y h r b. absurd (false≢true (sym (bit-zero r) ∙ b));
    }

module _ (m finished k : ℕ) (next : List ℕ) (rows : List Row) (exits firsts : List ℕ) (live q : ℕ)
    (s : Settling m finished k next rows exits firsts live q) where
  pub settling-more : q < m → q < 64 → (first : ℕ)
      → first ≡ min (get_or firsts q 0) (cond (not (eqb (bit_and (get_or exits q 0) finished) 0)) k none)
      → Settling m finished k next rows (set exits q (get_or next q 0)) (set firsts q first) (bit_or live (get_or next q 0)) (q + 1)
  unfolding meets
  settling-more l small first e =
      record {
        most = omega arith;
        full = full-set s.full q (get_or next q 0) first;
        filled = rw (rows-set exits firsts q (get_or next q 0) first (even s.full)) (filled_more dead _ rows _ q s.filled _ here small);
        all = all;
        least = least;
      }
    where
      here : row_of (get_or next q 0) first ≡ row_after k (get_or next q 0) (meets (row rows q).exit finished) (row rows q)
      here =
          ap (row_of (get_or next q 0)) e
          ∙ ap (λ (r : Row). row_after k (get_or next q 0) (meets r.exit finished) r)
          (sym (rows_row s.full q small) ∙ filled_next dead _ rows _ q s.filled)

      all : (p : ℕ) → 0 < p → p < q + 1 → Within (get_or next p 0) (bit_or live (get_or next q 0))
      all p some h r b =
          by_cases (ℕ_discrete p q)
          (λ (e : p ≡ q). bit-or live (get_or next q 0) r ∙ or_right (bit live r) _ (rw e at b))
          (λ (e : ¬ (p ≡ q)). bit-or live (get_or next q 0) r ∙ or_left (bit live r) _ (s.all p some (omega arith) r b))

      least : (y : ℕ) → ((p : ℕ) → 0 < p → p < q + 1 → Within (get_or next p 0) y) → Within (bit_or live (get_or next q 0)) y
      least y h r b =
          ⊎_elim
          (λ (t : bit live r ≡ true). s.least y (λ p some l. h p some (omega arith)) r t)
          (λ (t : bit (get_or next q 0) r ≡ true). h q s.filled.start (omega arith) r t)
          (or_cases (bit live r) (bit (get_or next q 0) r) (sym (bit-or live (get_or next q 0) r) ∙ b))

  pub settling-end : m ≤ q → Settled m finished k next rows (rows_in exits firsts) live
  settling-end done =
      record {
        each = filled-each dead _ rows _ q s.filled m done s.most;
        kept = filled-kept dead _ rows _ q s.filled m done s.most;
        all = λ p some l. s.all p some (omega arith);
        least = λ y h. s.least y (λ p some l. h p some (omega arith));
      }
