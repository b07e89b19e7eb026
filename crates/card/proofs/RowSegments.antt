-- The rows of a card over one segment, variant by variant.
use Prim.Native.Nat.{ℕ, zero, suc, ◌-◌, ◌%◌, ◌≤◌, ◌<◌}
use native.Mathlib.Decide.{dec_lt}
use native.Mathlib.Omega.{arith}
use mathlib.Core.Path.{◌≡◌, sym, ap, ap₂, ◌∙◌}
use mathlib.Core.Logic.{by_cases}
use mathlib.Core.Bool.{Bool, true, false, ◌||◌, true≢false}
use mathlib.Core.List.{List, [], ◌∷◌, ◌++◌}
use borrow.Author.Tests.{lt-ltb, eqb-false}
use lib.Bits.{bit_or}
use lib.Dec.{ltb}
use lib.ListN.{length, get_or, take, drop, replicate, length-replicate, get_or-replicate}
use Rattle.text.specs.Text.{Segment}
use Rattle.text.specs.Letter.{meant}
use Rattle.text.specs.Bits.{bit, from_bits}
use Rattle.text.specs.State.{next, ends_at, ends}
use Rattle.text.specs.Refusal.{ok}
use Rattle.text.specs.Card.{Row, row}
use Rattle.text.proofs.Bits.{bit-first, bit-above, bit-from_bits, from_bits-lt}
use Rattle.text.proofs.Outcomes.{ok-inj}
use Rattle.text.proofs.Steps.{next-open, next-lt}
use Rattle.text.proofs.Folds.{next-none, next-snoc, ends-none, ends_snoc}
use Rattle.layout.specs.Reading.{Taken, value_of, segment_at}
use Rattle.layout.proofs.Heads.{Whole, whole_part, value-part}
use Rattle.layout.specs.declared.cursor.Cursor.{Cursor}
use Rattle.layout.proofs.Walking.{Walking, walk-done}
use Rattle.card.specs.Held.{rows_in, Full}
use Rattle.card.specs.RowStep.{Within, meets, Alive, Covers, VariantOver, row_after, Settled, row_over, SegmentOver}
use Rattle.card.proofs.RowsHeld.{exits-row, rows_row}
use Rattle.card.proofs.Meets.{meets-none, meets-or, within-lt, within-clear}

-- a state that carries lengths alone has bit 0 clear
even : (x live : ℕ) → Within x live → bit live 0 ≡ false → x % 2 ≡ 0
even x live w e =
    let odd : x % 2 ≡ 1 → ⊥ = eqb-false (x % 2) 1 (sym (bit-first x) ∙ within-clear x live 0 w e) in
    omega arith

-- the cursor has passed some variants of the segment at `at`: `new` and `finished` are what they make of the rows
pub record Bearing (P s : List ℕ) (at live : ℕ) (exits new : List ℕ) (finished : ℕ) (c : Cursor) : Type 0 where
  pub seen : Segment
  pub walk : Walking s at seen c
  pub full : length new ≡ 64
  pub each : (q : ℕ) → 0 < q → q < length P → get_or new q 0 ≡ next P (get_or exits q 0) seen
  pub end : (x : ℕ) → Within x live → ends P x seen ≡ meets x finished

pub bearing-none : {P masks s : List ℕ} {at live : ℕ} {exits : List ℕ} {c : Cursor} → Alive P masks live → Covers (length P) live exits
    → Walking s at [] c → Bearing P s at live exits (replicate 64 0) 0 c
bearing-none {P} {masks} {s} {at} {live} {exits} y covers w =
    record {
      seen = [];
      walk = w;
      full = length-replicate {A = ℕ} 64 0;
      each = λ q some l.
          get_or-replicate {A = ℕ} 64 q 0 0 (let z : q < 64 = omega (arith, y.bases.short) in z)
          ∙ sym (next-none P (get_or exits q 0) y.bases.some ∙ even (get_or exits q 0) live (covers.each q some l) y.lengths.carried);
      end = λ x w. ends-none P x ∙ sym (meets-none x);
    }

pub bearing-more : {P s : List ℕ} {at live : ℕ} {exits new : List ℕ} {finished : ℕ} {c d : Cursor}
    (b : Bearing P s at live exits new finished c) → Walking s at (b.seen ++ (value_of s c.at ∷ [])) d
    → {start beyond : ℕ} → Whole s c.at start beyond → {after : List ℕ} {ended : ℕ}
    → VariantOver P live (take (beyond - start) (drop start s)) exits new after ended
    → Bearing P s at live exits after (bit_or finished ended) d
bearing-more {P} {s} {at} {live} {exits} {new} {finished} {c} b walk {start} {beyond} w {after} {ended} p =
    let v = value_of s c.at in
    let same : meant (take (beyond - start) (drop start s)) ≡ v =
    ap meant (whole_part s c.at start beyond w) ∙ sym (value-part s c.at) in
    record {
      seen = b.seen ++ (v ∷ []);
      walk = walk;
      full = p.full;
      each = λ q some k.
          p.each q some k
          ∙ ap₂ bit_or (b.each q some k) (ap (λ (t : List ℕ). next P (get_or exits q 0) (t ∷ [])) same)
          ∙ sym (next-snoc P (get_or exits q 0) b.seen v);
      end = λ x i.
          ends_snoc P x b.seen v
          ∙ ap₂ ◌||◌ (b.end x i) (ap (ends_at P x) (sym same) ∙ p.end x i)
          ∙ sym (meets-or x finished ended);
    }

-- every state after a segment is within the lengths 1 to m - 1
lengths : ℕ → ℕ
lengths m = from_bits (ltb 0) m

next-lengths : (P : List ℕ) (x live : ℕ) (seen : Segment) → 0 < length P → Within x live → bit live 0 ≡ false
    → Within (next P x seen) (lengths (length P))
unfolding lengths
next-lengths P x live seen some w e r t =
    by_cases (dec_lt r (length P))
    (λ (l : r < length P). bit-from_bits (ltb 0) (length P) r l ∙ lt-ltb 0 r (pos r t))
    (λ (l : ¬ (r < length P)).
    let far : length P ≤ r = omega arith in
    absurd (true≢false (sym t ∙ bit-above (next P x seen) (length P) r (next-lt P x seen) far)))
  where
    pos : (r : ℕ) → bit (next P x seen) r ≡ true → 0 < r
    pos zero t = absurd (true≢false (sym t ∙ next-open P x seen some ∙ within-clear x live 0 w e))
    pos (suc r) t = omega arith

-- all variants are taken, and the rows settled
module _ {P masks s : List ℕ} {at live : ℕ} {exits new : List ℕ} {finished : ℕ} {c : Cursor}
    (b : Bearing P s at live exits new finished c) (y : Alive P masks live) (covers : Covers (length P) live exits)
    {firsts : List ℕ} (full : Full exits firsts) {k live' : ℕ} {rows' : List Row}
    (t : Settled (length P) finished k new (rows_in exits firsts) rows' live') where
  within : Within live' (lengths (length P))
  within =
      t.least (lengths (length P))
      (λ q some l.
      rw (b.each q some l)
      (next-lengths P (get_or exits q 0) live b.seen y.bases.some (covers.each q some l) y.lengths.carried))

  row-over : (q : ℕ) → 0 < q → q < length P → row rows' q ≡ row_over P b.seen k (row (rows_in exits firsts) q)
  row-over q some l =
      let r = row (rows_in exits firsts) q in
      let exit : r.exit ≡ get_or exits q 0 = ap (λ (r : Row). r.exit) (rows_row full q (omega (arith, y.bases.short))) in
      let state : get_or new q 0 ≡ next P r.exit b.seen = rw exit (b.each q some l) in
      let inside : Within r.exit live = rw exit (covers.each q some l) in
      t.each q some l ∙ ap₂ (λ (x : ℕ) (e : Bool). row_after k x e r) state (sym (b.end r.exit inside))

  module _ (none : c.left ≡ 0) where
    is : (x : Taken Segment ℕ) → segment_at s at ≡ ok x → record { value = b.seen; next = c.at } ≡ x
    is x e = ok-inj (sym (walk-done b.walk none) ∙ e)

    pub bearing-end : SegmentOver P s at k (rows_in exits firsts) rows' live' c.at
    unfolding lengths
    bearing-end =
        record {
          place = λ x e. ap (λ (z : Taken Segment ℕ). z.next) (is x e);
          each = λ x e q some l.
              row-over q some l ∙ ap (λ (z : Taken Segment ℕ). row_over P z.value k (row (rows_in exits firsts) q)) (is x e);
          kept = t.kept;
          covers = record { each = λ q some l. rw (exits-row rows' q, t.each q some l) (t.all q some l) };
          lengths =
              record {
                small = within-lt live' (lengths (length P)) (length P) within (from_bits-lt (ltb 0) (length P));
                carried = within-clear live' (lengths (length P)) 0 within (bit-from_bits (ltb 0) (length P) 0 y.bases.some);
              };
        }
