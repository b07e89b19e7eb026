-- The rows 1 to m - 1 of a card over the segments of a sound stretch, segment by segment, until none of them carries anything.
use Prim.Native.Nat.{ℕ, ◌+◌, ◌-◌, ◌^◌, ◌≤◌, ◌<◌, min}
use native.Mathlib.Nat.{min-eq_left}
use native.Mathlib.Omega.{arith}
use mathlib.Core.Path.{◌≡◌, refl, sym, ap, subst, ◌∙◌}
use mathlib.Core.Bool.{Bool, true, false, not, cond, true≢false}
use mathlib.Core.List.{List, [], ◌∷◌, ◌++◌, append-nil, append_assoc}
use borrow.Author.Tests.{ne_eqb}
use lib.ListN.{length, get_or, length-append}
use lib.Pow.{pow_pos, pow-lt}
use Rattle.text.specs.Text.{Segment, Text}
use Rattle.text.specs.Bits.{bit, low}
use Rattle.text.specs.State.{ends, run, marks_from}
use Rattle.text.specs.Refusal.{ok, outcome}
use Rattle.text.specs.declared.refusal.Refusal.{Refusal}
use Rattle.text.specs.Card.{Row, none, dead, row, later, first_end, ran, onward}
use Rattle.text.proofs.Truth.{not-true-false}
use Rattle.text.proofs.Bits.{bit-zero, bit-single, bit_not, lone-bit}
use Rattle.text.proofs.States.{low_ones}
use Rattle.text.proofs.Outcomes.{ok-inj, refused-ok}
use Rattle.text.proofs.Marks.{marks-length}
use Rattle.text.proofs.Folds.{run-snoc, marks-snoc}
use Rattle.text.proofs.Ends.{first_end-append, first_end-le, later-none}
use Rattle.text.proofs.Rows.{union-zero, earliest-zero}
use Rattle.text.proofs.Linear.{run-linear, first-linear}
use Rattle.text.proofs.TextCards.{ran_append}
use Rattle.layout.specs.Pieces.{most_in_stretch}
use Rattle.layout.specs.Bytes.{word}
use Rattle.layout.specs.Reading.{segment_at, whole_stretch, Readable}
use Rattle.layout.specs.Walk.{opened_at, passed_to}
use Rattle.layout.specs.declared.walk.Walk.{Walk}
use Rattle.std.proofs.Common.{Result, Err}
use Rattle.layout.proofs.Rows as Read
use Rattle.layout.proofs.Decoding.{whole-read}
use Rattle.layout.proofs.Stretches.{whole-most}
use Rattle.layout.proofs.Going.{Opening, open-not, passed_on}
use Rattle.card.specs.Held.{Bases, exits_of}
use Rattle.card.specs.RowStep.{Within, Lengths, Covers, SegmentOver, row_over}
use Rattle.card.specs.Rows.{Sound, Rowed, RowsOf}
use Rattle.card.proofs.RowsHeld.{exits-row}
use Rattle.card.proofs.Meets.{no_bits}

-- one segment more at the end of a text
ran-snoc : (P : List ℕ) (st : ℕ) (T : Text) (g : Segment) → length T ≤ none → ran P st (T ++ (g ∷ [])) ≡ row_over P g (length T) (ran P st T)
unfolding ran later first_end
ran-snoc P st T g few = λ i. record { exit = run-snoc P st T g i; first = first i }
  where
    last : (b : Bool) (k : ℕ) → k ≤ none → later k (first_end (cond b 1 0 ∷ [])) ≡ cond b k none
    last true k l = omega arith
    last false k l = omega arith

    first : first_end (marks_from P st (T ++ (g ∷ []))) ≡ min (first_end (marks_from P st T)) (cond (ends P (run P st T) g) (length T) none)
    first =
        let mark : ℕ = cond (ends P (run P st T) g) 1 0 in
        ap first_end (marks-snoc P st T g)
        ∙ first_end-append (marks_from P st T) (mark ∷ [])
        ∙ ap (λ (n : ℕ). min (first_end (marks_from P st T)) (later n (first_end (mark ∷ [])))) (marks-length P st T)
        ∙ ap (min (first_end (marks_from P st T))) (last (ends P (run P st T) g) (length T) few)

-- nothing comes of a state with no bit
ran-zero : (P : List ℕ) (T : Text) → 0 < length P → ran P 0 T ≡ dead
unfolding ran
ran-zero P T some =
    λ i.
    record {
      exit = (sym (run-linear P 0 T some (pow_pos (length P))) ∙ union-zero (λ q. run P (2 ^ q) T) (length P)) i;
      first = (sym (first-linear P 0 T some) ∙ earliest-zero (λ q. first_end (marks_from P (2 ^ q) T)) (length P)) i;
    }

-- so a row that carries nothing stays as it is, whatever text follows
ran-dead : (P : List ℕ) (st : ℕ) (T U : Text) → 0 < length P → run P st T ≡ 0 → ran P st (T ++ U) ≡ ran P st T
unfolding ran onward
ran-dead P st T U some e =
    ran_append P st T U
    ∙ ap (onward (length T) (ran P st T)) (ap (λ (n : ℕ). ran P n U) e ∙ ran-zero P U some)
    ∙ (λ i. record { exit = sym e i; first = stays i })
  where
    stays : min (first_end (marks_from P st T)) (later (length T) none) ≡ first_end (marks_from P st T)
    stays = rw later-none (min-eq_left (first_end-le (marks_from P st T)))

-- a sound stretch has few segments
pub sound-few : (s : List ℕ) (n : ℕ) → Sound s n → n ≤ most_in_stretch
sound-few s n w = omega (arith, whole-most s w.text w.read, w.count)

-- as many as it states
pub sound-states : (s : List ℕ) (n : ℕ) → Sound s n → Sound s (word s 0)
sound-states s n w = record { text = w.text; read = w.read; count = sym (whole-read s w.text w.read).count }

-- and opens
pub sound-opens : (s : List ℕ) (n : ℕ) → Sound s n → {r : Result Walk Refusal} → outcome r ≡ opened_at s → {f : Refusal} → r ≡ Err f → ⊥
sound-opens s n w told {f} is =
    refused-ok f.number f.place w.text (sym (open-not s told is).1 ∙ w.read)

-- the segments in `left` stand one after another from `at` on, up to the end
abbrev Standing : List ℕ → Text → ℕ → Text → Type 0
Standing s seen at left = Read.Row (λ _. segment_at s) seen at left (length s)

-- the first of them
record Ahead (s : List ℕ) (seen : Text) (at : ℕ) (left : Text) : Type 0 where
  segment : Segment
  place : ℕ
  more : Text
  is : left ≡ segment ∷ more
  read : segment_at s at ≡ ok (record { value = segment; next = place })
  row : Standing s (seen ++ (segment ∷ [])) place more

ahead : (s : List ℕ) (seen : Text) (at : ℕ) (left : Text) → Standing s seen at left → 0 < length left → Ahead s seen at left
unfolding Read.Row
ahead s seen at [] r l = absurd (let z : ⊥ = omega arith in z)
ahead s seen at (g ∷ l) r _ = record { segment = g; place = r.0; more = l; is = refl; read = r.1; row = r.2 }

-- the walk stands after some of the segments
pub record Rowing (P s : List ℕ) (rows : List Row) (live : ℕ) (w : Walk) : Type 0 where
  pub seen : Text
  pub left : Text
  pub whole : whole_stretch s ≡ ok (seen ++ left)
  pub row : Standing s seen w.at left
  pub count : length seen ≡ w.passed
  pub all : w.passed + length left ≡ w.count
  pub few : w.count ≤ most_in_stretch
  pub rowed : Rowed P seen rows
  pub covers : Covers (length P) live (exits_of rows)
  pub lengths : Lengths (length P) live

-- a row's state
rowed-exit : (P : List ℕ) (t : Text) (rows : List Row) → Rowed P t rows
    → (q : ℕ) → 0 < q → q < length P → get_or (exits_of rows) q 0 ≡ run P (2 ^ q) t
unfolding ran
rowed-exit P t rows w q pos l = exits-row rows q ∙ ap (λ (r : Row). r.exit) (w.each q pos l)

-- every length but 0 may be carried in
module _ (P s : List ℕ) (rows : List Row) (n : ℕ) (b : Bases (length P)) (y : Sound s n) (none-taken : Rowed P [] rows) where
  live-bit : (r : ℕ) → r < length P → bit (low (length P) - 1) r ≡ not (bit 1 r)
  live-bit r l = rw (low_ones (length P) b.short) (bit_not 1 (length P) r (pow-lt b.some) l)

  covered : (q : ℕ) → 0 < q → q < length P → Within (get_or (exits_of rows) q 0) (low (length P) - 1)
  unfolding run
  covered q pos h r e =
      let at : q ≡ r = (lone-bit q r).0 (sym (ap (λ (n : ℕ). bit n r) (rowed-exit P [] rows none-taken q pos h)) ∙ e) in
      let near : r < length P = omega arith in
      live-bit r near ∙ ap not (bit-single 0 r ∙ ne_eqb 0 r (λ z. omega arith))

  pub rowing-none : (ones : ℕ) → ones ≡ low (length P) → {w : Walk} → Opening s w → Rowing P s rows (ones - 1) w
  rowing-none ones e o =
      let r = whole-read s y.text y.read in
      rw e
      (record {
        seen = [];
        left = y.text;
        whole = y.read;
        row = rw o.first r.row;
        count = sym o.begins.none;
        all = omega (arith, o.begins.none, o.states, r.count);
        few = omega (arith, o.states, r.count, whole-most s y.text y.read);
        rowed = none-taken;
        covers = record { each = covered };
        lengths =
            record {
              small = omega (arith, low_ones (length P) b.short, pow_pos (length P));
              carried = live-bit 0 b.some ∙ ap not (bit-single 0 0);
            };
      })

module _ {P s : List ℕ} {rows : List Row} {live : ℕ} {w : Walk} (q : Rowing P s rows live w) where
  module _ (l : w.passed < w.count) where
    here : Ahead s q.seen w.at q.left
    here = ahead s q.seen w.at q.left q.row (omega (arith, q.all))

    pub rowing-readable : Readable s w.at
    rowing-readable = record { read = record { value = here.segment; next = here.place }; is = here.read }

    pub rowing_more : (rows' : List Row) (live' at' : ℕ) → SegmentOver P s w.at w.passed rows rows' live' at'
        → (size : ℕ) {v : Walk} → v ≡ passed_to w at' size → Rowing P s rows' live' v
    rowing_more rows' live' at' o size e =
        let on = passed_on w at' size (omega (arith, l, q.few)) e in
        record {
          seen = q.seen ++ (g ∷ []);
          left = here.more;
          whole = q.whole ∙ ap (λ (u : Text). ok (q.seen ++ u)) here.is ∙ ap ok (sym (append_assoc q.seen (g ∷ []) here.more));
          row = subst (λ (p : ℕ). Standing s (q.seen ++ (g ∷ [])) p here.more) (sym (on.2 ∙ o.place _ here.read)) here.row;
          count = length-append q.seen (g ∷ []) ∙ ap (λ (i : ℕ). i + 1) q.count ∙ sym on.1;
          all = omega (arith, q.all, ap length here.is, on.0, on.1);
          few = omega (arith, q.few, on.0);
          rowed = record { each = each; idle = λ p far. o.kept p far ∙ q.rowed.idle p far };
          covers = o.covers;
          lengths = o.lengths;
        }
      where
        g : Segment
        g = here.segment

        each : (p : ℕ) → 0 < p → p < length P → row rows' p ≡ ran P (2 ^ p) (q.seen ++ (here.segment ∷ []))
        each p pos h =
            let short : length q.seen ≤ none = omega (arith, q.count, l, q.few) in
            o.each _ here.read p pos h
            ∙ ap (row_over P here.segment w.passed) (q.rowed.each p pos h)
            ∙ ap (λ (i : ℕ). row_over P here.segment i (ran P (2 ^ p) q.seen)) (sym q.count)
            ∙ sym (ran-snoc P (2 ^ p) q.seen here.segment short)

  -- the rows that are reached are those of the whole text
  reached : (u : Text) → q.seen ++ q.left ≡ u → Rowed P u rows → RowsOf P s rows
  reached u e r t h = subst (λ (v : Text). Rowed P v rows) (sym e ∙ ok-inj (sym q.whole ∙ h)) r

  pub rowing-all : w.count ≤ w.passed → RowsOf P s rows
  rowing-all l = reached q.seen (rest q.left (omega (arith, q.all))) q.rowed
    where
      rest : (left : Text) → length left ≡ 0 → q.seen ++ left ≡ q.seen
      rest [] e = append-nil q.seen
      rest (g ∷ l) e = absurd (let z : ⊥ = omega arith in z)

  pub rowing-dead : 0 < length P → live ≡ 0 → RowsOf P s rows
  rowing-dead some e =
      reached (q.seen ++ q.left) refl
      (record {
        each = λ p pos l. q.rowed.each p pos l ∙ sym (ran-dead P (2 ^ p) q.seen q.left some (nothing p pos l));
        idle = q.rowed.idle;
      })
    where
      none_left : (p : ℕ) → 0 < p → p < length P → get_or (exits_of rows) p 0 ≡ 0
      none_left p pos l =
          no_bits (get_or (exits_of rows) p 0)
          (λ r. not-true-false _ (λ b. true≢false (sym (q.covers.each p pos l r b) ∙ ap (λ (n : ℕ). bit n r) e ∙ bit-zero r)))

      nothing : (p : ℕ) → 0 < p → p < length P → run P (2 ^ p) q.seen ≡ 0
      nothing p pos l = sym (rowed-exit P q.seen rows q.rowed p pos l) ∙ none_left p pos l
