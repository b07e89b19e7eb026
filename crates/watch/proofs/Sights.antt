-- The walk of a record over a sound stretch: letter by letter, variant by variant, segment by segment, up to the first end.
use Prim.Native.Nat.{ℕ, ◌+◌, ◌-◌, ◌*◌, ◌%◌, ◌^◌, ◌≤◌, ◌<◌}
use native.Mathlib.Omega.{arith}
use mathlib.Core.Path.{◌≡◌, refl, sym, ap, ◌∙◌}
use mathlib.Core.Bool.{Bool, true, false, cond}
use mathlib.Core.List.{List, [], ◌∷◌, ◌++◌}
use lib.Bits.{bit_and, bit_or}
use lib.Dec.{ltb, eqb}
use lib.ListN.{length, get_or, take}
use lib.Pow.{pow_mono}
use lib.Seq.{take_all}
use Rattle.text.specs.Letter.{letter, meant, Classes}
use Rattle.text.specs.Text.{Variant, Segment, Text}
use Rattle.text.specs.State.{fresh, next, ends, run, marks_from, marks}
use Rattle.text.specs.Card.{none, later, first_end, tabulate}
use Rattle.text.specs.Refusal.{ok, outcome}
use Rattle.text.specs.declared.refusal.Refusal.{Refusal}
use Rattle.text.proofs.Outcomes.{ok-inj, refused-ok}
use Rattle.text.proofs.Ends.{later-none, later-zero, later-add, first_end-le}
use Rattle.text.proofs.Rows.{length-tabulate, get_d_tabulate}
use Rattle.layout.specs.Pieces.{most_in_stretch}
use Rattle.layout.specs.Reading.{Taken, segment_at, whole_stretch, Readable}
use Rattle.layout.specs.Walk.{opened_at, passed_to}
use Rattle.layout.specs.declared.walk.Walk.{Walk}
use Rattle.std.proofs.Common.{Result, Err, Some, None}
use Rattle.layout.proofs.Going.{Opening, open-not, passed_on}
use Rattle.layout.specs.declared.cursor.Cursor.{Cursor}
use Rattle.layout.proofs.Walking.{walk-done}
use Rattle.layout.proofs.Rows.{Row}
use Rattle.layout.proofs.Decoding.{whole-read}
use Rattle.layout.proofs.Stretches.{whole-most}
use Rattle.search.specs.Masks.{bases, others, Others, StateOf, Ready}
use Rattle.search.specs.Words.{Turned}
use Rattle.search.proofs.BitScans.{Turning, turning-none, turning-more, turning-all}
use Rattle.search.proofs.Words.{Sweeping, sweeping-taken}
use Rattle.search.proofs.Searches.{run-state}
use Rattle.watch.specs.Watching.{bases_of, sound, first_of}
use borrow.Author.Tests.{lt-ltb}
use Rattle.watch.specs.Sight.{Vectors, Armed, Stepped, some_end}
use Rattle.watch.specs.declared.watched.Watched.{Watched}
use Rattle.watch.proofs.Records.{sound-spells}

-- a table of letters, which the search looks into beside the letter vectors and this walk does not
unfoldable class_table : List ℕ
class_table = tabulate (λ c. cond (letter c) 0 1) 256

class-table : Classes class_table
unfolding class_table
class-table = record { full = length-tabulate _ 256; each = λ c l. get_d_tabulate (λ c. cond (letter c) 0 1) 256 c 0 l }

ready : (P vectors : List ℕ) (st : ℕ) → Armed P vectors st → Ready P vectors class_table st
ready P vectors st y =
    record { some = y.tables.some; short = y.tables.short; vectors = y.tables.turned; letters = class-table; state = y.state }

-- i letters of a variant are scanned
pub record Scanning (P : List ℕ) (st : ℕ) (v : Variant) (i before out missed : ℕ) : Type 0 where
  pub bad : ℕ
  pub turning : Turning P st v i before out missed bad

pub scanning-none : (P vectors : List ℕ) (st : ℕ) (v : Variant) (before : ℕ) → before < 2 ^ 64 → Armed P vectors st
    → Scanning P st v 0 before (others st) before
scanning-none P vectors st v before fits y =
    record { bad = 0; turning = turning-none P vectors class_table st v before fits (ready P vectors st y) }

pub scanning-more : (P vectors : List ℕ) (st : ℕ) (v : Variant) (i before out missed : ℕ) → Armed P vectors st
    → Scanning P st v i before out missed → i < length v → (c : ℕ) → c ≡ get_or v i 0 → c < 256 → (t : ℕ) → get_or vectors c 0 ≡ t
    → Scanning P st v (i + 1) before (bit_or out t * 2 ^ 1 % 2 ^ 64) (bit_and missed (bit_or out t))
scanning-more P vectors st v i before out missed y s l c e small t at =
    record {
      bad = _;
      turning = turning-more P vectors class_table st v i before out missed s.bad (ready P vectors st y) s.turning l c e small t at;
    }

pub scanning-all : (P : List ℕ) (st : ℕ) (v : Variant) (i before out missed : ℕ) → Scanning P st v i before out missed → length v ≤ i
    → Turned P st (meant v ∷ []) before out missed
scanning-all P st v i before out missed s l = turning-all P st v i before out missed s.bad s.turning l

-- all variants of a segment are taken
pub sweep-all : {P : List ℕ} {st : ℕ} {s : List ℕ} {at : ℕ} {c : Cursor} {out missed : ℕ} → Sweeping P st s at c out missed
    → (vectors : List ℕ) → Armed P vectors st → c.left ≡ 0 → (high : ℕ) → high ≡ 0xffff_ffff_ffff_ffff * 2 ^ (length P - 1) % 2 ^ 64
    → Stepped P st s at c.at (others (bit_or out (high * 2 ^ 1 % 2 ^ 64))) (ltb missed high)
sweep-all w vectors y none high is =
    let t = sweeping-taken w y.tables.some y.tables.short high is in
    record { segment = t.seen; read = walk-done t.walk none; reached = t.reached; ended = t.ended }

-- a sound stretch opens
pub open-there : (s : List ℕ) (t : Text) → whole_stretch s ≡ ok t → {r : Result Walk Refusal} → outcome r ≡ opened_at s → {f : Refusal}
    → r ≡ Err f → ⊥
open-there s t e told {f} is = refused-ok f.number f.place t (sym (open-not s told is).1 ∙ e)

-- the walk stands after some of the segments of a text, and none ends; the first end of the text is that of what is left
pub record Unended (P : List ℕ) (s : List ℕ) (t : Text) (bits : ℕ) (w : Walk) : Type 0 where
  pub seen : Text
  pub left : Text
  pub row : Row (λ _. segment_at s) seen w.at left (length s)
  pub count : w.passed + length left ≡ w.count
  pub few : w.count ≤ most_in_stretch
  pub state : StateOf P bits
  pub rest : first_end (marks P t) ≡ later w.passed (first_end (marks_from P bits left))

pub unended-none : (P vectors s : List ℕ) (t : Text) → Vectors P vectors → whole_stretch s ≡ ok t → {w : Walk} → Opening s w
    → Unended P s t fresh w
unfolding marks
unended-none P vectors s t y e {w} o =
    let r = whole-read s t e in
    let n : w.count ≡ length t = o.states ∙ r.count in
    let more : 2 ^ 1 ≤ 2 ^ length P = pow_mono y.some in
    let start = later-zero (first_end (marks_from P fresh t)) (first_end-le (marks_from P fresh t)) in
    record {
      seen = [];
      left = t;
      row = rw o.first r.row;
      count = omega (arith, n, o.begins.none);
      few = omega (arith, n, whole-most s t e);
      state = record { small = omega (arith, more); odd = refl };
      rest = rw o.begins.none (sym start);
    }

-- the first end of a text is in its first segment, or that of the others
marked : (b : Bool) (e : ℕ) → cond (eqb (cond b 1 0) 1) 0 (later 1 e) ≡ cond b 0 (later 1 e)
marked true e = refl
marked false e = refl

front : (P : List ℕ) (bits state : ℕ) (g : Segment) (T : Text) (end : Bool) → end ≡ ends P bits g → state ≡ next P bits g
    → first_end (marks_from P bits (g ∷ T)) ≡ cond end 0 (later 1 (first_end (marks_from P state T)))
unfolding marks_from first_end
front P bits state g T end e r = rw (e, r) (marked (ends P bits g) (first_end (marks_from P (next P bits g) T)))

module _ {P s : List ℕ} {t : Text} {bits : ℕ} {w : Walk} (q : Unended P s t bits w) where
  -- the next segment
  record Ahead (left : Text) : Type 0 where
    segment : Segment
    place : ℕ
    more : Text
    is : left ≡ segment ∷ more
    read : segment_at s w.at ≡ ok (record { value = segment; next = place })
    row : Row (λ _. segment_at s) (q.seen ++ (segment ∷ [])) place more (length s)

  ahead : (left : Text) → Row (λ _. segment_at s) q.seen w.at left (length s) → 0 < length left → Ahead left
  unfolding Row
  ahead [] r l = absurd (let z : ⊥ = omega (arith, l) in z)
  ahead (g ∷ l) r _ = record { segment = g; place = r.0; more = l; is = refl; read = r.1; row = r.2 }

  module _ (l : w.passed < w.count) where
    here : Ahead q.left
    here = ahead q.left q.row (omega (arith, l, q.count))

    pub unended-readable : Readable s w.at
    unended-readable = record { read = record { value = here.segment; next = here.place }; is = here.read }

    module _ (behind state : ℕ) (end : Bool) (p : Stepped P bits s w.at behind state end) where
      same : here.segment ≡ p.segment
      same = ap (λ (x : Taken Segment ℕ). x.value) (ok-inj (sym here.read ∙ p.read))

      place : here.place ≡ behind
      place = ap (λ (x : Taken Segment ℕ). x.next) (ok-inj (sym here.read ∙ p.read))

      split : first_end (marks_from P bits q.left) ≡ cond end 0 (later 1 (first_end (marks_from P state here.more)))
      split =
          ap (λ (u : Text). first_end (marks_from P bits u)) here.is
          ∙ front P bits state here.segment here.more end (p.ended ∙ ap (ends P bits) (sym same)) (p.reached
          ∙ ap (next P bits) (sym same))

      pub unended-ends : end ≡ true → Some w.passed ≡ some_end (first_end (marks P t))
      unfolding later some_end
      unended-ends hit =
          let one : first_end (marks P t) ≡ later w.passed 0 = q.rest ∙ ap (later w.passed) (split
          ∙ ap (λ (b : Bool). cond b 0 (later 1 (first_end (marks_from P state here.more)))) hit) in
          let is : first_end (marks P t) ≡ w.passed = omega (arith, one, l, q.few) in
          rw (is, lt-ltb w.passed none (omega (arith, l, q.few))) refl

      pub unended-more : 0 < length P → end ≡ false → (size : ℕ) {v : Walk} → v ≡ passed_to w behind size → Unended P s t state v
      unfolding run
      unended-more some miss size e =
          let on = passed_on w behind size (omega (arith, l, q.few)) e in
          record {
            seen = q.seen ++ (here.segment ∷ []);
            left = here.more;
            row = rw (on.2, ← place) here.row;
            count = omega (arith, q.count, ap length here.is, on.0, on.1);
            few = omega (arith, q.few, on.0);
            state = rw p.reached (run-state P bits (p.segment ∷ []) some q.state);
            rest =
                q.rest ∙ ap (later w.passed) (split ∙ ap (λ (b : Bool). cond b 0 (later 1 (first_end (marks_from P state here.more)))) miss)
                ∙ sym (later-add w.passed 1 (first_end (marks_from P state here.more)))
                ∙ ap (λ (i : ℕ). later i (first_end (marks_from P state here.more))) (sym on.1);
          }

  pub unended-all : w.count ≤ w.passed → None ≡ some_end (first_end (marks P t))
  unfolding marks_from first_end some_end
  unended-all l = ap some_end (last q.left (omega (arith, l, q.count)) q.rest)
    where
      last : (left : Text) → length left ≤ 0 → first_end (marks P t) ≡ later w.passed (first_end (marks_from P bits left))
          → none ≡ first_end (marks P t)
      last [] z e = sym (e ∙ later-none w.passed)
      last (g ∷ l) z e = absurd (let y : ⊥ = omega (arith, z) in y)

-- the tables of a record, and what is seen of it
pub record-vectors : (w : Watched) (vectors : List ℕ) → sound w ≡ true → Others (bases (take w.m w.pattern)) vectors
    → Vectors (take w.m w.pattern) vectors
unfolding bases_of bases
record-vectors w vectors e o =
    let y = sound-spells w e in
    record { some = y.some; short = y.short; turned = rw (take_all 64 (take w.m w.pattern) y.short) at o }

pub first-is : (w : Watched) (t : Text) → first_end (marks (take w.m w.pattern) t) ≡ first_of w t
unfolding first_of bases_of
first-is w t = refl
