-- Laws of a walk over a segment by a cursor. `Walking` is its invariant. Where a step refuses, the segment is refused so; after the last
-- variant the segment was read. `walk-…` is for walks that check the bytes, `sound-…` for those over bytes known to be sound.
use Rattle.std.proofs.Common.{◌≡◌, ℕ, ◌+◌, ◌-◌, ◌%◌, ◌^◌, ◌<◌, ◌≤◌, Bool, true, false, not, List, [], ◌∷◌, ◌++◌, length, take, drop, sym, refl, ap, ◌∙◌, subst, mod-eq_of_lt, arith}
use borrow.Author.Tests.{not-true}
use lib.Bits.{bit_or}
use Rattle.text.specs.Letter.{letter, every}
use Rattle.text.specs.Text.{Variant, Segment, counted, weight}
use Rattle.text.specs.Refusal.{Outcome, ok, refused, demand, after, outcome}
use Rattle.text.specs.declared.refusal.Refusal.{Refusal}
use Rattle.text.proofs.Outcomes.{refused-ok, refused-inj, demand-met, told-met, told-refused}
use Rattle.layout.specs.Pieces.{next_of, variants_at, head_at, misspelt_at}
use Rattle.layout.specs.Reading.{Taken, value_of, variant_at, values_from, many, segment_at}
use Rattle.layout.specs.Prints.{print_at, suspected_at, repeats_at, Noted}
use Rattle.layout.specs.Skips.{UpTo}
use Rattle.layout.specs.Cursor.{started, enter_at, compared_at, past_at}
use Rattle.layout.specs.declared.pieces.Part.{Part}
use Rattle.layout.specs.declared.cursor.Cursor.{Cursor}
use Rattle.layout.proofs.Heads.{Whole, whole_part, whole-letters, value-length}
use Rattle.layout.proofs.Frames.{variants-met}
use Rattle.layout.proofs.Prints.{noted-none, noted_more}
use Rattle.layout.proofs.Units.{variant-read, head-refused, misspelt-refused, again-refused, new-read, unsuspected-new}
use Rattle.layout.proofs.Segments.{InSegment, in-none, in-values, in_whole, in-next, in-not, in_all}
use Rattle.std.specs.Prelude.{Result, Ok, Err}

-- the answers of the steps, from the tests and the callees that lead there
module _ (s : List ℕ) (at : ℕ) {r : Result ℕ Refusal} (told : outcome r ≡ variants_at s at) where
  pub enter-not : {w : Refusal} → r ≡ Err w → enter_at s at ≡ refused w.number w.place
  unfolding enter_at
  enter-not is = rw (← told, is)

  pub enter-is : {n : ℕ} → r ≡ Ok n → enter_at s at ≡ ok (started n at)
  unfolding enter_at
  enter-is is = rw (← told, is)

module _ (s : List ℕ) (c : Cursor) where
  pub compared-again : repeats_at s c.first c.at ≡ true → {f : Refusal} → (f.number ≡ 8) × (f.place ≡ c.at)
      → compared_at s c ≡ refused f.number f.place
  unfolding compared_at
  compared-again again told = rw (again, told.0, told.1)

  pub compared-new : repeats_at s c.first c.at ≡ false → compared_at s c ≡ ok tt
  unfolding compared_at
  compared-new new = rw new

  pub past_is : (next letters left more size print : ℕ) → left ≡ (c.left + 0xffff_ffff_ffff_ffff) % 2 ^ 64 → more ≡ counted letters
      → size ≡ (c.size + more) % 2 ^ 64 → print ≡ print_at s c.count c.at
      → past_at s c next letters
      ≡ record { count = c.count; left = left; first = c.first; at = next; prints = bit_or c.prints print; size = size }
  unfolding past_at
  past_is next letters left more size print less count sum own = rw (less, sum, count, own)

  -- one less is left
  one_less : 0 < c.left → c.left < 2 ^ 64 → c.left - 1 ≡ (c.left + 0xffff_ffff_ffff_ffff) % 2 ^ 64
  one_less more small = omega arith

  past-less : 0 < c.left → c.left < 2 ^ 64 → (next letters : ℕ) {d : Cursor} → d ≡ past_at s c next letters → d.left < c.left
  unfolding past_at
  past-less more small next letters e = let less = ap (λ (x : Cursor). x.left) e in omega (arith, less, one_less more small)

refused-again : {A : Type 0} (a : A) (b : Bool) (at j p : ℕ) → demand (not b) 8 at (ok a) ≡ refused j p
    → (b ≡ true) × (j ≡ 8) × (p ≡ at)
refused-again a true at j p e = let i = refused-inj e in (refl, sym i.0, sym i.1)
refused-again a false at j p e = absurd (refused-ok j p a (sym e))

-- the cursor stands in the segment at `from`, after those of its variants that were seen
pub record Walking (s : List ℕ) (from : ℕ) (seen : Segment) (c : Cursor) : Type 0 where
  pub whole : segment_at s from ≡ many (variant_at s) c.count [] c.first
  pub few : c.left ≤ c.count
  pub small : c.count < 2 ^ 64
  pub sum : InSegment s c.first (c.count - c.left) seen c.at c.size
  pub noted : Noted s c.count c.first (c.count - c.left) c.prints

-- it is entered
walk-started : (s : List ℕ) (from n : ℕ) → variants_at s from ≡ ok n → n < 2 ^ 64 → Walking s from [] (started n from)
unfolding segment_at
walk-started s from n e small =
    let m = variants-met s from n e in
    let none : n - n ≡ 0 = omega arith in
    record {
      whole = rw e;
      few = omega arith;
      small = small;
      sum = rw none (in-none s (from + 1) (omega (arith, m.inside)));
      noted = rw none (noted-none s n (from + 1));
    }

module _ (s : List ℕ) (from : ℕ) {r : Result Cursor Refusal} (told : outcome r ≡ enter_at s from) where
  pub walk-not : {w : Refusal} → r ≡ Err w → segment_at s from ≡ refused w.number w.place
  unfolding enter_at segment_at
  walk-not {w} is =
      let e = told-refused (variants_at s from) (λ n. started n from) w.number w.place (sym told ∙ ap outcome is) in
      ap (λ (o : Outcome ℕ). after o (λ n. many (variant_at s) n [] (from + 1))) e

  pub sound-enter : {w : Refusal} {x : Taken Segment ℕ} → segment_at s from ≡ ok x → r ≡ Err w → ⊥
  sound-enter {w} {x} sound is = refused-ok w.number w.place x (sym (walk-not is) ∙ sound)

  pub walk_none : {c : Cursor} → r ≡ Ok c → c.count < 2 ^ 64 → Walking s from [] c
  unfolding enter_at
  walk_none {c} is small =
      let (n, e, same) = told-met (variants_at s from) (λ n. started n from) c (sym told ∙ ap outcome is) in
      subst (Walking s from []) same (walk-started s from n e (rw (ap (λ (x : Cursor). x.count) same) small))

module _ {s : List ℕ} {from : ℕ} {seen : Segment} {c : Cursor} (w : Walking s from seen c) where
  -- the last variant is passed
  pub walk-done : c.left ≡ 0 → segment_at s from ≡ ok (record { value = seen; next = c.at })
  walk-done none =
      let all : c.count - c.left ≡ c.count = omega arith in
      w.whole ∙ in_all s c.first (c.count - c.left) seen c.at c.size w.sum c.count all

  -- there is a next one
  module _ (more : 0 < c.left) where
    ahead : c.count - c.left < c.count
    ahead = omega (arith, w.few)

    not-read : {j p : ℕ} → variant_at s (values_from s (c.count - c.left) c.first) c.at ≡ refused j p → segment_at s from ≡ refused j p
    not-read {j} {p} e =
        w.whole ∙ in-not s c.first (c.count - c.left) seen c.at c.size w.sum c.count ahead j p e

    pub walk-less : (next letters : ℕ) {d : Cursor} → d ≡ past_at s c next letters → d.left < c.left
    walk-less next letters e = let near : c.left < 2 ^ 64 = omega (arith, w.few, w.small) in past-less s c more near next letters e

    pub walk-cut : {r : Result Part Refusal} {f : Refusal} → outcome r ≡ head_at s c.at → r ≡ Err f
        → segment_at s from ≡ refused f.number f.place
    walk-cut told is = not-read (head-refused s c.at told is (values_from s (c.count - c.left) c.first))

    -- it was read, and is passed
    walk-on : {start next : ℕ} → Whole s c.at start next
        → variant_at s (values_from s (c.count - c.left) c.first) c.at ≡ ok (record { value = value_of s c.at; next = next })
        → length s < 2 ^ 64 → {n : ℕ} → n ≡ length (take (next - start) (drop start s)) → {d : Cursor} → d ≡ past_at s c next n
        → Walking s from (seen ++ (value_of s c.at ∷ [])) d
    unfolding weight
    walk-on {start} {next} here read fits {n} long {d} e =
        let value = value_of s c.at in
        let many : n ≡ length value =
        long ∙ ap length (whole_part s c.at start next here) ∙ whole-letters s c.at here.inside
        ∙ sym (value-length s c.at here.inside) in
        let on = in-next s c.first (c.count - c.left) seen c.at c.size w.sum (record { value = value; next = next })
        (counted n) read (ap counted many) in
        let noted = noted_more s c.count c.first (c.count - c.left) c.prints c.at seen w.noted here.inside
        (in-values s c.first (c.count - c.left) seen c.at c.size w.sum)
        (in-values s c.first (c.count - c.left + 1) (seen ++ (value ∷ [])) next (c.size + counted n) on) in
        let small : c.size + counted n < 2 ^ 64 = omega (arith, on.small, on.inside) in
        let near : c.left < 2 ^ 64 = omega (arith, w.few, w.small) in
        let less : c.count - (c.left - 1) ≡ c.count - c.left + 1 = omega (arith, w.few) in
        rw (
          e,
          past_is s c next n (c.left - 1) (counted n) (c.size + counted n) (print_at s c.count c.at) (one_less s c more near) refl
              (sym (mod-eq_of_lt small)) refl,
        )
        (record { whole = w.whole; few = omega (arith, w.few); small = w.small; sum = rw less on; noted = rw less noted })

    -- in a segment that is known to be sound nothing is refused, and no letter and no variant need be looked at again
    module _ {x : Taken Segment ℕ} (sound : segment_at s from ≡ ok x) where
      pub sound-head : {r : Result Part Refusal} {f : Refusal} → outcome r ≡ head_at s c.at → r ≡ Err f → ⊥
      sound-head {r} {f} told is = refused-ok f.number f.place x (sym (walk-cut told is) ∙ sound)

      sound-read : (o : Outcome (Taken Variant ℕ)) → variant_at s (values_from s (c.count - c.left) c.first) c.at ≡ o
          → variant_at s (values_from s (c.count - c.left) c.first) c.at
          ≡ ok (record { value = value_of s c.at; next = next_of s c.at })
      sound-read (ok y) e = e ∙ ap ok (variant-read s _ c.at y e).is
      sound-read (refused j p) e = absurd (refused-ok j p x (sym (not-read e) ∙ sound))

      pub sound-past : {start next : ℕ} → Whole s c.at start next → length s < 2 ^ 64
          → {n : ℕ} → n ≡ length (take (next - start) (drop start s)) → {d : Cursor} → d ≡ past_at s c next n
          → Walking s from (seen ++ (value_of s c.at ∷ [])) d
      sound-past {start} {next} here fits long e =
          let read = sound-read (variant_at s (values_from s (c.count - c.left) c.first) c.at) refl in
          walk-on here (rw here.ends read) fits long e

    module _ {start next : ℕ} (here : Whole s c.at start next) {wrong : Bool}
        (spelt : wrong ≡ not (every letter (take (next - start) (drop start s)))) where
      up : UpTo s c.first (c.count - c.left) c.at
      up = in_whole s c.first (c.count - c.left) seen c.at c.size w.sum

      pub walk-misspelt : wrong ≡ true → {f : Refusal} → refused f.number f.place ≡ misspelt_at s c.at
          → segment_at s from ≡ refused f.number f.place
      walk-misspelt is told = not-read (misspelt-refused up here spelt is told)

      pub walk-again : wrong ≡ false → {v : Result (Unit {0}) Refusal} → outcome v ≡ compared_at s c → {f : Refusal} → v ≡ Err f
          → segment_at s from ≡ refused f.number f.place
      unfolding compared_at
      walk-again is told {f} not =
          let (again, eight, place) = refused-again tt (repeats_at s c.first c.at) c.at f.number f.place
          (sym told ∙ ap outcome not) in
          not-read (again-refused up here spelt is again (eight, place))

      -- it is new, as the comparison tells or the set
      pub walk-new : {v : Result (Unit {0}) Refusal} → outcome v ≡ compared_at s c → v ≡ Ok tt → repeats_at s c.first c.at ≡ false
      unfolding compared_at
      walk-new told sound = not-true _ (demand-met _ 8 c.at (ok tt) tt (sym told ∙ ap outcome sound)).0

      pub walk-unsuspected : suspected_at s c.count c.prints c.at ≡ false → repeats_at s c.first c.at ≡ false
      walk-unsuspected none = unsuspected-new up here w.noted ahead none

      pub walk-past : length s < 2 ^ 64 → wrong ≡ false → repeats_at s c.first c.at ≡ false
          → {n : ℕ} → n ≡ length (take (next - start) (drop start s)) → {d : Cursor} → d ≡ past_at s c next n
          → Walking s from (seen ++ (value_of s c.at ∷ [])) d
      walk-past fits is new long e = walk-on here (new-read up here spelt is new) fits long e
