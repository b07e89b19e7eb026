-- Laws of what a line says, test by test.
use Prim.Native.Nat.{ℕ, ◌+◌, ◌-◌, ◌≤◌, ◌<◌, max}
use native.Mathlib.Omega.{arith}
use mathlib.Core.Path.{◌≡◌, refl, sym, ap, ◌∙◌}
use native.Mathlib.Decide.{dec_lt}
use mathlib.Core.Logic.{by_cases}
use mathlib.Core.Bool.{Bool, true, false, cond}
use mathlib.Core.List.{List}
use borrow.Author.Tests.{eq-eqb, ne_eqb, le-leb, lt-leb, lt-ltb, le-ltb, ltb-true}
use lib.Dec.{ltb}
use lib.ListN.{length, take, drop}
use Rattle.std.proofs.Common.{Option, Some, None, Result, Ok, Err}
use Rattle.text.specs.Compare.{from_to}
use Rattle.text.specs.Refusal.{ok, pattern, outcome}
use Rattle.text.specs.declared.refusal.Refusal.{Refusal}
use Rattle.text.proofs.Truth.{and_left, and_right}
use Rattle.desk_list.specs.Kinds.{plain, blank, digit, word, in_line, past}
use Rattle.desk_list.specs.Number.{number_of}
use Rattle.desk_list.specs.Line.{Said, withheld, ends_at, closed_by, sequence_of, labelled, label_of, words_of, entry_of}
use Rattle.desk_list.specs.Line.{returned, close_of, behind, placed, line_of, Inside, Next}
use Rattle.desk_list.specs.declared.reading.Fault.TheVariants.{Byte, NoLabel, LargeLabel, NoSequence, Sequence, More}
use Rattle.desk_list.specs.declared.reading.Withheld.{Withheld}

-- the next line begins after a place of this one
pub behind-on : (s : List ℕ) {at stop next : ℕ} → next ≡ behind s stop → at < length s → at ≤ stop → stop ≤ max at (length s)
    → Next at (length s) next
unfolding behind
behind-on s {at} {stop} {next} e l h m =
    by_cases (dec_lt stop (length s))
    (λ (k : stop < length s). let z : next ≡ stop + 1 = e ∙ rw (lt-ltb stop (length s) k) refl in (omega arith, omega arith))
    (λ (k : stop < length s → ⊥).
    let far : length s ≤ stop = omega arith in
    let z : next ≡ stop = e ∙ rw (le-ltb stop (length s) far) refl in
    (omega arith, omega arith))

-- where the content of a line ends
module _ (s : List ℕ) (at stop : ℕ) where
  close-by : (b : Bool) → returned s at stop ≡ b → at ≤ stop → (at ≤ cond b (stop - 1) stop) × (cond b (stop - 1) stop ≤ stop)
  close-by true e h = let z : at < stop = ltb-true at stop (and_left (ltb at stop) _ (and_right (ltb stop (length s)) _ e)) in
      (omega arith, omega arith)
  close-by false e h = (h, omega arith)

  -- it ends in the line
  pub close-in : at ≤ stop → (at ≤ close_of s at stop) × (close_of s at stop ≤ stop)
  unfolding close_of
  close-in h = close-by (returned s at stop) refl h

-- it ends in the list
pub close-there : (s : List ℕ) {at stop end : ℕ} → end ≡ close_of s at stop → at ≤ stop → stop ≤ max at (length s) → at < length s
    → (at ≤ end) × (end ≤ length s)
close-there s {at} {stop} {end} e l m h = let k = close-in s at stop l in (omega (arith, e, k.0), omega (arith, e, k.1, l, m, h))

-- the places of a sequence
pub inside-at : {n : ℕ} {x : Said} {w : Withheld} → x ≡ Ok (Some w) → Inside n x → (w.start ≤ w.end) × (w.end ≤ n)
inside-at e h = rw e at h

-- a sequence and what stands after it
module _ (l : List ℕ) (label start : ℕ) {end : ℕ} (e : end ≡ past word l start) where
  module _ (r : Result (Unit {0}) Refusal) (told : outcome r ≡ pattern (take (end - start) (drop start l)) (ok (tt {0}))) where
    asked : outcome r ≡ pattern (from_to l start (past word l start)) (ok (tt {0}))
    asked = told ∙ ap (λ (n : ℕ). pattern (from_to l start n) (ok (tt {0}))) e

    pub sequence-not : (w : Refusal) → r ≡ Err w → Err (Sequence w) ≡ sequence_of l label start
    unfolding sequence_of closed_by
    sequence-not w is = rw (← asked, is) refl

    module _ (is : r ≡ Ok (tt {0})) {rest : ℕ} (b : rest ≡ past blank l end) {last : Bool} (f : last ≡ ends_at l rest) where
      here : ends_at l (past blank l (past word l start)) ≡ last
      here = sym (f ∙ ap (ends_at l) (b ∙ ap (past blank l) e))

      pub sequence-more : last ≡ false → Err More ≡ sequence_of l label start
      unfolding sequence_of closed_by
      sequence-more h = rw (← asked, is, here, h) refl

      pub sequence-is : last ≡ true → Ok (Some (withheld label start end)) ≡ sequence_of l label start
      unfolding sequence_of closed_by
      sequence-is h = rw (← asked, is, here, h) (ap (λ (n : ℕ). Ok (Some (withheld label start n))) e)

-- what a line says: nothing, or a label and what stands after it
module _ (l : List ℕ) {first : ℕ} (a : first ≡ past blank l 0) {none : Bool} (f : none ≡ ends_at l first) where
  begun : ends_at l (past blank l 0) ≡ none
  begun = sym (f ∙ ap (ends_at l) a)

  pub says_nothing : none ≡ true → Ok None ≡ words_of l
  unfolding words_of
  says_nothing h = rw (begun, h) refl

  module _ (some : none ≡ false) {digits : ℕ} (b : digits ≡ past digit l first) where
    labels : words_of l ≡ label_of l first
    unfolding words_of
    labels = rw (begun, some) (ap (label_of l) (sym a))

    pub says-no-label : digits ≡ first → Err NoLabel ≡ words_of l
    unfolding label_of
    says-no-label h = let same : past digit l first ≡ first = sym b ∙ h in sym (labels ∙ rw (eq-eqb (past digit l first) first same) refl)

    module _ (more : digits ≡ first → ⊥) {r : Option ℕ} (g : r ≡ number_of (take (digits - first) (drop first l))) where
      numbered : words_of l ≡ labelled l digits r
      unfolding label_of
      numbered =
          let differ : past digit l first ≡ first → ⊥ = λ h. more (b ∙ h) in
          let told : number_of (from_to l first (past digit l first)) ≡ r = sym (g ∙ ap (λ (n : ℕ). number_of (from_to l first n)) b) in
          labels ∙ rw (ne_eqb (past digit l first) first differ, told, b) refl

      pub says-large : r ≡ None → Err LargeLabel ≡ words_of l
      unfolding labelled
      says-large h = sym (numbered ∙ rw h refl)

      module _ {label : ℕ} (is : r ≡ Some label) {start : ℕ} (s : start ≡ past blank l digits) where
        pub says-joined : start ≡ digits → Err NoSequence ≡ words_of l
        unfolding labelled
        says-joined h =
            let same : past blank l digits ≡ digits = sym s ∙ h in
            sym (numbered ∙ rw (is, eq-eqb (past blank l digits) digits same) refl)

        module _ (parted : start ≡ digits → ⊥) {last : Bool} (k : last ≡ ends_at l start) where
          apart : past blank l digits ≡ digits → ⊥
          apart h = parted (s ∙ h)

          ended : ends_at l (past blank l digits) ≡ last
          ended = sym (k ∙ ap (ends_at l) s)

          pub says-no-sequence : last ≡ true → Err NoSequence ≡ words_of l
          unfolding labelled
          says-no-sequence h = sym (numbered ∙ rw (is, ne_eqb (past blank l digits) digits apart, ended, h) refl)

          pub says-sequence : last ≡ false → {x : Said} → x ≡ sequence_of l label start → x ≡ words_of l
          unfolding labelled
          says-sequence h {x} e =
              e ∙ ap (sequence_of l label) s ∙ sym (numbered ∙ rw (is, ne_eqb (past blank l digits) digits apart, ended, h) refl)

-- what a line says: before anything else, the first byte that is not plain
module _ (l : List ℕ) {stop : ℕ} (a : stop ≡ past plain l 0) where
  pub entry-byte : stop < length l → Err (Byte stop) ≡ entry_of l
  unfolding entry_of
  entry-byte h =
      let k : past plain l 0 < length l = omega (arith, h, a) in
      rw (lt-ltb (past plain l 0) (length l) k) (ap (λ (n : ℕ). Err (Byte n)) a)

  pub entry-words : length l ≤ stop → {x : Said} → x ≡ words_of l → x ≡ entry_of l
  unfolding entry_of
  entry-words h e = let k : length l ≤ past plain l 0 = omega (arith, h, a) in e ∙ rw (le-ltb (past plain l 0) (length l) k) refl

-- a line of a list
module _ (s : List ℕ) (at : ℕ) where
  pub line-none : length s ≤ at → None ≡ line_of s at
  unfolding line_of
  line-none h = rw (le-leb (length s) at h) refl

  pub line-is : at < length s → {stop next end : ℕ} → stop ≡ past in_line s at → next ≡ behind s stop → end ≡ close_of s at stop
      → {x y : Said} → x ≡ entry_of (take (end - at) (drop at s)) → x ≡ y → Some (placed at next y) ≡ line_of s at
  unfolding line_of
  line-is h {stop} {next} {end} e n f {x} {y} is same =
      let after : next ≡ behind s (past in_line s at) = n ∙ ap (behind s) e in
      let there : end ≡ close_of s at (past in_line s at) = f ∙ ap (close_of s at) e in
      let said : entry_of (from_to s at (close_of s at (past in_line s at))) ≡ y =
      sym (sym same ∙ is ∙ ap (λ (k : ℕ). entry_of (from_to s at k)) there) in
      rw (lt-leb (length s) at h, said, after) refl
