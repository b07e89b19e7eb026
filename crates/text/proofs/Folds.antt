-- One variant more at the end of a segment, one segment more at the end of a text: how the state, the end and the marks go on.
use Prim.Native.Nat.{ℕ, zero, suc, ◌^◌, ◌%◌, ◌<◌}
use native.Mathlib.Nat.{mod-lt, lt_of_lt_of_le}
use native.Mathlib.Omega.{arith}
use mathlib.Core.Path.{◌≡◌, refl, sym, ap, ◌∙◌}
use mathlib.Core.Bool.{Bool, false, ◌||◌, cond}
use mathlib.Core.List.{List, [], ◌∷◌, ◌++◌}
use lib.Bits.{bit_or, or_lt}
use lib.Dec.{lit<}
use lib.ListN.{length}
use lib.Pow.{pow_mono}
use Rattle.text.specs.Text.{Variant, Segment, Text}
use Rattle.text.specs.Bits.{bit, any_of}
use Rattle.text.specs.State.{next_bit, carries, next, ends_at, ends, run, marks_from}
use Rattle.text.proofs.Truth.{or_self, or-false, any_of-snoc}
use Rattle.text.proofs.Bits.{bit-ext, bit-from_bits, bit-or, bit-mod, bit-mod-above}
use Rattle.text.proofs.Steps.{next-open, next-lt}
use Rattle.text.proofs.Marks.{run-append, marks-append}

-- with no variant only the fresh start is left
pub next-none : (P : List ℕ) (st : ℕ) → 0 < length P → next P st [] ≡ st % 2
unfolding next next_bit any_of
next-none P st some = bit-ext (length P) (next P st []) (st % 2) (next-lt P st []) small each
  where
    small : st % 2 < 2 ^ length P
    small = lt_of_lt_of_le (mod-lt st (lit< tt)) (pow_mono some)

    each : (r : ℕ) → r < length P → bit (next P st []) r ≡ bit (st % 2) r
    each zero l = next-open P st [] some ∙ sym (bit-mod st 1 0 (lit< tt))
    each (suc r) l = bit-from_bits (next_bit P st []) (length P) (suc r) l ∙ sym (bit-mod-above st 1 (suc r) (omega arith))

module _ (P : List ℕ) (st : ℕ) (g : Segment) (v : Variant) where
  -- the state after a segment is the union of what its variants lead to
  pub next-snoc : next P st (g ++ (v ∷ [])) ≡ bit_or (next P st g) (next P st (v ∷ []))
  unfolding next next_bit any_of
  next-snoc =
      bit-ext (length P) (next P st (g ++ (v ∷ []))) (bit_or (next P st g) (next P st (v ∷ [])))
      (next-lt P st (g ++ (v ∷ []))) (or_lt (length P) _ _ (next-lt P st g) (next-lt P st (v ∷ []))) each
    where
      at : (h : Segment) (r : ℕ) → r < length P → bit (next P st h) r ≡ next_bit P st h r
      at h r l = bit-from_bits (next_bit P st h) (length P) r l

      each : (r : ℕ) → r < length P → bit (next P st (g ++ (v ∷ []))) r ≡ bit (bit_or (next P st g) (next P st (v ∷ []))) r
      each zero l = rw (bit-or, at g 0 l, at (v ∷ []) 0 l, at (g ++ (v ∷ [])) 0 l) (sym (or_self (bit st 0)))
      each (suc r) l =
          rw (bit-or, at g (suc r) l, at (v ∷ []) (suc r) l, at (g ++ (v ∷ [])) (suc r) l)
          (any_of-snoc (carries P st (suc r)) g v ∙ ap (λ (b : Bool). any_of (carries P st (suc r)) g || b)
          (sym (or-false (carries P st (suc r) v))))

  pub ends_snoc : ends P st (g ++ (v ∷ [])) ≡ (ends P st g || ends_at P st v)
  unfolding ends
  ends_snoc = any_of-snoc (ends_at P st) g v

-- no variant ends nothing
pub ends-none : (P : List ℕ) (st : ℕ) → ends P st [] ≡ false
unfolding ends any_of
ends-none P st = refl

module _ (P : List ℕ) (st : ℕ) (T : Text) (g : Segment) where
  pub run-snoc : run P st (T ++ (g ∷ [])) ≡ next P (run P st T) g
  unfolding run
  run-snoc = run-append P st T (g ∷ [])

  pub marks-snoc : marks_from P st (T ++ (g ∷ [])) ≡ marks_from P st T ++ (cond (ends P (run P st T) g) 1 0 ∷ [])
  unfolding marks_from
  marks-snoc = marks-append P st T (g ∷ [])
