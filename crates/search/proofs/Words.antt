-- Laws of words: how they go on, and what is left of them where the bits from m up are cleared; and the sweep over the variants of a
-- segment.
use Prim.Native.Nat.{ℕ, suc, ◌-◌, ◌*◌, ◌%◌, ◌^◌, ◌≤◌, ◌<◌}
use native.Mathlib.Nat.{mod-lt, one-mul, mod-eq_of_lt}
use native.Mathlib.Omega.{arith}
use mathlib.Core.Path.{◌≡◌, refl, sym, ap, ap₂, subst, subst₂, ◌∙◌}
use mathlib.Core.Bool.{Bool, true, false, not, ◌||◌, true≢false}
use mathlib.Core.List.{List, [], ◌∷◌, ◌++◌}
use borrow.Author.Tests.{eq-eqb, not-true, not-false}
use lib.Bits.{bit_and, bit_or, and_mask, and_lt, or_lt}
use lib.Dec.{ltb, lit<}
use lib.ListN.{length, take, drop}
use lib.Pow.{pow_pos, pow-lt, pow_mono, ones_sub-lt}
use Rattle.text.specs.Letter.{letter, meant, every}
use Rattle.text.specs.Text.{Variant, Segment}
use Rattle.text.specs.Bits.{bit}
use Rattle.text.specs.State.{next, ends}
use Rattle.text.proofs.Bits.{bit-ext, bit-zero, bit-or, bit-mod, bit-single}
use Rattle.text.proofs.Steps.{next-lt}
use Rattle.text.proofs.Scan.{one-ends}
use Rattle.text.proofs.Folds.{next-none, next-snoc, ends-none, ends_snoc}
use Rattle.layout.specs.Reading.{value_of}
use Rattle.layout.specs.declared.cursor.Cursor.{Cursor}
use Rattle.layout.proofs.Heads.{Whole, whole_part, value-part}
use Rattle.layout.proofs.Walking.{Walking}
use Rattle.search.specs.Masks.{others}
use Rattle.search.specs.Step.{Steps}
use Rattle.search.specs.Words.{Words, Turned, LettersBy}
use Rattle.search.proofs.BitScans.{top_bit}
use Rattle.search.proofs.Passes.{Taking}
use Rattle.search.proofs.Turns.{others-twice, others-or, others-and, missed-all, high_ones, low-others, high_others}

words-none : (P : List ℕ) (st : ℕ) → 0 < length P → st % 2 ≡ 1 → Words P st [] 1 0
words-none P st some odd =
    record {
      state = λ r l. ap (λ (n : ℕ). bit n r) (sym (next-none P st some ∙ odd));
      fits = pow_pos (length P);
      end = bit-zero (length P - 1) ∙ sym (ends-none P st);
    }

-- a variant more: words are united
words_more : (P : List ℕ) (st : ℕ) (g : Segment) (v : Variant) (a h b j : ℕ) → Words P st g a h → Words P st (v ∷ []) b j
    → Words P st (g ++ (v ∷ [])) (bit_or a b) (bit_or h j)
words_more P st g v a h b j w u =
    record {
      state =
          λ r l.
          bit-or a b r ∙ ap₂ ◌||◌ (w.state r l) (u.state r l)
          ∙ sym (ap (λ (n : ℕ). bit n r) (next-snoc P st g v) ∙ bit-or (next P st g) (next P st (v ∷ [])) r);
      fits = or_lt (length P) h j w.fits u.fits;
      end =
          bit-or h j (length P - 1) ∙ ap₂ ◌||◌ w.end (u.end ∙ one-ends P st v) ∙ sym (ends_snoc P st g v);
    }

-- bits from m up are cleared
module _ (P : List ℕ) (st : ℕ) (g : Segment) (d hits : ℕ) (w : Words P st g d hits) where
  words-state : bit_and d (2 ^ length P - 1) ≡ next P st g
  words-state =
      and_mask d (length P)
      ∙ bit-ext (length P) (d % 2 ^ length P) (next P st g) (mod-lt d (pow_pos (length P))) (next-lt P st g)
      (λ r h. bit-mod d (length P) r h ∙ w.state r h)

  words-end : 0 < length P → ltb (2 ^ (length P - 1) - 1) hits ≡ ends P st g
  words-end some =
      let long : length P ≡ suc (length P - 1) = omega (arith, some) in
      top_bit (length P - 1) hits (subst (λ (n : ℕ). hits < 2 ^ n) long w.fits) ∙ w.end

-- a step that is told as words: the last bit says whether an occurrence ends
module _ (P : List ℕ) (st : ℕ) (v : Variant) (bits : ℕ) where
  words-miss : {end : Bool} → Steps P st v bits end → end ≡ false → Words P st (v ∷ []) bits 0
  words-miss t miss =
      record {
        state = λ r l. ap (λ (n : ℕ). bit n r) t.state;
        fits = pow_pos (length P);
        end = bit-zero (length P - 1) ∙ sym miss ∙ t.end ∙ sym (one-ends P st v);
      }

  words-hit : 0 < length P → length P ≤ 64 → {end : Bool} → Steps P st v bits end → end ≡ true
      → Words P st (v ∷ []) bits (1 * 2 ^ (length P - 1) % 2 ^ 64)
  words-hit some short t hit =
      let last : length P - 1 < 64 = omega (arith, some, short) in
      let near : length P - 1 < length P = omega (arith, some) in
      let alone : 1 * 2 ^ (length P - 1) % 2 ^ 64 ≡ 2 ^ (length P - 1) =
      ap (λ (n : ℕ). n % 2 ^ 64) (one-mul (2 ^ (length P - 1))) ∙ mod-eq_of_lt (pow-lt last) in
      rw alone
      (record {
        state = λ r l. ap (λ (n : ℕ). bit n r) t.state;
        fits = pow-lt near;
        end =
            bit-single (length P - 1) (length P - 1) ∙ eq-eqb (length P - 1) (length P - 1) refl ∙ sym hit ∙ t.end ∙ sym (one-ends P st v);
      })

-- the same with the complement kept
module _ (P : List ℕ) (st : ℕ) (v : Variant) (bits : ℕ) (some : 0 < length P) (short : length P ≤ 64) (before : ℕ) {end : Bool}
    (t : Steps P st v bits end) where
  small : bits < 2 ^ 64
  small = omega (arith, t.state, next-lt P st (v ∷ []), pow_mono short)

  pub turned-miss : before < 2 ^ 64 → end ≡ false → Turned P st (v ∷ []) before (others bits) before
  turned-miss fits miss =
      record {
        word = ones_sub-lt 64 bits;
        hits = 0;
        near = lit< tt;
        rest = missed-all before fits;
        words = subst (λ (n : ℕ). Words P st (v ∷ []) n 0) (sym (others-twice bits small)) (words-miss P st v bits t miss);
      }

  pub turned-hit : end ≡ true → Turned P st (v ∷ []) before (others bits) (bit_and before (others (1 * 2 ^ (length P - 1) % 2 ^ 64)))
  turned-hit hit =
      record {
        word = ones_sub-lt 64 bits;
        hits = 1 * 2 ^ (length P - 1) % 2 ^ 64;
        near = mod-lt (1 * 2 ^ (length P - 1)) (pow_pos 64);
        rest = refl;
        words =
            subst (λ (n : ℕ). Words P st (v ∷ []) n (1 * 2 ^ (length P - 1) % 2 ^ 64)) (sym (others-twice bits small))
            (words-hit P st v bits some short t hit);
      }

-- bytes that were looked at before their step
module _ (v : Variant) (wrong : Bool) (e : wrong ≡ not (every letter v)) where
  pub letters-all : wrong ≡ false → every letter v ≡ true
  letters-all is = not-false _ (sym e ∙ is)

  module _ (P : List ℕ) (st before : ℕ) where
    pub letters-bad : wrong ≡ true → LettersBy P st before v 0 0 true
    letters-bad is =
        let bad : every letter v ≡ false = not-true _ (sym e ∙ is) in
        (sym (ap not bad), λ good. absurd (true≢false (sym good ∙ bad)))

    pub letters-good : wrong ≡ false → (out missed : ℕ) → Turned P st (meant v ∷ []) before out missed
        → LettersBy P st before v out missed false
    letters-good is out missed w = (sym (ap not (letters-all is)), λ _. w)

-- what the letters of a variant lead to, told of what it spells
pub swept-by : {P : List ℕ} {st : ℕ} (s : List ℕ) (at : ℕ) {before start next out missed : ℕ} → Whole s at start next
    → Turned P st (meant (take (next - start) (drop start s)) ∷ []) before out missed → Turned P st (value_of s at ∷ []) before out missed
swept-by s at {before} {start} {next} w t =
    let own : meant (take (next - start) (drop start s)) ≡ value_of s at =
    ap meant (whole_part s at start next w) ∙ sym (value-part s at) in
    rw own at t

-- the same where they were looked at
pub swept : {P : List ℕ} {st : ℕ} (s : List ℕ) (at : ℕ) {before start next out missed : ℕ} {wrong : Bool} → Whole s at start next
    → LettersBy P st before (take (next - start) (drop start s)) out missed wrong → wrong ≡ false
    → Turned P st (value_of s at ∷ []) before out missed
swept s at w t is = swept-by s at w (t.1 (letters-all _ _ t.0 is))

-- the variants of a segment, swept one after another
pub record Sweeping (P : List ℕ) (st : ℕ) (s : List ℕ) (from : ℕ) (c : Cursor) (out missed : ℕ) : Type 0 where
  pub seen : Segment
  pub walk : Walking s from seen c
  pub word : out < 2 ^ 64
  pub missing : missed < 2 ^ 64
  pub words : Words P st seen (others out) (others missed)

pub sweeping-none : {P : List ℕ} {st : ℕ} {s : List ℕ} {from : ℕ} {c : Cursor} → 0 < length P → st % 2 ≡ 1 → Walking s from [] c
    → Sweeping P st s from c 0xffff_ffff_ffff_fffe 0xffff_ffff_ffff_ffff
sweeping-none {P} {st} some odd w =
    record { seen = []; walk = w; word = lit< tt; missing = lit< tt; words = words-none P st some odd }

module _ {P : List ℕ} {st : ℕ} {s : List ℕ} {from : ℕ} {c : Cursor} {out missed : ℕ} (t : Sweeping P st s from c out missed) where
  -- one more is passed
  pub sweeping-more : {d : Cursor} → Walking s from (t.seen ++ (value_of s c.at ∷ [])) d → {reached met : ℕ}
      → Turned P st (value_of s c.at ∷ []) missed reached met → Sweeping P st s from d (bit_and out reached) met
  sweeping-more w {reached} {met} turned =
      let far = ones_sub-lt 64 turned.hits in
      let hits : bit_or (others missed) turned.hits ≡ others met =
      ap (bit_or (others missed)) (sym (others-twice turned.hits turned.near))
      ∙ others-and missed t.missing (others turned.hits) far ∙ ap others (sym turned.rest) in
      record {
        seen = t.seen ++ (value_of s c.at ∷ []);
        walk = w;
        word = and_lt 64 out reached t.word turned.word;
        missing = subst (λ (n : ℕ). n < 2 ^ 64) (sym turned.rest) (and_lt 64 missed (others turned.hits) t.missing far);
        words =
            subst₂ (λ (a b : ℕ). Words P st (t.seen ++ (value_of s c.at ∷ [])) a b)
            (others-and out t.word reached turned.word) hits
            (words_more P st t.seen (value_of s c.at) (others out) (others missed) (others reached) turned.hits t.words
            turned.words);
      }

  -- the bits from m up are cleared after the last one
  pub sweeping-taken : 0 < length P → length P ≤ 64 → (high : ℕ) → high ≡ 0xffff_ffff_ffff_ffff * 2 ^ (length P - 1) % 2 ^ 64
      → Taking P st s from c (others (bit_or out (high * 2 ^ 1 % 2 ^ 64))) (ltb missed high)
  sweeping-taken some short high e =
      let near : length P - 1 < 64 = omega (arith, some, short) in
      let long : suc (length P - 1) ≡ length P = omega (arith, some) in
      let low : others (high * 2 ^ 1 % 2 ^ 64) ≡ 2 ^ length P - 1 =
      low-others (length P - 1) high near e ∙ ap (λ (n : ℕ). 2 ^ n - 1) long in
      record {
        seen = t.seen;
        walk = t.walk;
        reached =
            sym (others-or out t.word (high * 2 ^ 1 % 2 ^ 64) (mod-lt (high * 2 ^ 1) (pow_pos 64)))
            ∙ ap (bit_and (others out)) low
            ∙ words-state P st t.seen (others out) (others missed) t.words;
        ended =
            ap (ltb missed) (e ∙ high_ones (length P - 1) near)
            ∙ high_others (length P - 1) missed near t.missing
            ∙ words-end P st t.seen (others out) (others missed) t.words some;
      }
