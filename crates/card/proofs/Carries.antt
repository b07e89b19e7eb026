-- The carried lengths over one variant, letter by letter: what becomes of every state within the union that is passed on.
use Prim.Native.Nat.{ℕ, zero, suc, ◌+◌, ◌-◌, ◌*◌, ◌/◌, ◌%◌, ◌^◌, ◌≤◌, ◌<◌}
use native.Mathlib.Nat.{mod-lt, mul-one, one-mul, zero-div, mod-eq_of_lt}
use native.Mathlib.Numerals.{add-one, one-add}
use native.Mathlib.Decide.{dec_lt}
use native.Mathlib.Omega.{arith}
use mathlib.Core.Path.{◌≡◌, refl, sym, ap, ap₂, subst, ◌∙◌}
use mathlib.Core.Logic.{by_cases}
use mathlib.Core.Bool.{Bool, false, ◌||◌, ◌&&◌}
use mathlib.Core.List.{List, [], ◌∷◌}
use lib.Bits.{bit_and, bit_or, and_mask, and_le_r, and_zero_l, or_zero_r, shifted_half}
use lib.Dec.{eqb, lit<}
use lib.ListN.{length, get_or, take}
use lib.Pow.{pow_pos, pow-lt, pow_mono}
use lib.Seq.{take-suc, take-length}
use Rattle.text.proofs.Snoc.{◌▸◌}
use Rattle.text.specs.Letter.{raised, meant}
use Rattle.text.specs.Bits.{bit, low}
use Rattle.text.specs.State.{next, ends_at}
use Rattle.text.proofs.Truth.{and_assoc, and-false}
use Rattle.text.proofs.Bits.{bit-ext, bit-half, bit-above, bit-zero, bit-and, bit-shl, bit-shl-below, bit-mod, bit-mod-above}
use Rattle.text.proofs.States.{low_ones}
use Rattle.text.proofs.Likes.{meant-length, meant-at}
use Rattle.text.proofs.Steps.{next-open, next-lt}
use Rattle.text.proofs.Scan.{empty-state, empty-ends, scan_state, scan-ends}
use Rattle.card.specs.RowStep.{Within, meets, Alive, Moves}
use Rattle.search.proofs.BitScans.{kept-bit, kept-lt}
use Rattle.card.proofs.Meets.{meets-none, meets-or, meets-carried, within-lt, within-clear, within-and}

-- i of the bytes v of a variant have been read, and d is left of the lengths in `live`
pub record Carrying (P : List ℕ) (live : ℕ) (v : List ℕ) (i d finished : ℕ) : Type 0 where
  pub inside : i ≤ length v
  pub word : d < 2 ^ 64
  pub gone : (r : ℕ) → r < i → bit d r ≡ false
  pub state : (x : ℕ) → Within x live → (r : ℕ) → r < length P → bit (next P x (take i (meant v) ∷ [])) r ≡ (bit (x * 2 ^ i) r && bit d r)
  pub end : (x : ℕ) → Within x live → ends_at P x (take i (meant v)) ≡ meets x finished

pub carrying-none : (P masks : List ℕ) (live : ℕ) (v : List ℕ) → Alive P masks live → Carrying P live v 0 live 0
carrying-none P masks live v y =
    record {
      inside = omega arith;
      word = omega (arith, y.lengths.small, pow_mono y.bases.short);
      gone = λ r l. absurd (let z : ⊥ = omega arith in z);
      state = λ x w r l.
          ap (λ (n : ℕ). bit n r) (empty-state P x y.bases.some (within-lt x live (length P) w y.lengths.small))
          ∙ sym (ap (λ (n : ℕ). bit n r && bit live r) (mul-one x) ∙ within-and x live r w);
      end = λ x w. empty-ends P x y.bases.some ∙ sym (meets-none x);
    }

-- a byte more, which means c, and of which e is left
module _ (P masks : List ℕ) (live : ℕ) (v : List ℕ) (i d finished : ℕ) (y : Alive P masks live) (s : Carrying P live v i d finished)
    (l : i < length v) (c : ℕ) (is : c ≡ get_or (meant v) i 0) (e : ℕ) (fits : e < 2 ^ length P)
    (kept : (r : ℕ) → r < length P → bit e r ≡ (bit d r && eqb (get_or P r 0) c)) where
  longer : take (i + 1) (meant v) ≡ take i (meant v) ▸ c
  longer =
      let inside : i < length (meant v) = rw (meant-length v) l in
      rw add-one (take-suc (meant v) i 0 inside ∙ ap (λ (x : ℕ). take i (meant v) ▸ x) (sym is))

  lost : (r : ℕ) → bit d r ≡ false → bit e r ≡ false
  lost r z =
      by_cases (dec_lt r (length P))
      (λ (h : r < length P). kept r h ∙ ap (λ (b : Bool). b && eqb (get_or P r 0) c) z)
      (λ (h : ¬ (r < length P)). bit-above e (length P) r fits (omega arith))

  onward : (r : ℕ) → suc r < 64 → bit (e * 2 ^ 1 % 2 ^ 64) (suc r) ≡ bit e r
  onward r near = bit-mod (e * 2 ^ 1) 64 (suc r) near ∙ rw (← one-add r) (bit-shl e 1 r)

  first : bit (e * 2 ^ 1 % 2 ^ 64) 0 ≡ false
  first = bit-mod (e * 2 ^ 1) 64 0 (lit< tt) ∙ bit-shl-below e 1 0 (lit< tt)

  gone-more : (r : ℕ) → r < i + 1 → bit (e * 2 ^ 1 % 2 ^ 64) r ≡ false
  gone-more zero h = first
  gone-more (suc r) h =
      by_cases (dec_lt (suc r) 64)
      (λ (near : suc r < 64). onward r near ∙ lost r (s.gone r (omega arith)))
      (λ (far : ¬ (suc r < 64)). bit-mod-above (e * 2 ^ 1) 64 (suc r) (omega arith))

  state-more : (x : ℕ) → Within x live → (r : ℕ) → r < length P
      → bit (next P x (take (i + 1) (meant v) ∷ [])) r ≡ (bit (x * 2 ^ (i + 1)) r && bit (e * 2 ^ 1 % 2 ^ 64) r)
  state-more x w zero h =
      next-open P x (take (i + 1) (meant v) ∷ []) y.bases.some
      ∙ within-clear x live 0 w y.lengths.carried
      ∙ sym (ap (λ (b : Bool). bit (x * 2 ^ (i + 1)) 0 && b) first ∙ and-false (bit (x * 2 ^ (i + 1)) 0))
  state-more x w (suc r) h =
      let near : suc r < 64 = omega (arith, y.bases.short) in
      let before : r < length P = omega arith in
      let moved : bit (x * 2 ^ (i + 1)) (suc r) ≡ bit (x * 2 ^ i) r = rw (add-one, bit-half, shifted_half) in
      ap (λ (t : List ℕ). bit (next P x (t ∷ [])) (suc r)) longer
      ∙ scan_state P x (take i (meant v)) c r h
      ∙ ap (λ (b : Bool). b && eqb (get_or P r 0) c) (s.state x w r before)
      ∙ and_assoc (bit (x * 2 ^ i) r) (bit d r) (eqb (get_or P r 0) c)
      ∙ sym (ap₂ ◌&&◌ moved (onward r near ∙ kept r before))

  end_more : (x : ℕ) → Within x live
      → ends_at P x (take (i + 1) (meant v)) ≡ meets x (bit_or finished (bit_and e (2 ^ (length P - 1)) / 2 ^ i))
  end_more x w =
      let n = length P - 1 in
      let long : length P ≡ suc n = omega (arith, y.bases.some) in
      let last : n < length P = omega (arith, y.bases.some) in
      ap (ends_at P x) longer
      ∙ scan-ends P x (take i (meant v)) c n long
      ∙ ap₂ ◌||◌
      (s.end x w)
      (ap (λ (b : Bool). b && eqb (get_or P n 0) c) (s.state x w n last)
      ∙ and_assoc (bit (x * 2 ^ i) n) (bit d n) (eqb (get_or P n 0) c)
      ∙ ap (λ (b : Bool). bit (x * 2 ^ i) n && b) (sym (kept n last))
      ∙ sym (meets-carried x e n i))
      ∙ sym (meets-or x finished (bit_and e (2 ^ n) / 2 ^ i))

  carrying-on : Carrying P live v (i + 1) (e * 2 ^ 1 % 2 ^ 64) (bit_or finished (bit_and e (2 ^ (length P - 1)) / 2 ^ i))
  carrying-on =
      record { inside = omega arith; word = mod-lt (e * 2 ^ 1) (pow_pos 64); gone = gone-more; state = state-more; end = end_more }

-- as the code has it
pub carrying-more : (P masks : List ℕ) (live : ℕ) (v : List ℕ) (i d finished last : ℕ) → Alive P masks live
    → Carrying P live v i d finished → i < length v → (c : ℕ) → c ≡ get_or v i 0 → c < 256 → last ≡ 1 * 2 ^ (length P - 1) % 2 ^ 64
    → Carrying P live v (i + 1) (bit_and d (get_or masks c 0) * 2 ^ 1 % 2 ^ 64)
    (bit_or finished (bit_and (bit_and d (get_or masks c 0)) last / 2 ^ i))
carrying-more P masks live v i d finished last y s l c is small top =
    let e = bit_and d (get_or masks c 0) in
    let below : length P - 1 < 64 = omega (arith, y.bases.some, y.bases.short) in
    let one : last ≡ 2 ^ (length P - 1) = top ∙ ap (λ (n : ℕ). n % 2 ^ 64) (one-mul (2 ^ (length P - 1))) ∙ mod-eq_of_lt (pow-lt below) in
    rw one
    (carrying-on P masks live v i d finished y s l (raised c) (ap raised is ∙ sym (meant-at v i)) e (kept-lt P masks y.vectors d c small)
    (kept-bit P masks y.vectors d c small))

module _ (P masks : List ℕ) (live : ℕ) (v : List ℕ) (y : Alive P masks live) where
  -- a length that is left stands within a word
  pub carrying-near : (i d finished : ℕ) → Carrying P live v i d finished → (d ≡ 0 → ⊥) → i < 64
  carrying-near i d finished s some =
      by_cases (dec_lt i 64)
      (λ (l : i < 64). l)
      (λ (l : ¬ (i < 64)).
      absurd (some (bit-ext 64 d 0 s.word (pow_pos 64) (λ r h. s.gone r (omega arith) ∙ sym (bit-zero r)))))

  -- once none is left, the letters after change nothing
  dead : (n i finished : ℕ) → i + n ≡ length v → Carrying P live v i 0 finished → Carrying P live v (length v) 0 finished
  dead zero i finished e s = subst (λ (j : ℕ). Carrying P live v j 0 finished) (let z : i ≡ length v = omega arith in z) s
  dead (suc n) i finished e s =
      let l : i < length v = omega arith in
      let on = carrying-on P masks live v i 0 finished y s l (get_or (meant v) i 0) refl 0 (pow_pos (length P)) (λ r h. rw (bit-zero r)) in
      dead n (i + 1) finished (omega arith)
      (subst (λ (f : ℕ). Carrying P live v (i + 1) 0 f) (rw (and_zero_l, zero-div) (or_zero_r finished)) on)

  -- all letters have been read
  module _ (d finished : ℕ) (s : Carrying P live v (length v) d finished) where
    whole : take (length v) (meant v) ≡ meant v
    whole = ap (λ (n : ℕ). take n (meant v)) (sym (meant-length v)) ∙ take-length (meant v)

    carrying-all : Moves P live v (d % 2 ^ length P) finished
    carrying-all = record { short = short; state = state; end = λ x w. ap (ends_at P x) (sym whole) ∙ s.end x w }
      where
        m : ℕ
        m = length P

        short : 64 ≤ length v → d % 2 ^ m ≡ 0
        short l = bit-ext m (d % 2 ^ m) 0 (mod-lt d (pow_pos m)) (pow_pos m)
            (λ r h. bit-mod d m r h ∙ s.gone r (omega (arith, y.bases.short)) ∙ sym (bit-zero r))

        small : (x : ℕ) → bit_and (x * 2 ^ length v) (d % 2 ^ m) < 2 ^ m
        small x = omega (arith, and_le_r (x * 2 ^ length v) (d % 2 ^ m), mod-lt d (pow_pos m))

        state : (x : ℕ) → Within x live → next P x (meant v ∷ []) ≡ bit_and (x * 2 ^ length v) (d % 2 ^ m)
        state x w =
            bit-ext m (next P x (meant v ∷ [])) (bit_and (x * 2 ^ length v) (d % 2 ^ m)) (next-lt P x (meant v ∷ [])) (small x)
            (λ r h.
            ap (λ (t : List ℕ). bit (next P x (t ∷ [])) r) (sym whole)
            ∙ s.state x w r h
            ∙ sym (bit-and (x * 2 ^ length v) (d % 2 ^ m) r ∙ ap (λ (b : Bool). bit (x * 2 ^ length v) r && b) (bit-mod d m r h)))

  pub carrying-end : (i d finished ones : ℕ) → Carrying P live v i d finished → length v ≤ i → ones ≡ low (length P)
      → Moves P live v (bit_and d ones) finished
  carrying-end i d finished ones s l e =
      let all : i ≡ length v = omega (arith, s.inside) in
      rw (e ∙ low_ones (length P) y.bases.short, and_mask)
      (carrying-all d finished (subst (λ (j : ℕ). Carrying P live v j d finished) all s))

  pub carrying-dead : (i d finished : ℕ) → Carrying P live v i d finished → d ≡ 0 → Moves P live v 0 finished
  carrying-dead i d finished s e =
      let rest : i + (length v - i) ≡ length v = omega (arith, s.inside) in
      let none = dead (length v - i) i finished rest (subst (λ (n : ℕ). Carrying P live v i n finished) e s) in
      subst (λ (n : ℕ). Moves P live v n finished) (mod-eq_of_lt (pow_pos (length P))) (carrying-all 0 finished none)
