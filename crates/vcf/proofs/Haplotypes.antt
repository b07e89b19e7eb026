-- The text of a window spells exactly the haplotypes that its records allow.
use Prim.Native.Nat.{ℕ, ◌+◌, ◌-◌, ◌<◌, ◌≤◌}
use native.Mathlib.Omega.{arith}
use native.Mathlib.Decide.{dec_lt}
use mathlib.Core.Path.{◌≡◌, refl, sym, ◌∙◌}
use mathlib.Core.Logic.{◌↔◌, by_cases}
use mathlib.Core.List.{List, [], ◌∷◌, ◌++◌, append-nil, Memᴰ}
use lib.Dec.{ltb}
use lib.ListN.{length, drop, length-drop, take-append-drop}
use lib.Seq.{take_all, drop-drop}
use borrow.Author.Tests.{lt-ltb, le-ltb}
use Rattle.text.specs.Text.{Variant, Text}
use Rattle.text.specs.Occurrence.{Spells}
use Rattle.layout.specs.Bytes.{part}
use Rattle.vcf.specs.Records.{position, reference, alts, behind}
use Rattle.vcf.specs.Building.{gap, text_from}
use Rattle.vcf.specs.Haplotypes.{Haplotype}
use Rattle.vcf.proofs.Windows.{agrees-inside, agrees-stands}
use Rattle.vcf.proofs.Kept.{Kept}

-- h begins with v, and U spells the rest
abbrev Behind : List ℕ → Text → List ℕ → Type 0
Behind v U h = (u : List ℕ) × Spells U u × (h ≡ v ++ u)

-- a segment of one variant
alone-from : (v : Variant) (U : Text) (h : List ℕ) → Spells ((v ∷ []) ∷ U) h → Behind v U h
alone-from v U h s = let (u, t, e) = s.is in (u, t, rw (only s.variant s.listed) at e)
  where
    only : (x : Variant) → Memᴰ x (v ∷ []) → x ≡ v
    only x (Memᴰ.head e) = e
    only x (Memᴰ.tail m) = elim m [ ]

alone-to : (v : Variant) (U : Text) (h : List ℕ) → Behind v U h → Spells ((v ∷ []) ∷ U) h
alone-to v U h b = record { variant = v; listed = Memᴰ.head refl; is = b }

-- the bases from a up to b
module _ (w : List ℕ) (a b : ℕ) (U : Text) (h : List ℕ) where
  gap_from : Spells (gap w a b ++ U) h → Behind (part w a (b - a)) U h
  unfolding gap
  gap_from s =
      by_cases (dec_lt a b)
      (λ (l : a < b). alone-from (part w a (b - a)) U h (rw (lt-ltb a b l) at s))
      (λ (l : ¬ (a < b)).
      let z : b - a ≡ 0 = omega arith in
      let e : ltb a b ≡ _ = le-ltb a b (omega arith) in
      (h, rw e at s, rw z))

  gap-to : Behind (part w a (b - a)) U h → Spells (gap w a b ++ U) h
  unfolding gap
  gap-to s =
      by_cases (dec_lt a b)
      (λ (l : a < b). rw (lt-ltb a b l) (alone-to (part w a (b - a)) U h s))
      (λ (l : ¬ (a < b)).
      let z : b - a ≡ 0 = omega arith in
      let e : h ≡ s.0 = s.2 ∙ rw z in
      rw (le-ltb a b (omega arith), e) s.1)

-- the text from base `from` on
module _ (w : List ℕ) (p : ℕ) where
  last : (from : ℕ) → part w from (length w - from) ≡ drop from w
  last from = take_all (length w - from) (drop from w)
      (let l : length (drop from w) ≤ length w - from = omega (arith, length-drop from w) in l)

  spelt-from : (ls : List (List ℕ)) (from : ℕ) (h : List ℕ) → Spells (text_from w p from ls) h → Haplotype w p from ls h
  unfolding text_from
  spelt-from [] from h s =
      let (u, t, e) = gap_from w from (length w) [] h (rw (← append-nil (gap w from (length w))) at s) in
      e ∙ rw (t, append-nil) (last from)
  spelt-from (l ∷ ls) from h s =
      let rest : Text = text_from w p (behind l - p) ls in
      let (u, t, e) = gap_from w from (position l - p) ((reference l ∷ alts l) ∷ rest) h s in
      let (x, y, f) = t.is in
      record { variant = t.variant; listed = t.listed; is = (x, spelt-from ls (behind l - p) x y, e ∙ rw f) }

  spelt-to : (ls : List (List ℕ)) (from : ℕ) (h : List ℕ) → Haplotype w p from ls h → Spells (text_from w p from ls) h
  unfolding text_from
  spelt-to [] from h e =
      rw (← append-nil (gap w from (length w)))
      (gap-to w from (length w) [] h ([], refl, e ∙ sym (append-nil (part w from (length w - from)) ∙ last from)))
  spelt-to (l ∷ ls) from h s =
      let rest : Text = text_from w p (behind l - p) ls in
      let (u, t, e) = s.is in
      gap-to w from (position l - p) ((reference l ∷ alts l) ∷ rest) h
      (s.variant ++ u, record { variant = s.variant; listed = s.listed; is = (u, spelt-to ls (behind l - p) u t, refl) }, e)

  pub spelt : (ls : List (List ℕ)) (from : ℕ) (h : List ℕ) → Spells (text_from w p from ls) h ↔ Haplotype w p from ls h
  spelt ls from h = (spelt-from ls from h, spelt-to ls from h)

  -- the window itself is one of them: each record has its REF
  module _ (name : List ℕ) where
    pub reference-spelt :
        (ls : List (List ℕ)) (base from : ℕ) → base ≤ from - p → Kept name w p from ls → Haplotype w p base ls (drop base w)
    unfolding Kept
    reference-spelt [] base from l k = refl
    reference-spelt (x ∷ ls) base from l k =
        let at : ℕ = position x - p in
        let n : ℕ = length (reference x) in
        let inside = agrees-inside w p (position x) (reference x) k.0.agreed in
        let stands : reference x ≡ part w at n = agrees-stands w p (position x) (reference x) k.0.agreed in
        let first : base + (at - base) ≡ at = omega (arith, k.0.late) in
        let behind_ref : at + n ≡ behind x - p = omega (arith, inside) in
        let rest : drop base w ≡ part w base (at - base) ++ drop at w =
        sym (take-append-drop (at - base) (drop base w)) ∙ rw (drop-drop (at - base) base w, first) in
        let more : drop at w ≡ reference x ++ drop (behind x - p) w =
        sym (take-append-drop n (drop at w)) ∙ rw (drop-drop n at w, behind_ref, ← stands) in
        record {
          variant = reference x;
          listed = Memᴰ.head refl;
          is = (drop (behind x - p) w, reference-spelt ls (behind x - p) (behind x) (omega arith) k.1, rest ∙ rw more);
        }
