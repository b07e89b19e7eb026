-- A word compared with a name byte by byte is the name exactly when as many bytes are the name's first as it has.
use Rattle.std.proofs.Common.{◌≡◌, ℕ, zero, suc, ◌+◌, ◌<◌, ◌≤◌, Bool, true, false, cond, eqb, List, [], ◌∷◌, length, get_or, drop, sym, refl, ap, ◌∙◌, ap₂, arith, drop_of_length-le, drop-cons, le-ltb, lt-ltb, eq-eqb, eqb-true}
use native.Mathlib.Decide.{dec_lt}
use mathlib.Core.Logic.{by_cases}
use Rattle.pool_files.specs.Words.{other, go_on, word_from}

module _ (name : List ℕ) (fits : length name < other) where
  go-far : (k b : ℕ) → length name ≤ k → go_on name k b ≡ other
  unfolding go_on
  go-far k b l = rw (le-ltb k (length name) l)

  go-near : (k b : ℕ) → k < length name → go_on name k b ≡ cond (eqb (get_or name k 0) b) (suc k) other
  unfolding go_on
  go-near k b l = rw (lt-ltb k (length name) l)

  -- a word that differs stays another
  stays : (w : List ℕ) → word_from name other w ≡ other
  unfolding word_from
  stays [] = refl
  stays (b ∷ w) = let far : length name ≤ other = omega arith in rw (go-far other b far) (stays w)

  never : (w : List ℕ) → word_from name other w ≡ length name → ⊥
  never w e = let z : other ≡ length name = sym (stays w) ∙ e in omega arith

  module _ (b : ℕ) (w : List ℕ) (k : ℕ) (ih : word_from name (suc k) w ≡ length name → suc k ≤ length name → w ≡ drop (suc k) name)
      (e : word_from name (go_on name k b) w ≡ length name) where
    same : (t : Bool) → eqb (get_or name k 0) b ≡ t → k < length name → b ∷ w ≡ drop k name
    same true t near =
        let on : word_from name (suc k) w ≡ length name = rw (go-near k b near, t) at e in
        let more : suc k ≤ length name = omega arith in
        let first : get_or name k 0 ≡ b = eqb-true (get_or name k 0) b t in
        ap₂ (λ (x : ℕ) (s : List ℕ). x ∷ s) (sym first) (ih on more) ∙ sym (drop-cons name k 0 near)
    same false t near = absurd (never w (rw (go-near k b near, t) at e))

    one_more : b ∷ w ≡ drop k name
    one_more =
        by_cases (dec_lt k (length name))
        (λ (near : k < length name). same (eqb (get_or name k 0) b) refl near)
        (λ (far : k < length name → ⊥).
        let all : length name ≤ k = omega arith in
        absurd (never w (rw (go-far k b all) at e)))

  matched-from : (w : List ℕ) (k : ℕ) → word_from name k w ≡ length name → k ≤ length name → w ≡ drop k name
  unfolding word_from
  matched-from [] k e l = let all : length name ≤ k = omega (arith, e) in sym (drop_of_length-le name all)
  matched-from (b ∷ w) k e l = one_more b w k (matched-from w (suc k)) e

  spelt-from : (j k : ℕ) → k + j ≡ length name → word_from name k (drop k name) ≡ length name
  unfolding word_from
  spelt-from zero k e =
      let all : length name ≤ k = omega arith in
      let is : k ≡ length name = omega arith in
      rw (drop_of_length-le name all) is
  spelt-from (suc j) k e =
      let near : k < length name = omega arith in
      let on : go_on name k (get_or name k 0) ≡ suc k = go-near k (get_or name k 0) near ∙ rw (eq-eqb (get_or name k 0) (get_or name k 0) refl) in
      let next : suc k + j ≡ length name = omega arith in
      rw (drop-cons name k 0 near) (ap (λ (i : ℕ). word_from name i (drop (suc k) name)) on ∙ spelt-from j (suc k) next)

  -- a word of which as many bytes are the name's first as the name has is the name, and the name is such a word
  pub matched-is : (w : List ℕ) → word_from name 0 w ≡ length name → w ≡ name
  matched-is w e = matched-from w 0 e (omega arith)

  pub name-matched : word_from name 0 name ≡ length name
  name-matched = spelt-from (length name) 0 (omega arith)
