-- Laws of a line in short: byte by byte, up to the end of the line.
use Rattle.std.proofs.Common.{None, Some, ◌≡◌, ℕ, ◌+◌, ◌%◌, ◌^◌, ◌<◌, ◌≤◌, true, false, List, [], ◌∷◌, length, get_or, drop, sym, refl, ap, ◌∙◌, add-one, drop_of_length-le, drop-cons, le-ltb, lt-ltb, eq-eqb, ne_eqb}
use mathlib.Core.Logic.{◌⊎◌, inl, inr}
use Rattle.pool_files.specs.Short.{Act, Skip, Keep, Name, Next, Count, Comment, Shortened, keeps, act_of, putting, in_field, tabbed, acted, over_byte, reading}
use Rattle.pool_files.specs.declared.short.ShortLine.{ShortLine}

-- the act of a byte
module _ (k m b : ℕ) where
  pub act-next : b ≡ 0x09 → k < 7 → act_of k m b ≡ Next
  unfolding act_of
  act-next e l = rw (eq-eqb b 0x09 e, lt-ltb k 7 l)

  pub act-count : b ≡ 0x09 → 7 ≤ k → act_of k m b ≡ Count
  unfolding act_of
  act-count e l = rw (eq-eqb b 0x09 e, le-ltb k 7 l)

  module _ (plain : b ≡ 0x09 → ⊥) where
    pub act-comment : k ≡ 0 → b ≡ 0x23 → m ≡ 0 → act_of k m b ≡ Comment
    unfolding act_of
    act-comment e f g = rw (ne_eqb b 0x09 plain, eq-eqb k 0 e, eq-eqb b 0x23 f, eq-eqb m 0 g)

    pub act-name : k ≡ 0 → ((b ≡ 0x23) × (m ≡ 0 → ⊥)) ⊎ (b ≡ 0x23 → ⊥) → act_of k m b ≡ Name
    unfolding act_of
    act-name e (inl f) = rw (ne_eqb b 0x09 plain, eq-eqb k 0 e, eq-eqb b 0x23 f.0, ne_eqb m 0 f.1)
    act-name e (inr f) = rw (ne_eqb b 0x09 plain, eq-eqb k 0 e, ne_eqb b 0x23 f)

    module _ (later : k ≡ 0 → ⊥) where
      pub act-keep : keeps k ≡ true → act_of k m b ≡ Keep
      unfolding act_of
      act-keep e = rw (ne_eqb b 0x09 plain, ne_eqb k 0 later, e)

      pub act-skip : keeps k ≡ false → act_of k m b ≡ Skip
      unfolding act_of
      act-skip e = rw (ne_eqb b 0x09 plain, ne_eqb k 0 later, e)

-- what a byte does, by its act
module _ (name : List ℕ) (l : ShortLine) (b : ℕ) (d : List ℕ) (a : Act) (e : act_of l.field l.matched b ≡ a) where
  over-as : over_byte name l b d ≡ acted name l b d a
  unfolding over_byte
  over-as = rw e

  pub over-line : (acted name l b d a).line ≡ (over_byte name l b d).line
  over-line = sym (ap (λ (s : Shortened). s.line) over-as)

  pub over-buffer : (acted name l b d a).buffer ≡ (over_byte name l b d).buffer
  over-buffer = sym (ap (λ (s : Shortened). s.buffer) over-as)

-- the next field, with the tab counted
module _ (name : List ℕ) (l : ShortLine) (b : ℕ) (d : List ℕ) (e : act_of l.field l.matched b ≡ Next) {n : ℕ} (w : n ≡ (l.tabs + 1) % 2 ^ 64) where
  pub next-line : (putting (in_field (tabbed l n) (l.field + 1) l.matched) b d).line ≡ (over_byte name l b d).line
  next-line = rw w (over-line name l b d Next e)

  pub next-buffer : (putting (in_field (tabbed l n) (l.field + 1) l.matched) b d).buffer ≡ (over_byte name l b d).buffer
  next-buffer = rw w (over-buffer name l b d Next e)

-- from here the bytes that are left lead to what all of them lead to
pub record Reads (name : List ℕ) (l₀ : ShortLine) (piece : List ℕ) (from : ℕ) (d₀ : List ℕ) (l : ShortLine) (at : ℕ) (d : List ℕ) : Type 0 where
  pub same : reading name l (drop at piece) at d ≡ reading name l₀ (drop from piece) from d₀
  pub size : length d ≡ length d₀

pub reads_none : (name : List ℕ) (l : ShortLine) (piece : List ℕ) (from : ℕ) (d : List ℕ) → Reads name l piece from d l from d
reads_none name l piece from d = record { same = refl; size = refl }

module _ {name : List ℕ} {l₀ : ShortLine} {piece : List ℕ} {from : ℕ} {d₀ : List ℕ} {l : ShortLine} {at : ℕ} {d : List ℕ}
    (r : Reads name l₀ piece from d₀ l at d) where
  pub reads_all : length piece ≤ at → record { come = record { line = l; next = None }; left = d } ≡ reading name l₀ (drop from piece) from d₀
  unfolding reading
  reads_all le =
      let none : drop at piece ≡ [] = drop_of_length-le piece le in
      rw none at r.same

  module _ (lt : at < length piece) where
    cut : drop at piece ≡ get_or piece at 0 ∷ drop (at + 1) piece
    cut = rw add-one (drop-cons piece at 0 lt)

    pub reads-feed :
        get_or piece at 0 ≡ 0x0A → record { come = record { line = l; next = Some (at + 1) }; left = d } ≡ reading name l₀ (drop from piece) from d₀
    unfolding reading
    reads-feed e =
        let s : reading name l (get_or piece at 0 ∷ drop (at + 1) piece) at d ≡ reading name l₀ (drop from piece) from d₀ =
        rw cut at r.same in
        rw (eq-eqb (get_or piece at 0) 0x0A e) at s

    pub reads_more :
        (get_or piece at 0 ≡ 0x0A → ⊥) →
        (m : ShortLine) (x : List ℕ) →
        m ≡ (over_byte name l (get_or piece at 0) d).line →
        x ≡ (over_byte name l (get_or piece at 0) d).buffer →
        length x ≡ length d →
        Reads name l₀ piece from d₀ m (at + 1) x
    unfolding reading
    reads_more e m x p q size =
        let s : reading name l (get_or piece at 0 ∷ drop (at + 1) piece) at d ≡ reading name l₀ (drop from piece) from d₀ =
        rw cut at r.same in
        record { same = rw (p, q) (rw (ne_eqb (get_or piece at 0) 0x0A e) at s); size = size ∙ r.size }
