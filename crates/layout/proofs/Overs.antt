-- Laws of writing over a list, as it goes on: one more piece after what was written.
use Rattle.std.proofs.Common.{◌≡◌, ℕ, suc, ◌+◌, ◌-◌, ◌%◌, ◌<◌, ◌≤◌, false, leb, List, [], ◌∷◌, ◌++◌, length, get_or, take, drop, set, sym, refl, ap, ◌∙◌, append_assoc, append-nil, add-one, arith, length-append, length-drop, take-append-drop, drop_of_length-le, length-take, drop-cons, drop-drop, take_at, le-leb, leb-true}
use borrow.Author.Tests.{lt-leb}
use lib.Seq.{drop-append-add, set_split}
use Rattle.text.proofs.Truth.{same_truth}
use Rattle.text.specs.Text.{Variant, Segment}
use Rattle.layout.specs.Bytes.{word_bytes, over, put}
use Rattle.layout.specs.Encoding.{bytes_of, encode_variant, encode_segment}
use Rattle.layout.specs.Sizes.{count_bytes}

drop-behind : (p q : List ℕ) (n m : ℕ) → length p ≡ n → drop (n + m) (p ++ q) ≡ drop m q
drop-behind p q n m e = rw (← e) (drop-append-add p q m)

module _ (d : List ℕ) (at : ℕ) where
  pub over_none : over d at [] ≡ d
  unfolding over
  over_none = let e : at + 0 ≡ at = omega arith in rw e (take-append-drop at d)

  pub over-set : (a : ℕ) → at < length d → set d at a ≡ over d at (a ∷ [])
  unfolding over
  over-set a l = let e : at + 1 ≡ suc at = omega arith in rw e (set_split d at a l)

  module _ (xs : List ℕ) (room : at + length xs ≤ length d) where
    pub length_over : length (over d at xs) ≡ length d
    unfolding over
    length_over = simp (length-append, length-take, length-drop) (omega arith)

    -- what is written right after xs
    pub over-over : (ys : List ℕ) → over (over d at xs) (at + length xs) ys ≡ over d at (xs ++ ys)
    unfolding over
    over-over ys =
        let n : ℕ = at + length xs in
        let p : List ℕ = take at d ++ xs in
        let q : List ℕ = drop n d in
        let m : ℕ = length ys in
        let np : length p ≡ n = simp (length-append, length-take) (omega arith) in
        let first : over d at xs ≡ p ++ q = sym (append_assoc (take at d) xs q) in
        let front : take n (p ++ q) ≡ p = take_at p q n np in
        let behind : drop (n + m) (p ++ q) ≡ drop (n + m) d = drop-behind p q n m np ∙ drop-drop m n d in
        let far : at + length (xs ++ ys) ≡ n + m = simp length-append (omega arith) in
        rw (first, front, behind, far) (simp append_assoc)

-- what is written at the front stands there
pub over-front : (d xs : List ℕ) (n : ℕ) → length xs ≡ n → take n (over d 0 xs) ≡ xs
unfolding over
over-front d xs n e = take_at xs (drop (0 + length xs) d) n e

-- whether bytes have room is asked without a sum
pub room-none : (size at more : ℕ) → size < at → false ≡ leb (at + more) size
room-none size at more l = let far : size < at + more = omega arith in sym (lt-leb (at + more) size far)

pub room-left : (size at more : ℕ) → at ≤ size → leb more (size - at) ≡ leb (at + more) size
room-left size at more l =
    same_truth (leb more (size - at)) (leb (at + more) size)
    (λ e. le-leb (at + more) size (omega (arith, leb-true more (size - at) e)))
    (λ e. le-leb more (size - at) (omega (arith, leb-true (at + more) size e)))

-- what is put where it has room, and where it has none
pub put-over : (d : List ℕ) (at : ℕ) (xs : List ℕ) → at + length xs ≤ length d → put d at xs ≡ over d at xs
unfolding put
put-over d at xs l = rw (le-leb (at + length xs) (length d) l)

pub put-short : (d : List ℕ) (at : ℕ) (xs : List ℕ) → leb (at + length xs) (length d) ≡ false → d ≡ put d at xs
unfolding put
put-short d at xs e = rw e

-- two numbers set one after another
pub over-two : (d : List ℕ) (at a b : ℕ) → at + 2 ≤ length d → set (set d at a) (at + 1) b ≡ over d at (a ∷ b ∷ [])
over-two d at a b l =
    let first : at < length d = omega arith in
    let room : at + 1 ≤ length d = omega arith in
    let second : at + 1 < length (over d at (a ∷ [])) = omega (arith, length_over d at (a ∷ []) room) in
    rw (over-set d at a first) (over-set (over d at (a ∷ [])) (at + 1) b second ∙ over-over d at (a ∷ []) room (b ∷ []))

-- of `all`, which is to be written over d from place `from` on, the buffer holds what stands before `rest`, which comes next, at
-- place `at`
pub record Emitted (d : List ℕ) (from : ℕ) (all out : List ℕ) (at : ℕ) (rest : List ℕ) : Type 0 where
  pub done : List ℕ
  pub split : all ≡ done ++ rest
  pub place : at ≡ from + length done
  pub left : out ≡ over d from done
  pub room : from + length all ≤ length d

pub emitted-none : (d : List ℕ) (from : ℕ) (all : List ℕ) → from + length all ≤ length d → Emitted d from all d from all
emitted-none d from all l = record { done = []; split = refl; place = omega arith; left = sym (over_none d from); room = l }

module _ {d : List ℕ} {from : ℕ} {all out : List ℕ} {at : ℕ} {rest : List ℕ} (e : Emitted d from all out at rest) where
  lengths : length all ≡ length e.done + length rest
  lengths = ap length e.split ∙ length-append e.done rest

  inside : from + length e.done ≤ length d
  inside = omega (arith, lengths, e.room)

  pub emitted-length : length out ≡ length d
  emitted-length = ap length e.left ∙ length_over d from e.done inside

  pub emitted-room : at + length rest ≤ length out
  emitted-room = omega (arith, lengths, emitted-length, e.place, e.room)

  -- one more piece
  pub emitted-more :
      (piece more : List ℕ) {after : List ℕ} {next : ℕ} → rest ≡ piece ++ more → after ≡ over out at piece → next ≡ at + length piece →
      Emitted d from all after next more
  emitted-more piece more s w n =
      record {
        done = e.done ++ piece;
        split = e.split ∙ rw s (sym (append_assoc e.done piece more));
        place = omega (arith, length-append e.done piece, e.place);
        left = w ∙ rw (e.left, e.place) (over-over d from e.done inside piece);
        room = e.room;
      }

  pub emitted-end : rest ≡ [] → out ≡ over d from all
  emitted-end n = e.left ∙ ap (over d from) (sym (e.split ∙ rw n (append-nil e.done)))

-- a list copied member by member: the first i of them are
pub record Copied (d : List ℕ) (from : ℕ) (xs out : List ℕ) (i : ℕ) : Type 0 where
  pub emitted : Emitted d from xs out (from + i) (drop i xs)

pub copied_none : (d : List ℕ) (from : ℕ) (xs : List ℕ) → from + length xs ≤ length d → Copied d from xs d 0
copied_none d from xs l = let e : from + 0 ≡ from = omega arith in record { emitted = rw e (emitted-none d from xs l) }

module _ {d : List ℕ} {from : ℕ} {xs out : List ℕ} {i : ℕ} (c : Copied d from xs out i) where
  pub copied-room : i < length xs → from + i < length out
  copied-room l = omega (arith, emitted-room c.emitted, length-drop i xs)

  pub copied_more : i < length xs → Copied d from xs (set out (from + i) (get_or xs i 0)) (i + 1)
  copied_more l =
      let a : ℕ = get_or xs i 0 in
      let more : drop i xs ≡ (a ∷ []) ++ drop (i + 1) xs = rw add-one (drop-cons xs i 0 l) in
      let place : from + (i + 1) ≡ from + i + 1 = omega arith in
      record { emitted = emitted-more c.emitted (a ∷ []) (drop (i + 1) xs) more (over-set out (from + i) a (copied-room l)) place }

  pub copied-end : length xs ≤ i → out ≡ over d from xs
  copied-end l = emitted-end c.emitted (drop_of_length-le xs l)

-- a variant is its length and then its letters
pub variant-over :
    (d : List ℕ) {mid out : List ℕ} (at : ℕ) (v : Variant) → at + 2 + length v ≤ length d →
    mid ≡ over d at (word_bytes (length v)) → out ≡ over mid (at + 2) v → out ≡ over d at (encode_variant v)
unfolding encode_variant word_bytes
variant-over d at v l e f =
    let room : at + 2 ≤ length d = omega arith in
    f ∙ rw e (over-over d at (word_bytes (length v)) room v)

-- a segment is its variant count and then its variants
pub count-over :
    (d : List ℕ) {mid : List ℕ} (at : ℕ) {n : ℕ} → n ≤ 255 → at < length d → mid ≡ put d at (count_bytes n) → mid ≡ over d at (n ∷ [])
unfolding count_bytes
count-over d at {n} small l e =
    let byte : n % 256 ≡ n = omega arith in
    let room : at + 1 ≤ length d = omega arith in
    e ∙ put-over d at (count_bytes n) room ∙ ap (λ m. over d at (m ∷ [])) byte

pub segment-over :
    (d : List ℕ) {mid out : List ℕ} (at : ℕ) (g : Segment) → at < length d → mid ≡ over d at (length g ∷ []) →
    out ≡ over mid (at + 1) (bytes_of encode_variant g) → out ≡ over d at (encode_segment g)
unfolding encode_segment
segment-over d at g l e f =
    let room : at + 1 ≤ length d = omega arith in
    f ∙ rw e (over-over d at (length g ∷ []) room (bytes_of encode_variant g))
