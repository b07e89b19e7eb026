-- Laws of the way back, in the buffers: the notation of a text that can be written is read whole where it has room. Nothing of it is told
-- to be full, repeated or too long.
use Prim.Native.Nat.{ℕ, suc, ◌+◌, ◌-◌, ◌*◌, ◌<◌, ◌≤◌}
use native.Mathlib.Omega.{arith}
use mathlib.Core.Path.{◌≡◌, refl, sym, ap, ◌∙◌}
use mathlib.Core.Bool.{Bool, true, false, not, ◌&&◌}
use mathlib.Core.List.{List, [], ◌∷◌, ◌++◌, map, map-append, flatten, append_assoc, append-nil}
use Rattle.std.proofs.Common.{Ok}
use lib.Dec.{leb, ltb}
use lib.ListN.{length, set, length-append, length-map}
use lib.Seq.{set_at, take-append_seam, drop-append_seam}
use borrow.Author.Tests.{le-leb, lt-ltb, leb-true, not-true}
use Rattle.text.specs.Letter.{capital, letter, every}
use Rattle.text.specs.Text.{Variant, Segment, Text}
use Rattle.text.specs.Compare.{alike}
use Rattle.text.specs.Bits.{any_of}
use Rattle.text.proofs.Truth.{and_left, and_right, and_both}
use Rattle.text.proofs.Meanings.{capitals-letters, capitals-meant}
use Rattle.layout.specs.Bytes.{greatest_stretch, part, word_bytes}
use Rattle.layout.specs.Reading.{among}
use Rattle.layout.specs.Encoding.{bytes_of, encode_variant, encode_segment, encode, all, distinct, writable_segment, writable}
use Rattle.writer.specs.Cuts.{cut}
use Rattle.writer.specs.Writing.{letters_of, lengths_of, counts_of}
use Rattle.eds_notation.specs.Notation.{Doing, nothing, brace, act_of}
use Rattle.eds_notation.specs.Filling.{Stepped, tape_of, empty_tape, Buffers, buffers, stands, repeated, fits, end_fits}
use Rattle.eds_notation.specs.Filling.{variant_step, segment_step, step_of, puts, Came, came, on_from, read_on}
use Rattle.eds_notation.specs.Braces.{listed, braced, in_braces}
use Rattle.eds_notation.specs.declared.notation.Begun.{Begun}
use Rattle.eds_notation.specs.declared.notation.Act.TheVariants.{Pass, Letter, Variant as Ends, Segment as Closes}
use Rattle.eds_notation.specs.declared.filling.Tape.{Tape}
use Rattle.eds_notation.proofs.Fillings.{Fitting, fitting-fits, letter-done}
use Rattle.eds_notation.proofs.ReadsBack.{inside, act-letter, act-brace, act-comma, act-close, some-letters, variant-bytes, flatten-more}

-- all is read
pub record Whole (x : Came) : Type 0 where
  pub tape : Tape
  pub left : Buffers
  pub is : x ≡ came (Ok tape) left

-- with the letters A, the lengths B and the counts C filled, the bytes s are read whole wherever there is room for l letters, v lengths and
-- n counts more
unfoldable Goes : List ℕ → List ℕ → List ℕ → ℕ → ℕ → ℕ → Begun → List ℕ → Type 0
Goes A B C l v n o s =
    (R S Q : List ℕ) → l ≤ length R → v ≤ length S → n ≤ length Q → (at : ℕ) →
    Whole (read_on (tape_of (length A) (length B) (length C) o) (buffers (A ++ R) (B ++ S) (C ++ Q)) at s)

-- one byte, then the rest
one_byte :
    (t : Tape) (b : Buffers) (at x : ℕ) (s : List ℕ) (a : Doing) (u : Tape) → act_of t.begun x ≡ a → step_of t a b ≡ Ok u →
    Whole (read_on u (puts t a x b) (at + 1) s) → Whole (read_on t b at (x ∷ s))
unfolding read_on
one_byte t b at x s a u is e w =
    let first : read_on t b at (x ∷ s) ≡ on_from (step_of t a b) at t b (λ v. read_on v (puts t a x b) (at + 1) s) =
    ap (λ (k : Doing). on_from (step_of t k b) at t b (λ v. read_on v (puts t k x b) (at + 1) s)) is in
    let next : read_on t b at (x ∷ s) ≡ read_on u (puts t a x b) (at + 1) s =
    first ∙ ap (λ (k : Stepped). on_from k at t b (λ v. read_on v (puts t a x b) (at + 1) s)) e in
    record { tape = w.tape; left = w.left; is = next ∙ w.is }

-- one member more, put after what is filled
snoc-size : (A : List ℕ) (x : ℕ) → length A + 1 ≡ length (A ++ (x ∷ []))
snoc-size A x = sym (length-append A (x ∷ []))

snoc-put : (A : List ℕ) (x y : ℕ) (R : List ℕ) → set (A ++ (y ∷ R)) (length A) x ≡ A ++ (x ∷ []) ++ R
snoc-put A x y R = set_at A y R x (length A) refl ∙ sym (append_assoc A (x ∷ []) R)

some-room : (A : List ℕ) (y : ℕ) (R : List ℕ) → length A < length (A ++ (y ∷ R))
some-room A y R = omega (arith, length-append A (y ∷ R))

-- the signs and letters of a segment in braces
module _ (A B C : List ℕ) (k m p l v n : ℕ) (s : List ℕ) where
  letter-goes :
      (x : ℕ) → letter x ≡ true → Fitting (tape_of (length A) (length B) (length C) (inside k m p)) 1 0 →
      Goes (A ++ (x ∷ [])) B C l v n (inside k (m + 1) (p + 1)) s → Goes A B C (suc l) v n (inside k m p) (x ∷ s)
  unfolding Goes step_of puts
  letter-goes x e f g [] S Q i j h at = absurd (let z : ⊥ = omega arith in z)
  letter-goes x e f g (y ∷ R) S Q i j h at =
      let t : Tape = tape_of (length A) (length B) (length C) (inside k m p) in
      let o : Begun = inside k (m + 1) (p + 1) in
      let b : Buffers = buffers (A ++ (y ∷ R)) (B ++ S) (C ++ Q) in
      let act : act_of (inside k m p) x ≡ Ok (Letter o) =
      act-letter k m p x e (omega (arith, f.letters, f.bytes)) (omega (arith, f.spelt, f.letters, f.bytes)) in
      let step : step_of t (Ok (Letter o)) b ≡ Ok (tape_of (length A + 1) (length B) (length C) o) =
      sym (letter-done t o (length (A ++ (y ∷ R))) (some-room A y R) (fitting-fits f)) in
      let rest : Whole (read_on (tape_of (length A + 1) (length B) (length C) o)
      (buffers (set (A ++ (y ∷ R)) (length A) x) (B ++ S) (C ++ Q)) (at + 1) s) =
      rw (snoc-size A x, snoc-put A x y R) (g R S Q (omega arith) j h (at + 1)) in
      one_byte t b at x s (Ok (Letter o)) (tape_of (length A + 1) (length B) (length C) o) act step rest

  -- no variant is repeated, whatever stands after what is filled
  module _
      (new : (R S : List ℕ) → repeated (tape_of (length A) (length B) (length C) (inside k m p)) (A ++ R) (B ++ S) ≡ false) where
    comma-goes :
        k < 254 → Fitting (tape_of (length A) (length B) (length C) (inside k m p)) 0 1 →
        Goes A (B ++ (p ∷ [])) C l v n (inside (k + 1) m 0) s → Goes A B C l (suc v) n (inside k m p) (0x2C ∷ s)
    unfolding Goes step_of puts variant_step end_fits
    comma-goes few f g R [] Q i j h at = absurd (let z : ⊥ = omega arith in z)
    comma-goes few f g R (y ∷ S) Q i j h at =
        let t : Tape = tape_of (length A) (length B) (length C) (inside k m p) in
        let o : Begun = inside (k + 1) m 0 in
        let b : Buffers = buffers (A ++ R) (B ++ (y ∷ S)) (C ++ Q) in
        let far : length A ≤ length (A ++ R) = omega (arith, length-append A R) in
        let step : step_of t (Ok (Ends o)) b ≡ Ok (tape_of (length A) (length B + 1) (length C) o) =
        rw (
          le-leb (length A) (length (A ++ R)) far,
          lt-ltb (length B) (length (B ++ (y ∷ S))) (some-room B y S),
          fitting-fits f,
          new R (y ∷ S),
        ) in
        let rest : Whole (read_on (tape_of (length A) (length B + 1) (length C) o)
        (buffers (A ++ R) (set (B ++ (y ∷ S)) (length B) p) (C ++ Q)) (at + 1) s) =
        rw (snoc-size B p, snoc-put B p y S) (g R S Q i (omega arith) h (at + 1)) in
        one_byte t b at 0x2C s (Ok (Ends o)) (tape_of (length A) (length B + 1) (length C) o) (act-comma k m p few) step rest

    close-goes :
        Fitting (tape_of (length A) (length B) (length C) (inside k m p)) 0 0 →
        Goes A (B ++ (p ∷ [])) (C ++ ((k + 1) ∷ [])) l v n nothing s → Goes A B C l (suc v) (suc n) (inside k m p) (0x7D ∷ s)
    unfolding Goes step_of puts segment_step end_fits
    close-goes f g R [] Q i j h at = absurd (let z : ⊥ = omega arith in z)
    close-goes f g R (y ∷ S) [] i j h at = absurd (let z : ⊥ = omega arith in z)
    close-goes f g R (y ∷ S) (q ∷ Q) i j h at =
        let t : Tape = tape_of (length A) (length B) (length C) (inside k m p) in
        let u : Tape = tape_of (length A) (length B + 1) (length C + 1) nothing in
        let b : Buffers = buffers (A ++ R) (B ++ (y ∷ S)) (C ++ (q ∷ Q)) in
        let far : length A ≤ length (A ++ R) = omega (arith, length-append A R) in
        let step : step_of t (Ok (Closes nothing)) b ≡ Ok u =
        rw (
          lt-ltb (length C) (length (C ++ (q ∷ Q))) (some-room C q Q),
          le-leb (length A) (length (A ++ R)) far,
          lt-ltb (length B) (length (B ++ (y ∷ S))) (some-room B y S),
          fitting-fits f,
          new R (y ∷ S),
        ) in
        let rest : Whole (read_on u (buffers (A ++ R) (set (B ++ (y ∷ S)) (length B) p) (set (C ++ (q ∷ Q)) (length C) (k + 1))) (at + 1) s) =
        rw (snoc-size B p, snoc-put B p y S, snoc-size C (k + 1), snoc-put C (k + 1) q Q)
        (g R S Q i (omega arith) (omega arith) (at + 1)) in
        one_byte t b at 0x7D s (Ok (Closes nothing)) u (act-close k m p) step rest

brace-goes : (A B C : List ℕ) (l v n : ℕ) (s : List ℕ) → Goes A B C l v n brace s → Goes A B C l v n nothing (0x7B ∷ s)
unfolding Goes step_of puts
brace-goes A B C l v n s g R S Q i j h at =
    let u : Tape = tape_of (length A) (length B) (length C) brace in
    one_byte (tape_of (length A) (length B) (length C) nothing) (buffers (A ++ R) (B ++ S) (C ++ Q)) at 0x7B s (Ok (Pass brace)) u
    act-brace refl (g R S Q i j h (at + 1))

-- the letters of a variant
letters-go :
    (w : Variant) (A B C : List ℕ) (k m p l v n : ℕ) (s : List ℕ) → every letter w ≡ true →
    Fitting (tape_of (length A) (length B) (length C) (inside k m p)) (length w) 0 →
    Goes (A ++ w) B C l v n (inside k (m + length w) (p + length w)) s → Goes A B C (length w + l) v n (inside k m p) (w ++ s)
unfolding every
letters-go [] A B C k m p l v n s e f g =
    let a : m + 0 ≡ m = omega arith in
    let b : p + 0 ≡ p = omega arith in
    let c : 0 + l ≡ l = omega arith in
    rw (← append-nil A, c) (rw (a, b) at g)
letters-go (x ∷ w) A B C k m p l v n s e f g =
    let a : m + suc (length w) ≡ m + 1 + length w = omega arith in
    let b : p + suc (length w) ≡ p + 1 + length w = omega arith in
    let c : suc (length w) + l ≡ suc (length w + l) = omega arith in
    let d : A ++ (x ∷ w) ≡ A ++ (x ∷ []) ++ w = sym (append_assoc A (x ∷ []) w) in
    let size : length (A ++ (x ∷ [])) ≡ length A + 1 = sym (snoc-size A x) in
    let first : Fitting (tape_of (length A) (length B) (length C) (inside k m p)) 1 0 =
    record { spelt = f.spelt; letters = f.letters; lengths = f.lengths; variants = f.variants; bytes = omega (arith, f.bytes) } in
    let next : Fitting (tape_of (length (A ++ (x ∷ []))) (length B) (length C) (inside k (m + 1) (p + 1))) (length w) 0 =
    record {
      spelt = omega (arith, f.spelt);
      letters = omega (arith, f.letters, size);
      lengths = f.lengths;
      variants = f.variants;
      bytes = omega (arith, f.bytes, size);
    } in
    let rest : Goes (A ++ (x ∷ [])) B C (length w + l) v n (inside k (m + 1) (p + 1)) (w ++ s) =
    letters-go w (A ++ (x ∷ [])) B C k (m + 1) (p + 1) l v n s (and_right (letter x) (every letter w) e) next (rw (a, b, d) at g) in
    rw c (letter-goes A B C k m p (length w + l) v n (w ++ s) x (and_left (letter x) (every letter w) e) first rest)

-- a segment that can be written
some-capitals : (g : Segment) → writable_segment g ≡ true → (all (every capital) g ≡ true) × (distinct [] g ≡ true)
unfolding writable_segment
some-capitals g e =
    let a : Bool = ltb 0 (length g) && leb (length g) 255 in
    let c : Bool = all (every capital) g in
    (and_right a c (and_left (a && c) (distinct [] g) e), and_right (a && c) (distinct [] g) e)

snoc-capitals :
    (l : Segment) (w : Variant) → all (every capital) l ≡ true → every capital w ≡ true → all (every capital) (l ++ (w ∷ [])) ≡ true
unfolding all
snoc-capitals [] w e f = rw f
snoc-capitals (a ∷ l) w e f =
    and_both (every capital a) (all (every capital) (l ++ (w ∷ []))) (and_left (every capital a) (all (every capital) l) e)
    (snoc-capitals l w (and_right (every capital a) (all (every capital) l) e) f)

small : (t : Text) → length (encode t) ≤ greatest_stretch → 2 + 0 + 2 * 0 + 0 + length (bytes_of encode_segment t) ≤ greatest_stretch
unfolding encode word_bytes
small t e = omega (arith, length-append (word_bytes (length t)) (bytes_of encode_segment t))

-- the open variant, after those seen of its segment
part_end : (a b r : List ℕ) → part (a ++ b ++ r) (length (a ++ b) - length b) (length b) ≡ b
part_end a b r =
    let e : length (a ++ b) - length b ≡ length a = omega (arith, length-append a b) in
    rw (e, append_assoc a b r, drop-append_seam a (b ++ r)) (take-append_seam b r)

cut-front : (l : List (List ℕ)) (r : List ℕ) → cut (map length l) (flatten l ++ r) ≡ l
unfolding cut flatten
cut-front [] r = refl
cut-front (a ∷ l) r =
    rw (append_assoc a (flatten l) r, take-append_seam a (flatten l ++ r), drop-append_seam a (flatten l ++ r), cut-front l r)

alike-among : (w : Variant) (l : Segment) → every capital w ≡ true → all (every capital) l ≡ true → any_of (alike w) l ≡ among w l
unfolding any_of among alike all
alike-among w [] e f = refl
alike-among w (a ∷ l) e f =
    rw (
      capitals-meant w e,
      capitals-meant a (and_left (every capital a) (all (every capital) l) f),
      alike-among w l e (and_right (every capital a) (all (every capital) l) f),
    )

module _ (A B : List ℕ) (c : ℕ) (seen : Segment) (w : Variant) where
  not-repeated :
      every capital w ≡ true → all (every capital) seen ≡ true → among w seen ≡ false → (R S : List ℕ) →
      repeated (tape_of (length (A ++ (flatten seen ++ w))) (length (B ++ map length seen)) c
      (inside (length seen) (length (flatten seen ++ w)) (length w)))
      (A ++ (flatten seen ++ w) ++ R) (B ++ map length seen ++ S)
      ≡ false
  unfolding stands
  not-repeated e f new R S =
      let g : List ℕ = flatten seen ++ w in
      let n : length seen ≡ length (map length seen) = sym (length-map seen length) in
      let letters : part (A ++ g ++ R) (length (A ++ g) - length g) (length g) ≡ g = part_end A g R in
      let lengths : part (B ++ map length seen ++ S) (length (B ++ map length seen) - length seen) (length seen) ≡ map length seen =
      rw n (part_end B (map length seen) S) in
      let size : length g - length w ≡ length (flatten seen) = omega (arith, length-append (flatten seen) w) in
      rw (letters, lengths, size, drop-append_seam (flatten seen) w, cut-front seen w) (alike-among w seen e f ∙ new)

-- there is room for the end of the open variant, with `another` after it; and, once a comma has followed, for n letters
module _ (A B C : List ℕ) (seen : Segment) (w : Variant) where
  letters-size : length (A ++ (flatten seen ++ w)) ≡ length A + length (flatten seen ++ w)
  letters-size = length-append A (flatten seen ++ w)

  lengths-size : length (B ++ map length seen) ≡ length B + length seen
  lengths-size = length-append B (map length seen) ∙ ap (λ (i : ℕ). length B + i) (length-map seen length)

  open-fits :
      (another : ℕ) → length seen ≤ 254 →
      2 + (length C + 1) + 2 * (length B + length seen + 1 + another) + (length A + length (flatten seen ++ w)) ≤ greatest_stretch →
      Fitting (tape_of (length (A ++ (flatten seen ++ w))) (length (B ++ map length seen)) (length C)
      (inside (length seen) (length (flatten seen ++ w)) (length w))) 0 another
  open-fits another few room =
      record {
        spelt = omega (arith, length-append (flatten seen) w);
        letters = omega (arith, letters-size);
        lengths = omega (arith, lengths-size);
        variants = few;
        bytes = omega (arith, letters-size, lengths-size);
      }

  next_fits :
      (n : ℕ) → length seen + 1 ≤ 254 →
      2 + (length C + 1) + 2 * (length B + length seen + 1 + 1) + (length A + length (flatten seen ++ w) + n) ≤ greatest_stretch →
      Fitting (tape_of (length (A ++ (flatten seen ++ w))) (length (B ++ map length seen ++ (length w ∷ []))) (length C)
      (inside (length seen + 1) (length (flatten seen ++ w)) 0)) n 0
  next_fits n few room =
      let more = length-append (B ++ map length seen) (length w ∷ []) in
      record {
        spelt = omega arith;
        letters = omega (arith, letters-size);
        lengths = omega (arith, lengths-size, more);
        variants = few;
        bytes = omega (arith, letters-size, lengths-size, more);
      }

-- what is known otherwise
goes-as :
    {A A' B B' C C' : List ℕ} {l l' v v' n n' : ℕ} {o o' : Begun} {s s' : List ℕ} → A ≡ A' → B ≡ B' → C ≡ C' → l ≡ l' → v ≡ v' → n ≡ n' →
    o ≡ o' → s ≡ s' → Goes A B C l v n o s → Goes A' B' C' l' v' n' o' s'
goes-as a b c d e f g h x = rw (a, b, c, d, e, f, g, h) at x

-- the further variants of a segment, of which those seen are closed and w is open
listed-go :
    (g : Segment) (A B C : List ℕ) (seen : Segment) (w : Variant) (l v n : ℕ) (s : List ℕ) → every capital w ≡ true →
    all (every capital) seen ≡ true → all (every capital) g ≡ true → distinct seen (w ∷ g) ≡ true → length seen + length g ≤ 254 →
    2 + (length C + 1) + 2 * (length B + length seen + 1 + length g) + (length A + length (flatten seen ++ w) + length (flatten g))
    ≤ greatest_stretch →
    Goes (A ++ (flatten seen ++ w) ++ flatten g) (B ++ map length seen ++ (length w ∷ map length g))
    (C ++ ((length seen + 1 + length g) ∷ [])) l v n nothing s →
    Goes (A ++ (flatten seen ++ w)) (B ++ map length seen) C (length (flatten g) + l) (suc (length g) + v) (suc n)
    (inside (length seen) (length (flatten seen ++ w)) (length w)) (listed 0x2C g ++ s)
unfolding listed flatten distinct all
listed-go [] A B C seen w l v n s e f k d few fits g =
    let a : List ℕ = A ++ (flatten seen ++ w) in
    let b : List ℕ = B ++ map length seen in
    let m : ℕ = length (flatten seen ++ w) in
    let new : among w seen ≡ false = not-true (among w seen) (and_left (not (among w seen)) true d) in
    let fit = open-fits A B C seen w 0 (omega arith) (omega arith) in
    let none : 0 + l ≡ l = omega arith in
    let one : 1 + v ≡ suc v = omega arith in
    let count : length seen + 1 + 0 ≡ length seen + 1 = omega arith in
    let rest : Goes a (b ++ (length w ∷ [])) (C ++ ((length seen + 1) ∷ [])) l v n nothing s =
    goes-as (append-nil a) refl (ap (λ (i : ℕ). C ++ (i ∷ [])) count) refl refl refl refl refl g in
    goes-as refl refl refl (sym none) (sym one) refl refl refl
    (close-goes a b C (length seen) m (length w) l v n s (not-repeated A B (length C) seen w e f new) fit rest)
listed-go (x ∷ g) A B C seen w l v n s e f k d few fits h =
    let a : List ℕ = A ++ (flatten seen ++ w) in
    let b : List ℕ = B ++ map length seen in
    let m : ℕ = length (flatten seen ++ w) in
    let t : List ℕ = listed 0x2C g ++ s in
    let new : among w seen ≡ false = not-true (among w seen) (and_left (not (among w seen)) (distinct (seen ++ (w ∷ [])) (x ∷ g)) d) in
    let own : length (x ++ flatten g) ≡ length x + length (flatten g) = length-append x (flatten g) in
    let fit = open-fits A B C seen w 1 (omega arith) (omega arith) in
    let fit' = next_fits A B C seen w (length x) (omega arith) (omega (arith, own)) in
    let capital-x : every capital x ≡ true = and_left (every capital x) (all (every capital) g) k in
    let seen' : Segment = seen ++ (w ∷ []) in
    let spelt : flatten seen' ≡ flatten seen ++ w = flatten-more seen (w ∷ []) ∙ ap (λ (r : List ℕ). flatten seen ++ r) (append-nil w) in
    let stated : map length seen' ≡ map length seen ++ (length w ∷ []) = map-append length seen (w ∷ []) in
    let number : length seen' ≡ length seen + 1 = length-append seen (w ∷ []) in
    let letters : A ++ (flatten seen' ++ x) ≡ a ++ x =
    ap (λ (r : List ℕ). A ++ (r ++ x)) spelt ∙ sym (append_assoc A (flatten seen ++ w) x) in
    let lengths : B ++ map length seen' ≡ b ++ (length w ∷ []) =
    ap (λ (r : List ℕ). B ++ r) stated ∙ sym (append_assoc B (map length seen) (length w ∷ [])) in
    let total : length (flatten seen' ++ x) ≡ m + length x =
    ap (λ (r : List ℕ). length (r ++ x)) spelt ∙ length-append (flatten seen ++ w) x in
    let open' : inside (length seen') (length (flatten seen' ++ x)) (length x) ≡ inside (length seen + 1) (m + length x) (0 + length x) =
    let zero-x : length x ≡ 0 + length x = omega arith in (λ i. inside (number i) (total i) (zero-x i)) in
    let end : Goes (A ++ (flatten seen' ++ x) ++ flatten g) (B ++ map length seen' ++ (length x ∷ map length g))
    (C ++ ((length seen' + 1 + length g) ∷ [])) l v n nothing s =
    let p : a ++ (x ++ flatten g) ≡ A ++ (flatten seen' ++ x) ++ flatten g =
    sym (append_assoc a x (flatten g)) ∙ ap (λ (r : List ℕ). r ++ flatten g) (sym letters) in
    let q : b ++ (length w ∷ (length x ∷ map length g)) ≡ B ++ map length seen' ++ (length x ∷ map length g) =
    sym (append_assoc b (length w ∷ []) (length x ∷ map length g)) ∙ ap (λ (r : List ℕ). r ++ (length x ∷ map length g)) (sym lengths) in
    let c : length seen + 1 + suc (length g) ≡ length seen' + 1 + length g = omega (arith, number) in
    goes-as p q (ap (λ (i : ℕ). C ++ (i ∷ [])) c) refl refl refl refl refl h in
    let rest : Goes (A ++ (flatten seen' ++ x)) (B ++ map length seen') C (length (flatten g) + l) (suc (length g) + v) (suc n)
    (inside (length seen') (length (flatten seen' ++ x)) (length x)) t =
    listed-go g A B C seen' x l v n s capital-x (snoc-capitals seen w f e) (and_right (every capital x) (all (every capital) g) k)
    (and_right (not (among w seen)) (distinct seen' (x ∷ g)) d) (omega (arith, number)) (omega (arith, number, total, own)) end in
    let variant : Goes a (b ++ (length w ∷ [])) C (length x + (length (flatten g) + l)) (suc (length g) + v) (suc n)
    (inside (length seen + 1) m 0) (x ++ t) =
    letters-go x a (b ++ (length w ∷ [])) C (length seen + 1) m 0 (length (flatten g) + l) (suc (length g) + v) (suc n) t
    (capitals-letters x capital-x) fit' (goes-as letters lengths refl refl refl refl open' refl rest) in
    let z : length x + (length (flatten g) + l) ≡ length (x ++ flatten g) + l = omega (arith, own) in
    let y : suc (suc (length g) + v) ≡ suc (suc (length g)) + v = omega arith in
    let signs : 0x2C ∷ (x ++ t) ≡ 0x2C ∷ (x ++ listed 0x2C g ++ s) = ap (λ (r : List ℕ). 0x2C ∷ r) (sym (append_assoc x (listed 0x2C g) s)) in
    goes-as refl refl refl z y refl refl signs
    (comma-goes a b C (length seen) m (length w) (length x + (length (flatten g) + l)) (suc (length g) + v) (suc n) (x ++ t)
    (not-repeated A B (length C) seen w e f new) (omega arith) fit variant)

-- a segment
segment-goes :
    (g : Segment) (A B C : List ℕ) (l v n : ℕ) (s : List ℕ) → writable_segment g ≡ true →
    2 + (length C + 1) + 2 * (length B + length g) + (length A + length (flatten g)) ≤ greatest_stretch →
    Goes (A ++ flatten g) (B ++ map length g) (C ++ (length g ∷ [])) l v n nothing s →
    Goes A B C (length (flatten g) + l) (length g + v) (suc n) nothing (braced g ++ s)
unfolding listed flatten all
segment-goes [] A B C l v n s e fits g = absurd (let z : ⊥ = omega (arith, (some-letters [] e).0) in z)
segment-goes (w ∷ g) A B C l v n s e fits h =
    let t : List ℕ = listed 0x2C g ++ s in
    let own : length (w ++ flatten g) ≡ length w + length (flatten g) = length-append w (flatten g) in
    let few : suc (length g) ≤ 255 = (some-letters (w ∷ g) e).1 in
    let (capitals, once) = some-capitals (w ∷ g) e in
    let capital-w : every capital w ≡ true = and_left (every capital w) (all (every capital) g) capitals in
    let fit : Fitting (tape_of (length A) (length B) (length C) (inside 0 0 0)) (length w) 0 =
    record { spelt = omega arith; letters = omega arith; lengths = omega arith; variants = omega arith; bytes = omega (arith, own) } in
    let none : B ++ [] ≡ B = append-nil B in
    let p : A ++ (w ++ flatten g) ≡ A ++ w ++ flatten g = sym (append_assoc A w (flatten g)) in
    let q : B ++ (length w ∷ map length g) ≡ B ++ [] ++ (length w ∷ map length g) =
    ap (λ (r : List ℕ). r ++ (length w ∷ map length g)) (sym none) in
    let c : suc (length g) ≡ 0 + 1 + length g = omega arith in
    let end : Goes (A ++ w ++ flatten g) (B ++ [] ++ (length w ∷ map length g)) (C ++ ((0 + 1 + length g) ∷ [])) l v n nothing s =
    goes-as p q (ap (λ (i : ℕ). C ++ (i ∷ [])) c) refl refl refl refl refl h in
    let rest : Goes (A ++ w) (B ++ []) C (length (flatten g) + l) (suc (length g) + v) (suc n) (inside 0 (length w) (length w)) t =
    listed-go g A B C [] w l v n s capital-w refl (and_right (every capital w) (all (every capital) g) capitals) once (omega arith)
    (omega (arith, own)) end in
    let zero-w : length w ≡ 0 + length w = omega arith in
    let variant : Goes A B C (length w + (length (flatten g) + l)) (suc (length g) + v) (suc n) brace (w ++ t) =
    letters-go w A B C 0 0 0 (length (flatten g) + l) (suc (length g) + v) (suc n) t (capitals-letters w capital-w) fit
    (goes-as refl none refl refl refl refl (λ i. inside 0 (zero-w i) (zero-w i)) refl rest) in
    let z : length w + (length (flatten g) + l) ≡ length (w ++ flatten g) + l = omega (arith, own) in
    let signs : 0x7B ∷ (w ++ t) ≡ 0x7B ∷ (w ++ listed 0x2C g ++ s) = ap (λ (r : List ℕ). 0x7B ∷ r) (sym (append_assoc w (listed 0x2C g) s)) in
    goes-as refl refl refl z refl refl refl signs
    (brace-goes A B C (length w + (length (flatten g) + l)) (suc (length g) + v) (suc n) (w ++ t) variant)

none-goes : (A B C : List ℕ) → Goes A B C 0 0 0 nothing []
unfolding Goes read_on
none-goes A B C R S Q i j h at =
    record { tape = tape_of (length A) (length B) (length C) nothing; left = buffers (A ++ R) (B ++ S) (C ++ Q); is = refl }

-- a text, where its segments have room after what is filled
text-goes :
    (t : Text) (A B C : List ℕ) → all writable_segment t ≡ true →
    2 + length C + 2 * length B + length A + length (bytes_of encode_segment t) ≤ greatest_stretch →
    Goes A B C (length (letters_of t)) (length (lengths_of t)) (length (counts_of t)) nothing (bytes_of braced t)
unfolding all bytes_of flatten letters_of lengths_of counts_of encode_segment
text-goes [] A B C e fits = none-goes A B C
text-goes (g ∷ t) A B C e fits =
    let sized = length-append (length g ∷ bytes_of encode_variant g) (bytes_of encode_segment t) in
    let own = variant-bytes g in
    let a : length (A ++ flatten g) ≡ length A + length (flatten g) = length-append A (flatten g) in
    let b : length (B ++ map length g) ≡ length B + length g =
    length-append B (map length g) ∙ ap (λ (i : ℕ). length B + i) (length-map g length) in
    let c : length (C ++ (length g ∷ [])) ≡ length C + 1 = length-append C (length g ∷ []) in
    let letters : length (flatten g) + length (flatten (flatten t)) ≡ length (flatten (g ++ flatten t)) =
    sym (ap length (flatten-more g (flatten t)) ∙ length-append (flatten g) (flatten (flatten t))) in
    let lengths : length g + length (map length (flatten t)) ≡ length (map length (g ++ flatten t)) =
    sym (length-map (g ++ flatten t) length ∙ length-append g (flatten t) ∙ ap (λ (i : ℕ). length g + i) (sym (length-map (flatten t) length))) in
    goes-as refl refl refl letters lengths refl refl refl
    (segment-goes g A B C (length (letters_of t)) (length (lengths_of t)) (length (counts_of t)) (bytes_of braced t)
    (and_left (writable_segment g) (all writable_segment t) e) (omega (arith, sized, own))
    (text-goes t (A ++ flatten g) (B ++ map length g) (C ++ (length g ∷ [])) (and_right (writable_segment g) (all writable_segment t) e)
    (omega (arith, sized, own, a, b, c))))

-- the notation of a text that can be written
pub read_whole :
    (t : Text) → writable t ≡ true → (letters lengths counts : List ℕ) → length (letters_of t) ≤ length letters →
    length (lengths_of t) ≤ length lengths → length (counts_of t) ≤ length counts →
    Whole (read_on empty_tape (buffers letters lengths counts) 0 (in_braces t))
unfolding Goes writable in_braces encode
read_whole t w letters lengths counts a b c =
    let fits = leb-true (length (encode t)) greatest_stretch (and_right (all writable_segment t) _ w) in
    let room : 2 + 0 + 2 * 0 + 0 + length (bytes_of encode_segment t) ≤ greatest_stretch = small t fits in
    text-goes t [] [] [] (and_left (all writable_segment t) _ w) room letters lengths counts a b c 0
