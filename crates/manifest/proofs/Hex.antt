-- Laws of hex digits, and of a line that begins with them.
use Prim.Native.Nat.{ℕ, suc, ◌+◌, ◌*◌, ◌/◌, ◌%◌, ◌≤◌, ◌<◌}
use native.Mathlib.Omega.{arith}
use mathlib.Core.Path.{◌≡◌, refl, sym, ap, ◌∙◌}
use mathlib.Core.List.{List, [], ◌∷◌, ◌++◌, append-nil, append_assoc}
use lib.ListN.{length, drop, get_or, drop_of_length-le}
use lib.Seq.{drop-cons}
use Rattle.digest.specs.Blake2b.{blake2b256}
use Rattle.lines.specs.Puts.{Put}
use Rattle.lines.proofs.Putting.{put-none, put-more}
use Rattle.manifest.specs.Line.{blanks}
use Rattle.manifest.specs.Written.{glyph, hex_of, entry_for, entry_line}

pub hex-length : (s : List ℕ) → length (hex_of s) ≡ 2 * length s
unfolding hex_of
hex-length [] = refl
hex-length (b ∷ s) = let rest : length (hex_of s) ≡ 2 * length s = hex-length s in omega arith

-- the digits of the first i bytes are put, and those from byte i on come next
pub record Spelling (bytes d : List ℕ) (at : ℕ) (out : List ℕ) (next i : ℕ) : Type 0 where
  pub upto : i ≤ length bytes
  pub done : List ℕ
  pub split : hex_of bytes ≡ done ++ hex_of (drop i bytes)
  pub put : Put d at done out next

pub spelling-none : (bytes d : List ℕ) (at : ℕ) → Spelling bytes d at d at 0
spelling-none bytes d at = record { upto = omega arith; done = []; split = refl; put = put-none d at }

module _ {bytes d : List ℕ} {at : ℕ} {out : List ℕ} {next i : ℕ} (s : Spelling bytes d at out next i) where
  pub spelling-more :
      {high low : ℕ} {after : List ℕ} {end : ℕ} → i < length bytes → high ≡ glyph (get_or bytes i 0 / 16) →
      low ≡ glyph (get_or bytes i 0 % 16) → Put out next (high ∷ low ∷ []) after end → Spelling bytes d at after end (i + 1)
  unfolding hex_of
  spelling-more {high} {low} l h k p =
      let one : i + 1 ≡ suc i = omega arith in
      let more : hex_of (drop i bytes) ≡ (high ∷ low ∷ []) ++ hex_of (drop (i + 1) bytes) = rw (one, drop-cons bytes i 0 l, h, k) refl in
      record {
        upto = omega arith;
        done = s.done ++ (high ∷ low ∷ []);
        split = s.split ∙ rw more (sym (append_assoc s.done (high ∷ low ∷ []) (hex_of (drop (i + 1) bytes))));
        put = put-more s.put p;
      }

  pub spelling-end : length bytes ≤ i → Put d at (hex_of bytes) out next
  unfolding hex_of
  spelling-end l =
      let none : hex_of (drop i bytes) ≡ [] = rw (drop_of_length-le bytes l) refl in
      let all : hex_of bytes ≡ s.done = s.split ∙ ap (λ (t : List ℕ). s.done ++ t) none ∙ append-nil s.done in
      rw all s.put

-- a stretch's line, piece by piece
pub stretch-put :
    {d o p q out : List ℕ} {at a b c next : ℕ} {digest : List ℕ} (stretch name : List ℕ) → digest ≡ blake2b256 stretch →
    Put d at (hex_of digest) o a → Put o a blanks p b → Put p b name q c → Put q c (10 ∷ []) out next →
    Put d at (entry_line (entry_for stretch name)) out next
unfolding entry_line
stretch-put {d} {o} {p} {q} {out} {at} {a} stretch name is first second third last =
    let front : Put d at (hex_of (blake2b256 stretch)) o a = rw is at first in
    put-more (put-more (put-more front second) third) last
