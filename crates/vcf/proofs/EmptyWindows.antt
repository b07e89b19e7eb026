-- An empty window: it has no base, so every record lies outside it, and its text has no segments.
use Prim.Native.Nat.{ℕ, suc, ◌≤◌, ◌<◌}
use mathlib.Core.Path.{◌≡◌, refl}
use mathlib.Core.Bool.{Bool, true, false, ◌||◌, ◌&&◌, cond}
use mathlib.Core.List.{List, [], ◌∷◌}
use borrow.Author.Tests.{leb-true, le-leb, ltb-true, lt-ltb}
use lib.Dec.{leb, ltb}
use Rattle.text.specs.Letter.{every}
use Rattle.text.specs.Compare.{prefix}
use Rattle.text.specs.Refusal.{ok, demand, after}
use Rattle.text.proofs.Outcomes.{demand-met, after-met}
use Rattle.text.proofs.Truth.{and_left, and_right}
use Rattle.layout.specs.Bytes.{word_bytes}
use Rattle.layout.specs.Encoding.{bytes_of, encode}
use Rattle.writer.specs.Putting.{once, putting}
use Rattle.vcf.specs.Pieces.{lines}
use Rattle.vcf.specs.Records.{heading, position, reference, behind, is_record, placed, outside, agrees, passed_over, comment, fitting}
use Rattle.vcf.specs.Records.{records, noted}
use Rattle.vcf.specs.Building.{gap, text_from, building}

-- records that are right wherever they lie: each is a sound one of the chromosome of that name, and begins not before `from`, where the one
-- before it ends
unfoldable pub Sound : List ℕ → ℕ → List (List ℕ) → Type 0
Sound name from [] = Unit {0}
Sound name from (l ∷ ls) = (is_record name l ≡ true) × (from ≤ position l) × Sound name (behind l) ls

-- none of them is in an empty window
none_kept : (name : List ℕ) (p : ℕ) (ls : List (List ℕ)) (n from : ℕ) → Sound name from (noted ls) → records name [] p n from ls ≡ ok []
unfolding records noted Sound fitting outside
none_kept name p [] n from k = refl
none_kept name p (l ∷ ls) n from k =
    cases (comment l) k (none_kept name p ls (suc n) from) (none_kept name p ls (suc n) (behind l))
  where
    cases :
        (b : Bool) → Sound name from (cond b (noted ls) (l ∷ noted ls)) →
        (Sound name from (noted ls) → records name [] p (suc n) from ls ≡ ok []) →
        (Sound name (behind l) (noted ls) → records name [] p (suc n) (behind l) ls ≡ ok []) →
        cond b (records name [] p (suc n) from ls)
        (demand (fitting name [] p from l) 19 n
        (after (records name [] p (suc n) (behind l) ls) λ xs. ok (cond (passed_over [] p l) xs (l ∷ xs))))
        ≡ ok []
    cases true k i j = i k
    cases false k i j = rw (k.0, le-leb from (position l) k.1, j k.2)

-- and an accepted file has such records alone
pub sound-only : (name : List ℕ) (p : ℕ) (ls rs : List (List ℕ)) (n from : ℕ) → records name [] p n from ls ≡ ok rs
    → Sound name from (noted ls)
unfolding records noted Sound fitting
sound-only name p [] rs n from e = tt
sound-only name p (l ∷ ls) rs n from e =
    cases (comment l) e (sound-only name p ls rs (suc n) from) (λ xs. sound-only name p ls xs (suc n) (behind l))
  where
    late : Bool
    late = leb from (position l)

    lies : Bool
    lies = passed_over [] p l || agrees [] p (position l) (reference l)

    cases :
        (b : Bool) → cond b (records name [] p (suc n) from ls)
        (demand (is_record name l && late && lies) 19 n
        (after (records name [] p (suc n) (behind l) ls) λ xs. ok (cond (passed_over [] p l) xs (l ∷ xs))))
        ≡ ok rs →
        (records name [] p (suc n) from ls ≡ ok rs → Sound name from (noted ls)) →
        ((xs : List (List ℕ)) → records name [] p (suc n) (behind l) ls ≡ ok xs → Sound name (behind l) (noted ls)) →
        Sound name from (cond b (noted ls) (l ∷ noted ls))
    cases true h i j = i h
    cases false h i j =
        let (fits, more) = demand-met (is_record name l && late && lies) 19 n _ rs h in
        let right = and_left (is_record name l && late) lies fits in
        let (xs, rest, _) = after-met (records name [] p (suc n) (behind l) ls) _ rs more in
        (and_left (is_record name l) late right, leb-true from (position l) (and_right (is_record name l) late right), j xs rest)

-- a text of no segments has two bytes
pub nothing-encoded : encode [] ≡ 0 ∷ 0 ∷ []
unfolding encode word_bytes bytes_of
nothing-encoded = refl

-- where nothing is refused before, it is the room that is asked
pub nothing_put :
    (file : List ℕ) (p : ℕ) (name : List ℕ) (room : ℕ) → 0 < p → prefix heading file ≡ true → Sound name 0 (noted (lines file)) →
    building file [] p name room ≡ demand (leb 2 room) 15 0 (ok [])
unfolding building placed every text_from gap putting once encode word_bytes bytes_of
nothing_put file p name room some begun sound = rw (lt-ltb 0 p some, begun, none_kept name p (lines file) 1 0 sound)

-- a window at position 0 is refused
pub some-placed : (p : ℕ) → placed [] p ≡ true → 0 < p
unfolding placed
some-placed p e = ltb-true 0 p (and_left (ltb 0 p) _ e)
