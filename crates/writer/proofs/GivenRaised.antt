-- Letters that a write raises: what they are cut into, and that they are as many.
use Prim.Native.Nat.{ℕ}
use mathlib.Core.Path.{◌≡◌, refl, sym, ap, ap₂, ◌∙◌}
use mathlib.Core.List.{List, [], ◌∷◌, map}
use lib.ListN.{drop}
use Rattle.text.specs.Letter.{meant}
use Rattle.text.proofs.Likes.{meant-length}
use Rattle.layout.specs.Encoding.{raised_text}
use Rattle.layout.proofs.Raised.{take-map, drop-map}
use Rattle.writer.specs.Cuts.{cut}
use Rattle.writer.specs.Writing.{Matching, given, needed}

-- what is cut from raised letters is what was cut from the letters, raised
cut-map : {A B : Type 0} (f : A → B) (ns : List ℕ) (l : List A) → cut ns (map f l) ≡ map (map f) (cut ns l)
unfolding cut
cut-map f [] l = refl
cut-map f (n ∷ ns) l =
    ap₂ ◌∷◌ (take-map f n l) (ap (cut ns) (drop-map f n l) ∙ cut-map f ns (drop n l))

pub given-raised : (letters lengths counts : List ℕ) → given (meant letters) lengths counts ≡ raised_text (given letters lengths counts)
unfolding given raised_text
given-raised letters lengths counts = ap (cut counts) (cut-map _ lengths letters) ∙ cut-map meant counts (cut lengths letters)

-- raised letters are as many
pub matching-meant : {letters lengths counts : List ℕ} → Matching letters lengths counts → Matching (meant letters) lengths counts
matching-meant {letters} m = record { listed = m.listed; spelt = m.spelt ∙ sym (meant-length letters) }

pub needed-meant : (letters lengths counts : List ℕ) → needed (meant letters) lengths counts ≡ needed letters lengths counts
unfolding needed
needed-meant letters lengths counts = rw (meant-length letters)
