-- Bases and letters: which bytes a pattern and a variant are made of, and what they mean.
use Rattle.std.specs.Prelude.{ℕ, suc, ◌<◌, ◌≡◌, Bool, true, not, ◌||◌, ◌&&◌, cond, List, [], ◌∷◌, map, eqb, leb, ltb, length, get_or}
use Rattle.text.specs.declared.letter.Letter.{Letter}
use Rattle.text.specs.declared.letter.Letter.TheVariants.{Base, Unknown, None}

-- A, C, G or T: what a pattern is made of
unfoldable pub base : ℕ → Bool
base c = eqb c 0x41 || eqb c 0x43 || eqb c 0x47 || eqb c 0x54

-- N: nothing is known of this base
abbrev pub unknown : ℕ
unknown = 0x4E

-- a, c, g, t and n raised to upper case; every other byte is its own
unfoldable pub raised : ℕ → ℕ
raised c =
    cond (eqb c 0x61) 0x41
    (cond (eqb c 0x63) 0x43 (cond (eqb c 0x67) 0x47 (cond (eqb c 0x74) 0x54 (cond (eqb c 0x6E) unknown c))))

-- a letter in upper case: a base or N. A text's letters are these, whatever case its bytes have
unfoldable pub capital : ℕ → Bool
capital c = base c || eqb c unknown

-- what a variant's bytes are made of: such a letter, in upper or lower case
unfoldable pub letter : ℕ → Bool
letter c = capital (raised c)

-- what a byte means: a base, that none is known, or nothing
unfoldable pub meaning_of : ℕ → Letter
meaning_of c = cond (base (raised c)) (Base (raised c)) (cond (eqb (raised c) unknown) Unknown None)

-- what the bytes of a variant spell: its letters in upper case
abbrev pub meant : List ℕ → List ℕ
meant s = map raised s

-- every byte passes the test
unfoldable pub every : (ℕ → Bool) → List ℕ → Bool
every f [] = true
every f (c ∷ s) = f c && every f s

-- the place of the first byte that fails the test; the length where none does
unfoldable pub first_not : (ℕ → Bool) → List ℕ → ℕ
first_not f [] = 0
first_not f (c ∷ s) = cond (f c) (suc (first_not f s)) 0

-- a table with 0 for each letter and 1 for every other byte
pub record Classes (table : List ℕ) : Type 0 where
  pub full : length table ≡ 256
  pub each : (c : ℕ) → c < 256 → get_or table c 0 ≡ cond (letter c) 0 1

-- a table of 256 numbers has 0 for a byte
abbrev pub zero_for : List ℕ → ℕ → Bool
zero_for table c = ltb c 256 && eqb (get_or table c 0) 0

-- whether one of the bytes is wrong by a table: it has not 0 for it. Of 16 bytes and more the table is not asked: wrong is what is no letter
unfoldable pub wrong_by : List ℕ → List ℕ → Bool
wrong_by table v = cond (leb 16 (length v)) (not (every letter v)) (not (every (zero_for table) v))
