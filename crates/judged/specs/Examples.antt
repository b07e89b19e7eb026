-- The starred examples of document 01, one row each: what the definitions give, compared with what document 01 says.
use Rattle.std.specs.Prelude.{ℕ, ◌+◌, ◌^◌, Bool, false, ◌&&◌, List, [], ◌∷◌, ◌++◌, length, take, ◌==◌, nat_eq}
use Rattle.text.specs.Compare.{same}
use Rattle.text.specs.Text.{Variant, Segment, Text, size}
use Rattle.text.specs.State.{fresh, run, marks}
use Rattle.text.specs.Refusal.{Outcome, ok, refused}
use Rattle.text.specs.Card.{Card, none, row, card_of, join}
use Rattle.layout.specs.Encoding.{encode}
use Rattle.layout.specs.Reading.{stretch_of}

-- the letters
abbrev A : ℕ
A = 65

abbrev C : ℕ
C = 67

abbrev G : ℕ
G = 71

abbrev T : ℕ
T = 84

-- the empty variant
abbrev e : Variant
e = []

-- D: GATTA in {CGA,G}{e,T}{TTAC,AT}{TA,e}{A,GATTAG}
abbrev gatta : List ℕ
gatta = G ∷ A ∷ T ∷ T ∷ A ∷ []

abbrev first_two : Text
first_two = ((C ∷ G ∷ A ∷ []) ∷ (G ∷ []) ∷ []) ∷ (e ∷ (T ∷ []) ∷ []) ∷ []

abbrev last_three : Text
last_three =
    ((T ∷ T ∷ A ∷ C ∷ []) ∷ (A ∷ T ∷ []) ∷ [])
    ∷ ((T ∷ A ∷ []) ∷ e ∷ [])
    ∷ ((A ∷ []) ∷ (G ∷ A ∷ T ∷ T ∷ A ∷ G ∷ []) ∷ [])
    ∷ []

abbrev d : Text
d = first_two ++ last_three

-- the state that carries the lengths listed
abbrev carrying : List ℕ → ℕ
carrying [] = fresh
carrying (r ∷ l) = 2 ^ r + carrying l

-- row q of a card exits to that state with that first end
abbrev row_is : Card → ℕ → ℕ → ℕ → Bool
row_is c q exit first = (row c.rows q).exit == exit && (row c.rows q).first == first

-- an outcome that is accepted with a value that passes
abbrev accepts : {B : Type 0} → Outcome B → (B → Bool) → Bool
accepts (ok b) test = test b
accepts (refused n p) test = false

-- an outcome that is refused with that number and place
abbrev refuses : {B : Type 0} → Outcome B → ℕ → ℕ → Bool
refuses (ok b) n p = false
refuses (refused m q) n p = m == n && q == p

abbrev front : Card
front = card_of gatta first_two

abbrev back : Card
back = card_of gatta last_three

-- {A,e} and {AA}
abbrev maybe : Segment
maybe = (A ∷ []) ∷ e ∷ []

abbrev twice : Segment
twice = (A ∷ A ∷ []) ∷ []

-- the table
unfoldable pub table : List Bool
table =
    -- D
    same (marks gatta d) (0 ∷ 0 ∷ 1 ∷ 1 ∷ 1 ∷ [])
    ∷ (size d == 22)
    ∷ (length (encode d) == 47)
    ∷ (run gatta fresh (take 1 d) == carrying (1 ∷ 2 ∷ []))
    ∷ (run gatta fresh (take 2 d) == carrying (1 ∷ 2 ∷ 3 ∷ []))
    ∷ (run gatta fresh (take 3 d) == carrying (3 ∷ []))
    ∷ (run gatta fresh (take 4 d) == carrying (3 ∷ []))
    ∷ (run gatta fresh d == carrying (1 ∷ []))
    -- the cards of its first two and of its last three segments, and their join
    ∷ row_is front 0 (carrying (1 ∷ 2 ∷ 3 ∷ [])) none
    ∷ row_is back 0 (carrying (1 ∷ [])) 2
    ∷ row_is back 1 0 1
    ∷ row_is back 2 0 0
    ∷ row_is back 3 0 none
    ∷ row_is back 4 0 0
    ∷ accepts (join front back) (λ c. row_is c 0 (carrying (1 ∷ [])) 2)
    -- short ones
    ∷ same (marks (A ∷ []) (((A ∷ []) ∷ []) ∷ [])) (1 ∷ [])
    ∷ same (marks (A ∷ []) ((e ∷ []) ∷ [])) (0 ∷ [])
    ∷ same (marks (A ∷ C ∷ []) (((A ∷ []) ∷ []) ∷ (e ∷ []) ∷ ((C ∷ []) ∷ []) ∷ [])) (0 ∷ 0 ∷ 1 ∷ [])
    ∷ same (marks (A ∷ C ∷ []) (((A ∷ []) ∷ []) ∷ ((C ∷ []) ∷ []) ∷ (e ∷ []) ∷ [])) (0 ∷ 1 ∷ 0 ∷ [])
    ∷ same (marks (A ∷ A ∷ []) (maybe ∷ [])) (0 ∷ [])
    ∷ same (marks (A ∷ A ∷ []) (maybe ∷ maybe ∷ maybe ∷ [])) (0 ∷ 1 ∷ 1 ∷ [])
    ∷ same (marks (A ∷ A ∷ A ∷ []) (twice ∷ twice ∷ [])) (0 ∷ 1 ∷ [])
    -- stretches in hex
    ∷ accepts (stretch_of (0 ∷ 0 ∷ [])) (λ t. nat_eq (length t) 0)
    ∷ refuses (stretch_of (1 ∷ 0 ∷ 2 ∷ 0 ∷ 0 ∷ 0 ∷ 0 ∷ [])) 8 5
    ∷ accepts (stretch_of (1 ∷ 0 ∷ 1 ∷ 0 ∷ 0 ∷ [])) (λ t. nat_eq (length t) 1)
    ∷ []
