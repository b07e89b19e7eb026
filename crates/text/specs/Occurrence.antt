-- Occurrences, as Grossi et al. state them (CPM 2017, section 2): relations, with nothing computed.
use Rattle.std.specs.Prelude.{ℕ, suc, ◌<◌, ◌≡◌, ◌⊎◌, length, take, drop}
use mathlib.Core.List.{List, [], ◌∷◌, ◌++◌, Memᴰ}
use Rattle.text.specs.Text.{Variant, Segment, Text, segment}

-- s begins with p
pub record Prefix (p s : List ℕ) : Type 0 where
  pub rest : List ℕ
  pub split : s ≡ p ++ rest

-- s ends with p
pub record Suffix (p s : List ℕ) : Type 0 where
  pub start : List ℕ
  pub split : s ≡ start ++ p

-- p lies in s
pub record Inside (p s : List ℕ) : Type 0 where
  pub start : List ℕ
  pub rest : List ℕ
  pub split : s ≡ start ++ (p ++ rest)

-- some variant of the segment g is as A says
pub record Some (g : Segment) (A : Variant → Type 0) : Type 0 where
  pub variant : Variant
  pub listed : Memᴰ variant g
  pub is : A variant

-- w is one whole variant, perhaps empty, of each segment of T, end to end
abbrev pub Spells : Text → List ℕ → Type 0
Spells [] w = w ≡ []
Spells (g ∷ T) w = Some g (λ s. (u : List ℕ) × Spells T u × (w ≡ s ++ u))

-- the segments strictly between i and j
abbrev pub between : Text → ℕ → ℕ → Text
between T i j = drop (suc i) (take j T)

-- w splits into a non-empty suffix of a variant of i and one whole variant of each segment strictly between i and j
pub record Reaches (w : List ℕ) (T : Text) (i j : ℕ) : Type 0 where
  pub start : List ℕ
  pub rest : List ℕ
  pub split : w ≡ start ++ rest
  pub some : 0 < length start
  pub begun : Some (segment T i) (Suffix start)
  pub passed : Spells (between T i j) rest

-- P splits into what reaches from i up to j and a non-empty prefix of a variant of j
pub record Across (P : List ℕ) (T : Text) (i j : ℕ) : Type 0 where
  pub front : List ℕ
  pub last : List ℕ
  pub split : P ≡ front ++ last
  pub some : 0 < length last
  pub before : Reaches front T i j
  pub ended : Some (segment T j) (Prefix last)

-- P has an occurrence ending in segment j
abbrev pub EndsIn : List ℕ → Text → ℕ → Type 0
EndsIn P T j = Some (segment T j) (Inside P) ⊎ ((i : ℕ) × (i < j) × Across P T i j)

-- P has an occurrence from segment i to segment j: inside one variant of a single segment, or across from i to a later j
abbrev pub Occurs : List ℕ → Text → ℕ → ℕ → Type 0
Occurs P T i j = ((i ≡ j) × Some (segment T j) (Inside P)) ⊎ ((i < j) × Across P T i j)

-- P has an occurrence beginning in segment i
abbrev pub BeginsIn : List ℕ → Text → ℕ → Type 0
BeginsIn P T i = (j : ℕ) × Occurs P T i j

-- length r of P is carried out of segment j
abbrev pub CarriedOut : List ℕ → Text → ℕ → ℕ → Type 0
CarriedOut P T j r =
    Some (segment T j) (Suffix (take r P)) ⊎ ((i : ℕ) × (i < j) × Reaches (take r P) T i (suc j))

-- a lone q carried in leaves T as length r: one whole variant of each segment spells the bases from q up to r
pub record Passes (P : List ℕ) (q : ℕ) (T : Text) (r : ℕ) : Type 0 where
  pub passed : List ℕ
  pub spelt : Spells T passed
  pub split : take r P ≡ take q P ++ passed

-- a lone q carried in ends an occurrence in segment j: it passes those before j, and what is left begins a variant of j
pub record Finishes (P : List ℕ) (q : ℕ) (T : Text) (j : ℕ) : Type 0 where
  pub at : ℕ
  pub short : at < length P
  pub before : Passes P q (take j T) at
  pub ended : Some (segment T j) (Prefix (drop at P))
