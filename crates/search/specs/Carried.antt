-- What a state carries, by document 01: "how many pattern lengths are carried and the shortest of them (0 if none)", of any
-- 64-bit number, bit 0 disregarded.
use Rattle.std.specs.Prelude.{ℕ, zero, suc, Bool, true, false, List, [], ◌∷◌, length}
use Rattle.text.specs.Bits.{bit}
use Rattle.search.specs.declared.state.Carried.{Carried}

-- r in front of l where a test holds
abbrev pub keep : Bool → ℕ → List ℕ → List ℕ
keep true r l = r ∷ l
keep false r l = l

-- those of the n numbers from r on that pass the test f, in rising order
unfoldable pub passing : (ℕ → Bool) → ℕ → ℕ → List ℕ
passing f r zero = []
passing f r (suc n) = keep (f r) r (passing f (suc r) n)

-- the carried lengths, 1 to 63, in rising order
unfoldable pub carried_lengths : ℕ → List ℕ
carried_lengths st = passing (bit st) 1 63

-- the first member of a list, or e if there is none
abbrev pub first_or : ℕ → List ℕ → ℕ
first_or e [] = e
first_or e (r ∷ l) = r

-- what a number carries: how many lengths, and the shortest of them
unfoldable pub carried_by : ℕ → Carried
carried_by st = record { count = length (carried_lengths st); shortest = first_or 0 (carried_lengths st) }
