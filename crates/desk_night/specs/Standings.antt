-- The standings of the sequences of a list, asked together.
use Rattle.std.specs.Prelude.{ℕ, zero, suc, ◌+◌, Bool, cond, List, eqb, ltb, get_or}
use Rattle.desk_verdict.specs.declared.standing.Standing.{Standing}

-- where sequence k stands; past the last of them, all numbers are 0
abbrev pub standing_at : List Standing → ℕ → Standing
standing_at xs k = get_or xs k (record { state = record { given = 0; opposite = 0 }; segments = 0; ends = 0 })

-- sequence k has not ended
abbrev pub going : List Standing → ℕ → Bool
going xs k = eqb (standing_at xs k).ends 0

-- how many of the first n sequences have not ended
unfoldable pub going_in : ℕ → List Standing → ℕ
going_in zero xs = 0
going_in (suc n) xs = cond (going xs n) 1 0 + going_in n xs

-- one of the first n sequences has ended
unfoldable pub some_end : ℕ → List Standing → Bool
some_end n xs = ltb (going_in n xs) n

-- all of the first n sequences have ended
unfoldable pub all_end : ℕ → List Standing → Bool
all_end n xs = eqb (going_in n xs) 0
