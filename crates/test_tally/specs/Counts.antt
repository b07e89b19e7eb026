-- How many answers were compared, in all and group by group, and how many of them differ. Counts go on modulo 2 ^ 64.
use Rattle.std.specs.Prelude.{ℕ, ◌+◌, ◌%◌, ◌^◌, cond, List, slice_index, slice_set, Some}
use Rattle.std.specs.Option.{option_or}
use Rattle.test_tally.specs.Answers.{alike}
use Rattle.test_tally.specs.declared.answers.Answer.{Answer}
use Rattle.test_tally.specs.declared.counts.Tally.{Tally}

-- a count and n more
abbrev pub counted : ℕ → ℕ → ℕ
counted k n = (k + n) % 2 ^ 64

-- the groups with n more in one
abbrev pub grouped : List ℕ → ℕ → ℕ → List ℕ
grouped groups group n = slice_set groups (group % 64) (counted (slice_index groups (group % 64)) n)

-- n more in a group
abbrev pub more_in : Tally → ℕ → ℕ → Tally
more_in t group n = record { at = t.at; ran = t.ran; differ = t.differ; groups = grouped t.groups group n; first = t.first }

-- one comparison more in a group, and the first of those that differ
abbrev pub compared_in : Tally → ℕ → Answer → Answer → Tally
compared_in t group got wanted =
    record {
      at = t.at;
      ran = counted t.ran 1;
      differ = cond (alike got wanted) t.differ (counted t.differ 1);
      groups = grouped t.groups group 1;
      first = cond (alike got wanted) t.first (option_or t.first (Some (record { group = group; at = t.at; got = got; wanted = wanted })));
    }

-- the same counts, at another number
abbrev pub next_at : Tally → ℕ → Tally
next_at t at = record { at = at; ran = t.ran; differ = t.differ; groups = t.groups; first = t.first }
