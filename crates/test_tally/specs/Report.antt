-- The lines that a program prints at the end: the groups that count something, and how many answers were compared and differ.
use Rattle.std.specs.Prelude.{ℕ, suc, ◌%◌, cond, List, [], ◌∷◌, ◌++◌, ◌==◌, slice_index}
use Rattle.lines.specs.Decimal.{digits, line}
use Rattle.test_tally.specs.declared.counts.Tally.{Tally}

-- `: `
abbrev pub colon_word : List ℕ
colon_word = 0x3A ∷ 0x20 ∷ []

-- ` differ` and the line's end
abbrev pub differ_word : List ℕ
differ_word = 0x20 ∷ 0x64 ∷ 0x69 ∷ 0x66 ∷ 0x66 ∷ 0x65 ∷ 0x72 ∷ 0x0A ∷ []

-- the line of a group: its name and its count; nothing where it counts nothing
unfoldable pub group_line : List ℕ → ℕ → List ℕ
group_line name n = cond (n == 0) [] (name ++ line colon_word n)

-- the lines of the groups from group k on, whose names are the lines of the bytes; `name` stands before them
unfoldable pub group_lines : List ℕ → ℕ → List ℕ → List ℕ → List ℕ
group_lines groups k name [] = []
group_lines groups k name (c ∷ s) =
    cond (c == 10) (group_line name (slice_index groups (k % 64)) ++ group_lines groups (suc k) [] s)
    (group_lines groups k (name ++ (c ∷ [])) s)

-- these lines, and the last one: how many were compared, what they are called, and how many of them differ
unfoldable pub report_of : Tally → List ℕ → List ℕ → List ℕ
report_of t names compared = group_lines t.groups 0 [] names ++ digits t.ran ++ compared ++ digits t.differ ++ differ_word
