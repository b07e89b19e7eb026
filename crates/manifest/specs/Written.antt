-- The lines of a manifest, as they are put.
use Rattle.std.specs.Prelude.{ℕ, ◌+◌, ◌/◌, ◌%◌, cond, List, [], ◌∷◌, ◌++◌, ltb}
use Rattle.digest.specs.Blake2b.{blake2b256}
use Rattle.lines.specs.Decimal.{digits}
use Rattle.manifest.specs.Line.{blanks}
use Rattle.manifest.specs.Lines.{Entry}

-- the byte of a hex digit: 0 to 9, then a to f
abbrev pub glyph : ℕ → ℕ
glyph d = cond (ltb d 10) (48 + d) (87 + d)

-- two hex digits for each byte, the high one first
unfoldable pub hex_of : List ℕ → List ℕ
hex_of [] = []
hex_of (b ∷ s) = glyph (b / 16) ∷ glyph (b % 16) ∷ hex_of s

-- the first line: `# cerantuh text 1`
abbrev pub head_line : List ℕ
head_line =
    0x23 ∷ 0x20 ∷ 0x63 ∷ 0x65 ∷ 0x72 ∷ 0x61 ∷ 0x6E ∷ 0x74 ∷ 0x75 ∷ 0x68 ∷ 0x20 ∷ 0x74 ∷ 0x65 ∷ 0x78 ∷ 0x74 ∷ 0x20 ∷ 0x31 ∷ 0x0A ∷ []

-- a comment's line
unfoldable pub comment_line : List ℕ → List ℕ
comment_line c = 0x23 ∷ (c ++ (10 ∷ []))

-- the entry of a stretch under this name
abbrev pub entry_for : List ℕ → List ℕ → Entry
entry_for stretch name = record { digest = hex_of (blake2b256 stretch); name = name }

-- an entry's line
unfoldable pub entry_line : Entry → List ℕ
entry_line e = e.digest ++ blanks ++ e.name ++ (10 ∷ [])

-- `# stretches `
abbrev pub stretches_word : List ℕ
stretches_word = 0x23 ∷ 0x20 ∷ 0x73 ∷ 0x74 ∷ 0x72 ∷ 0x65 ∷ 0x74 ∷ 0x63 ∷ 0x68 ∷ 0x65 ∷ 0x73 ∷ 0x20 ∷ []

-- `, segments `
abbrev pub segments_word : List ℕ
segments_word = 0x2C ∷ 0x20 ∷ 0x73 ∷ 0x65 ∷ 0x67 ∷ 0x6D ∷ 0x65 ∷ 0x6E ∷ 0x74 ∷ 0x73 ∷ 0x20 ∷ []

-- `, bytes `
abbrev pub bytes_word : List ℕ
bytes_word = 0x2C ∷ 0x20 ∷ 0x62 ∷ 0x79 ∷ 0x74 ∷ 0x65 ∷ 0x73 ∷ 0x20 ∷ []

-- `# digest `
abbrev pub digest_word : List ℕ
digest_word = 0x23 ∷ 0x20 ∷ 0x64 ∷ 0x69 ∷ 0x67 ∷ 0x65 ∷ 0x73 ∷ 0x74 ∷ 0x20 ∷ []

-- the last line but one: `# stretches n, segments s, bytes b`
unfoldable pub counts_line : ℕ → ℕ → ℕ → List ℕ
counts_line n s b = stretches_word ++ digits n ++ segments_word ++ digits s ++ bytes_word ++ digits b ++ (10 ∷ [])

-- the last line, of the digest d
unfoldable pub digest_line : List ℕ → List ℕ
digest_line d = digest_word ++ hex_of d ++ (10 ∷ [])

-- the last two lines, after the bytes `front`
unfoldable pub end_lines : List ℕ → ℕ → ℕ → ℕ → List ℕ
end_lines front n s b = counts_line n s b ++ digest_line (blake2b256 (front ++ counts_line n s b))

-- the lines of these comments
unfoldable pub comment_lines : List (List ℕ) → List ℕ
comment_lines [] = []
comment_lines (c ∷ cs) = comment_line c ++ comment_lines cs

-- the lines of these entries
unfoldable pub entry_lines : List Entry → List ℕ
entry_lines [] = []
entry_lines (e ∷ es) = entry_line e ++ entry_lines es

-- a manifest before its last two lines
unfoldable pub front_of : List (List ℕ) → List Entry → List ℕ
front_of cs es = head_line ++ comment_lines cs ++ entry_lines es

-- a manifest with these comments, entries and counts
unfoldable pub manifest_of : List (List ℕ) → List Entry → ℕ → ℕ → ℕ → List ℕ
manifest_of cs es n s b = front_of cs es ++ end_lines (front_of cs es) n s b
