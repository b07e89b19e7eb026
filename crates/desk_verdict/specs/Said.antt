-- The lines that the desk prints, as bytes.
use Rattle.std.specs.Prelude.{ℕ, ◌≤◌, ◌≡◌, cond, List, [], ◌∷◌, ◌++◌, eqb, length, take}
use Rattle.lines.specs.Decimal.{digits}
use Rattle.desk_verdict.specs.Standing.{plus}
use Rattle.desk_verdict.specs.declared.standing.Standing.{Standing}

-- ` ends in segment `
abbrev pub ends_word : List ℕ
ends_word = 0x20 ∷ 0x65 ∷ 0x6E ∷ 0x64 ∷ 0x73 ∷ 0x20 ∷ 0x69 ∷ 0x6E ∷ 0x20 ∷ 0x73 ∷ 0x65 ∷ 0x67 ∷ 0x6D ∷ 0x65 ∷ 0x6E ∷ 0x74 ∷ 0x20 ∷ []

-- ` of the text, segment `
abbrev pub text_word : List ℕ
text_word =
    0x20 ∷ 0x6F ∷ 0x66 ∷ 0x20 ∷ 0x74 ∷ 0x68 ∷ 0x65 ∷ 0x20 ∷ 0x74 ∷ 0x65 ∷ 0x78 ∷ 0x74 ∷ 0x2C
    ∷ 0x20 ∷ 0x73 ∷ 0x65 ∷ 0x67 ∷ 0x6D ∷ 0x65 ∷ 0x6E ∷ 0x74 ∷ 0x20 ∷ []

-- ` of `
abbrev pub of_word : List ℕ
of_word = 0x20 ∷ 0x6F ∷ 0x66 ∷ 0x20 ∷ []

-- ` clear` and the line's end
abbrev pub clear_word : List ℕ
clear_word = 0x20 ∷ 0x63 ∷ 0x6C ∷ 0x65 ∷ 0x61 ∷ 0x72 ∷ 0x0A ∷ []

-- ` held, `
abbrev pub held_word : List ℕ
held_word = 0x20 ∷ 0x68 ∷ 0x65 ∷ 0x6C ∷ 0x64 ∷ 0x2C ∷ 0x20 ∷ []

-- ` segments` and the line's end
abbrev pub segments_word : List ℕ
segments_word = 0x20 ∷ 0x73 ∷ 0x65 ∷ 0x67 ∷ 0x6D ∷ 0x65 ∷ 0x6E ∷ 0x74 ∷ 0x73 ∷ 0x0A ∷ []

-- `refused `
abbrev pub refused_word : List ℕ
refused_word = 0x72 ∷ 0x65 ∷ 0x66 ∷ 0x75 ∷ 0x73 ∷ 0x65 ∷ 0x64 ∷ 0x20 ∷ []

-- ` at `
abbrev pub at_word : List ℕ
at_word = 0x20 ∷ 0x61 ∷ 0x74 ∷ 0x20 ∷ []

-- ` in `
abbrev pub in_word : List ℕ
in_word = 0x20 ∷ 0x69 ∷ 0x6E ∷ 0x20 ∷ []

-- ` files` and the line's end
abbrev pub files_word : List ℕ
files_word = 0x20 ∷ 0x66 ∷ 0x69 ∷ 0x6C ∷ 0x65 ∷ 0x73 ∷ 0x0A ∷ []

-- `line `
abbrev pub line_word : List ℕ
line_word = 0x6C ∷ 0x69 ∷ 0x6E ∷ 0x65 ∷ 0x20 ∷ []

-- ` of the list: `
abbrev pub list_word : List ℕ
list_word = 0x20 ∷ 0x6F ∷ 0x66 ∷ 0x20 ∷ 0x74 ∷ 0x68 ∷ 0x65 ∷ 0x20 ∷ 0x6C ∷ 0x69 ∷ 0x73 ∷ 0x74 ∷ 0x3A ∷ 0x20 ∷ []

-- a word and a number
unfoldable pub counted : List ℕ → ℕ → List ℕ
counted word n = word ++ digits n

-- a word, a file's name, and the line's end
unfoldable pub named : List ℕ → List ℕ → List ℕ
named word name = word ++ name ++ (10 ∷ [])

-- a segment in which a sequence ends, with that many segments in the files before: its number in the text, and in its file
unfoldable pub hit_line : ℕ → ℕ → ℕ → List ℕ → List ℕ
hit_line label before j name = digits label ++ counted ends_word (plus before j) ++ counted text_word j ++ named of_word name

-- where a sequence stands after the whole text: clear, or in how many of the segments it ends
unfoldable pub standing_line : ℕ → Standing → List ℕ
standing_line label x =
    cond (eqb x.ends 0) (digits label ++ clear_word)
    (digits label ++ counted held_word x.ends ++ counted of_word x.segments ++ segments_word)

-- a file that is refused: the number, the place, and the file
unfoldable pub refused_line : ℕ → ℕ → List ℕ → List ℕ
refused_line n p name = counted refused_word n ++ counted at_word p ++ named in_word name

-- how many of the files are done
unfoldable pub done_line : ℕ → ℕ → List ℕ
done_line done all = digits done ++ counted of_word all ++ files_word

-- the words in front of what is wrong with a line of the list
unfoldable pub fault_words : ℕ → List ℕ
fault_words line = counted line_word line ++ list_word

-- r bytes stand in front of the buffer; the second part says it as a caller needs it who cuts them off
abbrev pub Fits : ℕ → List ℕ → Type 0
Fits r out = (r ≤ length out) × (r ≡ length (take r out))
