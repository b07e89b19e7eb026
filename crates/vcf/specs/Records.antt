-- The records of a variant file (Variant Call Format 4) and what is asked of them.
use Rattle.std.specs.Prelude.{ℕ, suc, ◌+◌, ◌*◌, ◌-◌, Bool, ◌||◌, ◌&&◌, cond, List, [], ◌∷◌, Option, None, Some, map, eqb, leb, ltb, length}
use Rattle.std.specs.Prelude.{get_or}
use Rattle.text.specs.Letter.{letter, meant, every}
use Rattle.text.specs.Text.{Variant}
use Rattle.text.specs.Compare.{same}
use Rattle.text.specs.Refusal.{Outcome, ok, demand, after}
use Rattle.layout.specs.Bytes.{part}
use Rattle.layout.specs.Encoding.{all}
use Rattle.vcf.specs.Pieces.{pieces}

-- `##fileformat=VCFv4.`
abbrev pub heading : List ℕ
heading =
    0x23 ∷ 0x23 ∷ 0x66 ∷ 0x69 ∷ 0x6C ∷ 0x65 ∷ 0x66 ∷ 0x6F ∷ 0x72 ∷ 0x6D ∷ 0x61 ∷ 0x74 ∷ 0x3D ∷ 0x56 ∷ 0x43 ∷ 0x46 ∷ 0x76 ∷ 0x34 ∷ 0x2E ∷ []

-- field k of a line, counted from 0: CHROM, POS, ID, REF, ALT, ..
abbrev pub field : List ℕ → ℕ → List ℕ
field l k = get_or (pieces 0x09 l) k []

-- a decimal digit
unfoldable pub digit : ℕ → Bool
digit c = leb 0x30 c && leb c 0x39

-- the number that digits write after those of n
unfoldable pub decimal : ℕ → List ℕ → ℕ
decimal n [] = n
decimal n (c ∷ s) = decimal (n * 10 + (c - 0x30)) s

-- the greatest position
abbrev pub last_position : ℕ
last_position = 2147483647

-- after every position and every window
abbrev pub beyond : ℕ
beyond = 4294967296

-- the position that a field states, 1 or more; 0 where it states none
unfoldable pub position_of : List ℕ → ℕ
position_of s = cond (every digit s && leb (decimal 0 s) last_position) (decimal 0 s) 0

-- a position, where there is one
abbrev pub stated : ℕ → Option ℕ
stated n = cond (eqb n 0) None (Some n)

-- an allele: letters, at least one
unfoldable pub allele : Variant → Bool
allele v = ltb 0 (length v) && every letter v

-- an ALT field that says that there is none besides REF: `.`
unfoldable pub none : List ℕ → Bool
none a = same a (0x2E ∷ [])

-- the alleles of an ALT field
unfoldable pub alternates : List ℕ → List Variant
alternates a = cond (none a) [] (pieces 0x2C a)

-- every piece between commas is an allele
unfoldable pub are_alleles : List ℕ → Bool
are_alleles a = all allele (pieces 0x2C a)

-- none, or at most 254 alleles
unfoldable pub alternates_sound : List ℕ → Bool
alternates_sound a = leb (length (alternates a)) 254 && all allele (alternates a)

-- POS of a line, what its REF and the alleles of its ALT spell, and the position after REF's last base
abbrev pub position : List ℕ → ℕ
position l = position_of (field l 1)

abbrev pub reference : List ℕ → Variant
reference l = meant (field l 3)

abbrev pub alts : List ℕ → List Variant
alts l = map meant (alternates (field l 4))

abbrev pub behind : List ℕ → ℕ
behind l = position l + length (reference l)

-- a line that is a sound record of the chromosome: eight fields, its name, a position, and at most 254 alternates
unfoldable pub is_record : List ℕ → List ℕ → Bool
is_record name l =
    leb 8 (length (pieces 0x09 l))
    && same (field l 0) name
    && allele (field l 3)
    && alternates_sound (field l 4)
    && ltb 0 (position l)

-- a window: bases w, the first of them at position p. It begins at position 1 or later and has no base beyond the greatest position
unfoldable pub placed : List ℕ → ℕ → Bool
placed w p = ltb 0 p && (eqb (length w) 0 || leb (p + length w) (suc last_position))

-- a record from position `at` up to `end` that has no base in it
unfoldable pub outside : List ℕ → ℕ → ℕ → ℕ → Bool
outside w p at end = eqb (length w) 0 || leb end p || leb (p + length w) at

-- a record that lies in the window whole, and whose REF is what stands there
unfoldable pub agrees : List ℕ → ℕ → ℕ → Variant → Bool
agrees w p at ref = leb p at && leb (at + length ref) (p + length w) && same ref (part w (at - p) (length ref))

-- a line whose record has no base in the window
abbrev pub passed_over : List ℕ → ℕ → List ℕ → Bool
passed_over w p l = outside w p (position l) (behind l)

-- a line that is skipped
unfoldable pub comment : List ℕ → Bool
comment l = eqb (get_or l 0 0) 0x23

-- what is asked of a record after position `from`, where the one before it ends
unfoldable pub fitting : List ℕ → List ℕ → ℕ → ℕ → List ℕ → Bool
fitting name w p from l = is_record name l && leb from (position l) && (passed_over w p l || agrees w p (position l) (reference l))

-- the records in the window, of lines from number n on: 19 at the first wrong one
unfoldable pub records : List ℕ → List ℕ → ℕ → ℕ → ℕ → List (List ℕ) → Outcome (List (List ℕ))
records name w p n from [] = ok []
records name w p n from (l ∷ ls) =
    let skipped : Outcome (List (List ℕ)) = records name w p (suc n) from ls in
    let rest : Outcome (List (List ℕ)) = records name w p (suc n) (behind l) ls in
    cond (comment l) skipped
    (demand (fitting name w p from l) 19 n
    (after rest λ rs. ok (cond (passed_over w p l) rs (l ∷ rs))))

-- a line that adds nothing to the text of a window: a skipped one, or a record that has no base in it
unfoldable pub idle : List ℕ → ℕ → List ℕ → Bool
idle w p l = comment l || passed_over w p l

-- the lines that hold a record with a base in the window
unfoldable pub touching : List ℕ → ℕ → List (List ℕ) → List (List ℕ)
touching w p [] = []
touching w p (l ∷ ls) = cond (idle w p l) (touching w p ls) (l ∷ touching w p ls)

-- the lines that hold a record at all
unfoldable pub noted : List (List ℕ) → List (List ℕ)
noted [] = []
noted (l ∷ ls) = cond (comment l) (noted ls) (l ∷ noted ls)
