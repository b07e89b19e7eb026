-- The notation, byte by byte: what stands open before a byte, and what the byte does.
use Rattle.std.specs.Prelude.{ℕ, ◌+◌, Bool, ◌||◌, cond, eqb, leb, Result, Ok, Err}
use Rattle.text.specs.Letter.{letter}
use Rattle.layout.specs.Bytes.{greatest_stretch}
use Rattle.eds_notation.specs.declared.notation.Mode.{Mode}
use Rattle.eds_notation.specs.declared.notation.Mode.TheVariants.{Between, Bare, Braced}
use Rattle.eds_notation.specs.declared.notation.Begun.{Begun}
use Rattle.eds_notation.specs.declared.notation.Act.{Act}
use Rattle.eds_notation.specs.declared.notation.Act.TheVariants.{Pass, Letter, Variant, Segment}
use Rattle.eds_notation.specs.declared.wrong.Wrong.{Wrong}

-- what a byte does, or what is wrong with it
abbrev pub Doing : Type 0
Doing = Result Act Wrong

-- space, tab and line ends
unfoldable pub white : ℕ → Bool
white x = eqb x 0x20 || eqb x 0x09 || eqb x 0x0D || eqb x 0x0A

-- nothing stands open
abbrev pub nothing : Begun
nothing = record { mode = Between; variants = 0; letters = 0; spelt = 0 }

-- a segment in braces, of which nothing has been read
abbrev pub brace : Begun
brace = record { mode = Braced; variants = 0; letters = 0; spelt = 0 }

-- a letter between segments begins one outside braces
abbrev pub inside : Mode → Mode
inside Between = Bare
inside Bare = Bare
inside Braced = Braced

-- a letter: one more of the open variant, unless the segment is too long
unfoldable pub lettered : Begun → Doing
lettered o =
    cond (leb greatest_stretch o.letters) (Err Wrong.Long)
    (cond (leb greatest_stretch o.spelt) (Err Wrong.Long)
    (Ok (Letter (record { mode = inside o.mode; variants = o.variants; letters = o.letters + 1; spelt = o.spelt + 1 }))))

-- a brace that opens; letters outside braces end before it
abbrev pub opened : Mode → Doing
opened Between = Ok (Pass brace)
opened Bare = Ok (Segment brace)
opened Braced = Err Wrong.Opened

-- a comma: the next variant of a segment in braces, of at most 255
abbrev pub comma : Mode → ℕ → ℕ → Doing
comma Between variants letters = Err Wrong.Comma
comma Bare variants letters = Err Wrong.Comma
comma Braced variants letters =
    cond (leb 254 variants) (Err Wrong.Variants)
    (Ok (Variant (record { mode = Braced; variants = variants + 1; letters = letters; spelt = 0 })))

-- a brace that closes
abbrev pub closed : Mode → Doing
closed Between = Err Wrong.Closed
closed Bare = Err Wrong.Closed
closed Braced = Ok (Segment nothing)

-- what a byte does
unfoldable pub act_of : Begun → ℕ → Doing
act_of o x =
    cond (white x) (Ok (Pass o))
    (cond (letter x) (lettered o)
    (cond (eqb x 0x7B) (opened o.mode)
    (cond (eqb x 0x2C) (comma o.mode o.variants o.letters)
    (cond (eqb x 0x7D) (closed o.mode) (Err Wrong.Letter)))))

-- what the end of the text does
abbrev pub ended : Begun → Mode → Doing
ended o Between = Ok (Pass o)
ended o Bare = Ok (Segment nothing)
ended o Braced = Err Wrong.Ended
