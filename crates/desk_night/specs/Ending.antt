-- What a night comes to, and the line that says it.
use Rattle.std.specs.Prelude.{ℕ, min, Bool, true, false, cond, List, [], ◌∷◌, Option, Some, None, Result, Ok, Err, is_some}
use Rattle.std.specs.Result.{result_and}
use Rattle.desk_list.specs.Lines.{most}
use Rattle.manifest.specs.Lines.{next_of}
use Rattle.manifest.specs.Check.{counts_stand}
use Rattle.manifest.specs.declared.reading.Line.{Line}
use Rattle.manifest.specs.declared.reading.Stretch.{Stretch}
use Rattle.manifest.specs.declared.reading.Wrong.{Wrong}
use Rattle.desk_night.specs.Standings.{some_end}
use Rattle.desk_night.specs.Night.{is_over}
use Rattle.desk_night.specs.declared.trouble.Trouble.{Trouble}
use Rattle.desk_night.specs.declared.night.Night.{Night}
use Rattle.desk_night.specs.declared.ending.Verdict.{Verdict}

-- a line says a stretch
abbrev pub says_stretch : Result (Option Stretch) Wrong → Bool
says_stretch (Ok (Some name)) = true
says_stretch (Ok None) = false
says_stretch (Err wrong) = false

-- the line of a stretch
abbrev pub is_stretch : Option Line → Bool
is_stretch (Some line) = says_stretch line.said
is_stretch None = false

-- a manifest names a stretch from a place on
unfoldable pub is_left : List ℕ → ℕ → Bool
is_left m at = is_stretch (next_of m at)

-- what a manifest has against the stretches that were handed in: it names more, or its counts are not theirs
unfoldable pub vouched : List ℕ → Night → Result (Unit {0}) Trouble
vouched m x =
    cond (is_some x.text)
    (cond (is_left m x.at) (Err Trouble.Missing) (cond (counts_stand m x.stretches x.segments x.bytes) (Ok tt) (Err Trouble.Counts)))
    (Ok tt)

-- what the sequences have come to
unfoldable pub found : Night → Verdict
found x = cond (some_end (min x.count most) x.standings) Verdict.Held Verdict.Clear

-- what is known where there is no trouble
abbrev pub unless_in : Option Trouble → Result Verdict Trouble → Result Verdict Trouble
unless_in None v = v
unless_in (Some t) v = Err t

-- what a night comes to
unfoldable pub ending : List ℕ → Night → Result Verdict Trouble
ending m x = unless_in x.trouble (cond (is_over x) (Ok Verdict.Held) (result_and (vouched m x) (Ok (found x))))

-- `clear` and the line's end
abbrev pub clear_line : List ℕ
clear_line = 0x63 ∷ 0x6C ∷ 0x65 ∷ 0x61 ∷ 0x72 ∷ 0x0A ∷ []

-- `held` and the line's end
abbrev pub held_line : List ℕ
held_line = 0x68 ∷ 0x65 ∷ 0x6C ∷ 0x64 ∷ 0x0A ∷ []

-- the line that says whether the text may go out
abbrev pub verdict_line : Result Verdict Trouble → List ℕ
verdict_line (Ok Verdict.Clear) = clear_line
verdict_line (Ok Verdict.Held) = held_line
verdict_line (Err t) = held_line
