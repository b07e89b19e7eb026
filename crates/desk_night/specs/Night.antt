-- A night: where each sequence of a list stands after stretches that are handed in one after another, and what has come of them.
use Rattle.std.specs.Prelude.{ℕ, Bool, cond, ◌&&◌, ◌||◌, List, length, replicate, min, Option, Some, None, is_some, Result, Ok, Err}
use Rattle.std.specs.Option.{option_or, option_map}
use Rattle.std.specs.Result.{result_err, result_unwrap_or}
use Rattle.layout.specs.Bytes.{word_at}
use Rattle.digest.specs.Blake2b.{blake2b256}
use Rattle.desk_verdict.specs.Standing.{plus, begun}
use Rattle.desk_list.specs.Lines.{most, checked_of}
use Rattle.desk_list.specs.declared.checking.Unsound.{Unsound}
use Rattle.manifest.specs.Lines.{next_of}
use Rattle.manifest.specs.Check.{vouches}
use Rattle.manifest.specs.declared.reading.Line.{Line}
use Rattle.manifest.specs.declared.reading.Stretch.{Stretch}
use Rattle.manifest.specs.declared.reading.Wrong.{Wrong}
use Rattle.desk_night.specs.Trouble.{of_list}
use Rattle.desk_night.specs.TextTrouble.{trouble_of}
use Rattle.desk_night.specs.Standings.{all_end}
use Rattle.desk_night.specs.Sweep.{swept}
use Rattle.desk_night.specs.declared.trouble.Trouble.{Trouble}
use Rattle.desk_night.specs.declared.night.Night.{Night}

-- how many sequences a list has of which this is said
abbrev pub count_of : Result ℕ Unsound → ℕ
count_of said = result_unwrap_or said 0

-- the trouble with a list of which this is said
abbrev pub list_trouble : Result ℕ Unsound → Option Trouble
list_trouble said = option_map of_list (result_err said)

-- how many segments a stretch states
unfoldable pub segments_of : List ℕ → ℕ
segments_of s = word_at s 0

-- a night before its first stretch
unfoldable pub begun_with : List ℕ → Option (List ℕ) → Bool → Option Trouble → Night
begun_with list text first wrong =
    record {
      standings = replicate most begun;
      count = count_of (checked_of list);
      at = 0;
      stretches = 0;
      segments = 0;
      bytes = 0;
      first = first;
      list = blake2b256 list;
      text = text;
      trouble = option_or (list_trouble (checked_of list)) wrong;
    }

-- a night over the stretches that a manifest names
unfoldable pub beginning : List ℕ → List ℕ → Bool → Night
beginning list m first = begun_with list (Some (blake2b256 m)) first (trouble_of m)

-- a night over files for which nobody vouches
unfoldable pub beginning_files : List ℕ → Bool → Night
beginning_files list first = begun_with list None first None

-- the night with this trouble
unfoldable pub troubled : Night → Trouble → Night
troubled x t =
    record {
      standings = x.standings;
      count = x.count;
      at = x.at;
      stretches = x.stretches;
      segments = x.segments;
      bytes = x.bytes;
      first = x.first;
      list = x.list;
      text = x.text;
      trouble = Some t;
    }

-- the night after one stretch more, with `at` after its line
unfoldable pub taken : Night → List ℕ → ℕ → List ℕ → Night
taken x list at s =
    record {
      standings = (swept x.first list s x.standings).standings;
      count = x.count;
      at = at;
      stretches = plus x.stretches 1;
      segments = plus x.segments (segments_of s);
      bytes = plus x.bytes (length s);
      first = x.first;
      list = x.list;
      text = x.text;
      trouble = (swept x.first list s x.standings).trouble;
    }

-- the place after a line that says this, if it is the line of this stretch
abbrev pub named_by : List ℕ → List ℕ → ℕ → Result (Option Stretch) Wrong → Result ℕ Trouble
named_by m s next (Ok (Some name)) = cond (vouches m name.start s) (Ok next) (Err Trouble.Changed)
named_by m s next (Ok None) = Err Trouble.Added
named_by m s next (Err wrong) = Err Trouble.Added

-- the place after the line that the manifest has next, if that is the line of this stretch
abbrev pub named : List ℕ → List ℕ → Option Line → Result ℕ Trouble
named m s (Some line) = named_by m s line.next line.said
named m s None = Err Trouble.Added

-- the place in the manifest after this stretch, if one vouches
unfoldable pub place_of : List ℕ → List ℕ → Night → Result ℕ Trouble
place_of m s x = cond (is_some x.text) (named m s (next_of m x.at)) (Ok x.at)

-- the night after a stretch of which the manifest says this
abbrev pub stepped : List ℕ → List ℕ → Night → Result ℕ Trouble → Night
stepped list s x (Ok at) = taken x list at s
stepped list s x (Err t) = troubled x t

-- one stretch more; in trouble nothing changes
unfoldable pub overing : List ℕ → List ℕ → List ℕ → Night → Night
overing list m s x = cond (is_some x.trouble) x (stepped list s x (place_of m s x))

-- the next stretch could not be read
unfoldable pub missing : Night → Night
missing x = cond (is_some x.trouble) x (troubled x Trouble.Unread)

-- nothing more is to be handed in
unfoldable pub is_over : Night → Bool
is_over x = is_some x.trouble || (x.first && all_end (min x.count most) x.standings)
