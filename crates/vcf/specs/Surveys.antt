-- What a survey of a variant file says of the text of a window, whatever the room is.
use Rattle.std.specs.Prelude.{ℕ, ◌<◌, ◌≤◌, ◌≡◌, true, List, Result, Ok, Err, length, drop}
use Rattle.text.specs.Letter.{meant}
use Rattle.text.specs.Refusal.{ok, refused}
use Rattle.layout.specs.Encoding.{encode}
use Rattle.vcf.specs.Pieces.{lines}
use Rattle.vcf.specs.Records.{placed, records, touching}
use Rattle.vcf.specs.Building.{window_text, building}
use Rattle.text.specs.declared.refusal.Refusal.{Refusal}
use Rattle.vcf.specs.declared.survey.scan.Gathered.{Gathered}

-- the lines from place `start` on hold the records of the window, that many of them, and their text has that many segments and fits the room
pub record Readable (w : List ℕ) (p : ℕ) (file : List ℕ) (start left segments room : ℕ) : Type 0 where
  pub put : placed w p ≡ true
  pub inside : start ≤ length file
  pub name : List ℕ
  pub number : ℕ
  pub from : ℕ
  pub accepted : records name w p number from (lines (drop start file)) ≡ ok (touching w p (lines file))
  pub many : left ≡ length (touching w p (lines file))
  pub count : segments ≡ length (window_text w p file)
  pub fits : length (encode (window_text w p file)) ≤ room

-- the text of the window has that many bytes: it is built into any room that has them, and 15 is refused in any other
pub record Built (file window : List ℕ) (p : ℕ) (name : List ℕ) (bytes segments start kept : ℕ) : Type 0 where
  pub size : bytes ≡ length (encode (window_text (meant window) p file))
  pub short : (room : ℕ) → room < bytes → building file window p name room ≡ refused 15 0
  pub whole : (room : ℕ) → bytes ≤ room → building file window p name room ≡ ok (window_text (meant window) p file)
  pub readable : (room : ℕ) → bytes ≤ room → Readable (meant window) p file start kept segments room

-- it is not built into any room
pub record Unbuilt (file window : List ℕ) (p : ℕ) (name : List ℕ) (number place : ℕ) : Type 0 where
  pub always : (room : ℕ) → building file window p name room ≡ refused number place

abbrev pub Surveys : List ℕ → List ℕ → ℕ → List ℕ → Result Gathered Refusal → Type 0
Surveys file window p name (Ok g) = Built file window p name g.needed.bytes g.needed.segments g.start g.kept
Surveys file window p name (Err r) = Unbuilt file window p name r.number r.place
