-- What is proved of the list, theorem by theorem. `check` says `checked_of`, and `line_at` the lines of which `lines_of` is made.
use Prim.Native.Nat.{ℕ, zero, suc, ◌+◌, ◌-◌, ◌≤◌, ◌<◌}
use native.Mathlib.Omega.{arith}
use native.Mathlib.Decide.{dec_lt}
use mathlib.Core.Path.{◌≡◌, refl, sym, ap, ◌∙◌}
use mathlib.Core.Logic.{⊎_elim, by_cases}
use mathlib.Core.Bool.{Bool, true, false, cond}
use mathlib.Core.List.{List, [], ◌∷◌}
use mathlib.Core.List.Memᴰ
use mathlib.Core.List.{Memᴰ}
use borrow.Author.Tests.{eqb-false, ltb-false}
use lib.Dec.{eqb, ltb}
use lib.ListN.{length, take, drop, length-take}
use lib.Seq.{take-take, take-nil, drop-drop}
use Rattle.text.specs.Compare.{from_to}
use Rattle.text.specs.Refusal.{Outcome, ok, refused, pattern, SoundPattern}
use Rattle.text.proofs.Patterns.{pattern-sound}
use Rattle.std.proofs.Common.{Option, Some, None, Ok, Err}
use Rattle.desk_list.specs.Kinds.{plain, blank, digit, word, in_line, past}
use Rattle.desk_list.specs.Line.{Said, ends_at, closed_by, sequence_of, labelled, label_of, words_of, entry_of}
use Rattle.desk_list.specs.Line.{close_of, behind, placed, line_of}
use Rattle.desk_list.specs.Lines.{next_of, then_lines, lines_from, rest_of, lines_of, Sequence, then_sequences, sequences_in, sequences_of, wrong_in}
use Rattle.desk_list.specs.Lines.{most, counted, checked_of}
use Rattle.desk_list.specs.declared.reading.Line.{Line}
use Rattle.desk_list.specs.declared.checking.Unsound.{Unsound}
use Rattle.desk_list.proofs.Skips.{past-in}
use Rattle.desk_list.proofs.Entries.{line-none}
use Rattle.desk_list.proofs.Checks.{line-there}

-- what a line says of a sequence: a sound pattern, that stands in the line
abbrev Says : List ℕ → Said → Type 0
Says l (Ok None) = Unit {0}
Says l (Ok (Some w)) = SoundPattern (from_to l w.start w.end) × (w.end ≤ length l)
Says l (Err fault) = Unit {0}

-- what both branches say
either-says : (l : List ℕ) (b : Bool) (x y : Said) → Says l x → Says l y → Says l (cond b x y)
either-says l true x y f g = f
either-says l false x y f g = g

module _ (l : List ℕ) where
  closed-says : (label start end : ℕ) (o : Outcome (Unit {0})) → pattern (from_to l start end) (ok (tt {0})) ≡ o → end ≤ length l
      → Says l (closed_by l label start end o)
  unfolding closed_by
  closed-says label start end (ok u) e m =
      either-says l (ends_at l (past blank l end)) _ _ (pattern-sound (from_to l start end) e, m) tt
  closed-says label start end (refused n p) e m = tt

  sequence-says : (label start : ℕ) → start ≤ length l → Says l (sequence_of l label start)
  unfolding sequence_of
  sequence-says label start h =
      let m : past word l start ≤ length l = omega (arith, (past-in word l start).1, h) in
      closed-says label start (past word l start) (pattern (from_to l start (past word l start)) (ok (tt {0}))) refl m

  labelled-says : (digits : ℕ) (n : Option ℕ) → digits ≤ length l → Says l (labelled l digits n)
  unfolding labelled
  labelled-says digits (Some label) h =
      let m : past blank l digits ≤ length l = omega (arith, (past-in blank l digits).1, h) in
      either-says l (eqb (past blank l digits) digits) _ _ tt
      (either-says l (ends_at l (past blank l digits)) _ _ tt (sequence-says label (past blank l digits) m))
  labelled-says digits None h = tt

  entry-says : Says l (entry_of l)
  unfolding entry_of words_of label_of
  entry-says =
      let first : ℕ = past blank l 0 in
      let m : past digit l first ≤ length l = omega (arith, (past-in digit l first).1, (past-in blank l 0).1) in
      either-says l (ltb (past plain l 0) (length l)) _ _ tt
      (either-says l (ends_at l first) _ _ tt
      (either-says l (eqb (past digit l first) first) _ _ tt (labelled-says (past digit l first) _ m)))

drop-take : (n w : ℕ) (l : List ℕ) → drop n (take w l) ≡ take (w - n) (drop n l)
drop-take zero w l = let z : w ≡ w - 0 = omega arith in ap (λ (k : ℕ). take k l) z
drop-take (suc n) zero l = let z : 0 ≡ 0 - suc n = omega arith in ap (λ (k : ℕ). take k (drop (suc n) l)) z
drop-take (suc n) (suc w) [] = sym (take-nil (suc w - suc n))
drop-take (suc n) (suc w) (a ∷ l) =
    let z : suc w - suc n ≡ w - n = omega arith in
    drop-take n w l ∙ ap (λ (k : ℕ). take k (drop n l)) (sym z)

-- a part of a part
from_to-from_to : (s : List ℕ) (at to start end : ℕ) → end ≤ length (from_to s at to)
    → from_to (from_to s at to) start end ≡ from_to s (at + start) (at + end)
from_to-from_to s at to start end h =
    let w : ℕ = to - at in
    let few : end ≤ w = omega (arith, h, simp length-take at h) in
    let less : end - start ≤ w - start = omega arith in
    let same : end - start ≡ at + end - (at + start) = omega arith in
    ap (take (end - start)) (drop-take start w (drop at s) ∙ ap (take (w - start)) (drop-drop start at s))
    ∙ take-take (end - start) (w - start) (drop (at + start) s) less
    ∙ ap (λ (k : ℕ). take k (drop (at + start) s)) same

-- a sequence that a line of a list says is a sound pattern
abbrev Sounds : List ℕ → Said → Type 0
Sounds s (Ok None) = Unit {0}
Sounds s (Ok (Some w)) = SoundPattern (from_to s w.start w.end)
Sounds s (Err fault) = Unit {0}

abbrev Holds : List ℕ → Option Line → Type 0
Holds s (Some line) = Sounds s line.said
Holds s None = Unit {0}

placed-holds : (s : List ℕ) (at to next : ℕ) (e : Said) → Says (from_to s at to) e → Holds s (Some (placed at next e))
placed-holds s at to next (Ok None) h = tt
placed-holds s at to next (Ok (Some w)) h = rw (← from_to-from_to s at to w.start w.end h.1) h.0
placed-holds s at to next (Err fault) h = tt

pub line-holds : (s : List ℕ) (at : ℕ) → Holds s (line_of s at)
line-holds s at =
    by_cases (dec_lt at (length s))
    (λ (l : at < length s).
    let to : ℕ = close_of s at (past in_line s at) in
    rw (line-there s at l) (placed-holds s at to (behind s (past in_line s at)) (entry_of (from_to s at to)) (entry-says (from_to s at to))))
    (λ (l : at < length s → ⊥). let far : length s ≤ at = omega arith in rw (← line-none s at far) tt)

-- every sequence of a list is a sound pattern
said-in : (s : List ℕ) (said : Said) (rest : List Sequence) (P : Sequence) → Sounds s said
    → (Memᴰ P rest → SoundPattern P.bases) → Memᴰ P (then_sequences s said rest) → SoundPattern P.bases
said-in s (Ok None) rest P h f m = f m
said-in s (Ok (Some w)) rest P h f m =
    ⊎_elim
    (λ (same : P ≡ record { label = w.label; bases = from_to s w.start w.end }). rw (ap (λ (q : Sequence). q.bases) same) h)
    (λ (later : Memᴰ P rest). f later)
    (Memᴰ.cases_cons m)
said-in s (Err fault) rest P h f m = f m

holds-in : (s : List ℕ) (l : Option Line) (rest : List Line) (P : Sequence) → Holds s l
    → (Memᴰ P (sequences_in s rest) → SoundPattern P.bases) → Memᴰ P (sequences_in s (then_lines l rest))
    → SoundPattern P.bases
unfolding sequences_in
holds-in s (Some line) rest P h f m = said-in s line.said (sequences_in s rest) P h f m
holds-in s None rest P h f m = absurd (Memᴰ.not-nil m)

sound-from : (k : ℕ) (s : List ℕ) (at : ℕ) (P : Sequence) → Memᴰ P (sequences_in s (lines_from k s at)) → SoundPattern P.bases
unfolding lines_from sequences_in
sound-from zero s at P m = absurd (Memᴰ.not-nil m)
sound-from (suc k) s at P m =
    holds-in s (line_of s at) (lines_from k s (next_of (line_of s at))) P (line-holds s at) (sound-from k s (next_of (line_of s at)) P) m

pub sequence-sound : (s : List ℕ) (P : Sequence) → Memᴰ P (sequences_of s) → SoundPattern P.bases
unfolding sequences_of lines_of rest_of
sequence-sound s P m = sound-from (length s - 0) s 0 P m

-- a list that may be searched for: every line of it is right, and it has 1 to 32 sequences, each of 1 to 64 bases
pub record SoundList (s : List ℕ) (n : ℕ) : Type 0 where
  pub right : wrong_in (lines_of s) ≡ false
  pub count : length (sequences_of s) ≡ n
  pub some : 0 < n
  pub few : n ≤ most
  pub sound : (P : Sequence) → Memᴰ P (sequences_of s) → SoundPattern P.bases

-- a list is sound with a number exactly if it may be searched for, and has that many sequences
pub check_sound : (s : List ℕ) (n : ℕ) → checked_of s ≡ Ok n → SoundList s n
unfolding checked_of counted
check_sound s n e = sound-by (wrong_in (lines_of s)) refl e
  where
    counted-by : (m : ℕ) (none many : Bool) → eqb m 0 ≡ none → ltb most m ≡ many
        → cond none (Err Unsound.Empty) (cond many (Err Unsound.Many) (Ok m)) ≡ Ok n → (m ≡ n) × (0 < n) × (n ≤ most)
    counted-by m true many f g e = absurd (let z : ◌≡◌ {A = ℕ} 0 1 = cc in omega arith)
    counted-by m false true f g e = absurd (let z : ◌≡◌ {A = ℕ} 0 1 = cc in omega arith)
    counted-by m false false f g e =
        let same : m ≡ n = cc in
        let some : m ≡ 0 → ⊥ = eqb-false m 0 f in
        (same, omega (arith, same, some), omega (arith, same, ltb-false most m g))

    sound-by : (b : Bool) → wrong_in (lines_of s) ≡ b → cond b (Err Unsound.Wrong) (counted (length (sequences_of s))) ≡ Ok n
        → SoundList s n
    sound-by true f e = absurd (let z : ◌≡◌ {A = ℕ} 0 1 = cc in omega arith)
    sound-by false f e =
        let k = counted-by (length (sequences_of s)) _ _ refl refl e in
        record { right = f; count = k.0; some = k.1; few = k.2; sound = sequence-sound s }
