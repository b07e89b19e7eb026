-- What is proved about this crate's calls, by name. The contracts say what they answer by definitions of specs/: `build` by `building`,
-- `measure` by `measuring`, `position` by `position_of`; here stands what these come to. A hypothesis that begins with `told`, or says
-- what a buffer holds, is the call's contract word by word.
use Prim.Native.Nat.{ℕ, ◌+◌, ◌≤◌, ◌<◌}
use native.Mathlib.Omega.{arith}
use mathlib.Core.Path.{◌≡◌, refl, sym, ap, ◌∙◌}
use mathlib.Core.Logic.{◌↔◌}
use mathlib.Core.Bool.{Bool, true, false}
use mathlib.Core.List.{List, [], ◌∷◌, ◌++◌}
use borrow.Author.Tests.{leb-true, le-leb}
use lib.Dec.{leb}
use lib.ListN.{length, take, drop, get_or}
use Rattle.text.specs.Letter.{letter, meant, every, first_not}
use Rattle.text.specs.Text.{Text}
use Rattle.text.specs.Occurrence.{Inside, Spells}
use Rattle.text.specs.State.{marks}
use Rattle.text.proofs.Theorems.{marks-ends, read-ends}
use Rattle.text.specs.Compare.{prefix}
use Rattle.text.specs.Refusal.{Outcome, ok, refused, demand, after}
use Rattle.text.proofs.Outcomes.{ok-inj, refused-ok, demand-met, after-met, told-met}
use Rattle.text.proofs.Meanings.{letters-capital}
use Rattle.layout.specs.Reading.{stretch_of}
use Rattle.layout.specs.Encoding.{encode, all, writable}
use Rattle.writer.specs.Writing.{writing, letters_of, lengths_of, counts_of}
use Rattle.writer.specs.Putting.{formed_segment, putting}
use Rattle.stretch.specs.Onward.{ReadsAs}
use Rattle.stretch.specs.Answers.{told_written}
use Rattle.writer.specs.Answers.{written}
use Rattle.layout.specs.Bytes.{over, left_by}
use Rattle.stretch.specs.declared.writing.Written.{Written}
use Rattle.stretch.specs.declared.writing.Written.TheVariants.{Bytes as Count, Refused}
use Rattle.layout.proofs.Overs.{over-front}
use Rattle.layout.proofs.Encoding.{standing-encoded}
use Rattle.stretch.proofs.ReadsOnward.{reads_as}
use Rattle.writer.proofs.RoundTrips.{as_written, putting-writable}
use Rattle.layout.proofs.Theorems.{writable-accepted}
use Rattle.vcf.specs.Pieces.{lines}
use Rattle.vcf.specs.Records.{position_of, last_position, records, touching, noted}
use Rattle.vcf.specs.Records.{heading, placed}
use Rattle.vcf.specs.Building.{text_from, window_text, building}
use Rattle.vcf.specs.Haplotypes.{Haplotype}
use Rattle.vcf.proofs.Digits.{position-small}
use Rattle.vcf.proofs.Kept.{Kept, kept, kept-records, records-refused}
use Rattle.vcf.proofs.Formed.{text-formed, formed-filled}
use Rattle.vcf.proofs.Haplotypes.{spelt, reference-spelt}
use Rattle.vcf.proofs.EmptyWindows.{Sound, sound-only, nothing-encoded, nothing_put, some-placed}
-- A record measured by itself is what is built of a window of its REF, from a file that has no other record: where there is room its
-- segment alone, which has the bytes that were measured; and one that is refused is refused there by the same number.
pub use Rattle.vcf.proofs.AloneBuilt.{measured_built, measured-refused}

-- No field states a position beyond the last: what is larger, or no number, is told as 0.
pub position-within : (s : List ℕ) → position_of s ≤ last_position
position-within = position-small

-- The text that is built: bases of the window, and the records that have a base in it.
abbrev pub built_text : List ℕ → List ℕ → ℕ → Text
built_text file window p = window_text (meant window) p file

module _ (file window : List ℕ) (p : ℕ) (name : List ℕ) (room : ℕ) where
  abbrev answer : Outcome Text
  answer = building file window p name room

  abbrev T : Text
  T = built_text file window p

  -- what is asked before the text is written: 28, 18, 7 and 19
  pub record Asked : Type 0 where
    pub put : placed window p ≡ true
    pub begun : prefix heading file ≡ true
    pub spelt : every letter window ≡ true
    pub kept : List (List ℕ)
    pub accepted : records name (meant window) p 1 0 (lines file) ≡ ok kept

  -- then it is written whole
  module _ (a : Asked) where
    of-lines : a.kept ≡ touching (meant window) p (lines file)
    of-lines = (kept name (meant window) p (lines file) a.kept 1 0 a.accepted).0

    in_window : Kept name (meant window) p 0 (touching (meant window) p (lines file))
    in_window = rw of-lines at (kept name (meant window) p (lines file) a.kept 1 0 a.accepted).1

    formed : all formed_segment T ≡ true
    formed = text-formed name (meant window) p (letters-capital window a.spelt) (touching (meant window) p (lines file)) 0 0 in_window

    whole : answer ≡ putting T room
    unfolding building
    whole = rw (a.put, a.begun, a.spelt, a.accepted, of-lines)

    -- Its 4, 8 and 15, and the text, are those of a write of the text's letters, lengths and counts.
    pub built-as-written : answer ≡ writing (letters_of T) (lengths_of T) (counts_of T) room
    built-as-written = whole ∙ sym (as_written T room formed)

  asked : (U : Text) → answer ≡ ok U → Asked
  unfolding building
  asked U e =
      let (put, e1) = demand-met (placed window p) 28 0 _ U e in
      let (begun, e2) = demand-met (prefix heading file) 18 0 _ U e1 in
      let (spelt, e3) = demand-met (every letter window) 7 (first_not letter window) _ U e2 in
      let (ls, accepted, e4) =
      after-met (records name (meant window) p 1 0 (lines file)) (λ ls. putting (text_from (meant window) p 0 ls) room) U e3 in
      record { put = put; begun = begun; spelt = spelt; kept = ls; accepted = accepted }

  -- An accepted call has built that text, and it can be written.
  module _ (U : Text) (e : answer ≡ ok U) where
    both : (U ≡ T) × (writable T ≡ true)
    both = let a = asked U e in putting-writable T room U (formed a) (sym (whole a) ∙ e)

    pub built : U ≡ T
    built = both.0

    pub built-writable : writable U ≡ true
    built-writable = rw built both.1

    -- It spells a string exactly if this is a haplotype that the records in the window allow.
    pub built-spells : (h : List ℕ) → Spells U h ↔ Haplotype (meant window) p 0 (touching (meant window) p (lines file)) h
    built-spells h = rw built (spelt (meant window) p (touching (meant window) p (lines file)) 0 h)

    -- So a sequence lies in one of these haplotypes exactly if a search of the text marks a segment.
    pub haplotype-marked :
        (P : List ℕ) → 0 < length P →
        ((h : List ℕ) × Haplotype (meant window) p 0 (touching (meant window) p (lines file)) h × Inside P h)
        ↔ ((j : ℕ) × (get_or (marks P U) j 0 ≡ 1))
    haplotype-marked P l =
        let read = read-ends U P l (rw built (formed-filled T (formed (asked U e)))) in (
          λ x.
              let (j, y) = read.0 (x.0, (built-spells x.0).1 x.1, x.2) in
              (j, (marks-ends P U j l).1 y),
          λ x.
              let (h, s, i) = read.1 (x.0, (marks-ends P U x.0 l).0 x.1) in
              (h, (built-spells h).0 s, i),
        )

    -- The reference itself is one of them.
    pub reference-is-spelt : Spells U (meant window)
    reference-is-spelt =
        (built-spells (meant window)).1
        (reference-spelt (meant window) p name (touching (meant window) p (lines file)) 0 0 (omega arith) (in_window (asked U e)))

-- What the call leaves reads back: the n bytes that an accepted call has written are a stretch that means the text, and are read on as it.
pub built-reads-back :
    (file window : List ℕ) (p : ℕ) (name d : List ℕ) (n : ℕ) (out : List ℕ) →
    told_written (Count n) ≡ written (building file window p name (length d)) → out ≡ left_by encode
    (building file window p name (length d)) d →
    (stretch_of (take n out) ≡ ok (built_text file window p)) × ReadsAs (take n out) (built_text file window p)
built-reads-back file window p name d n out told left =
    let (U, e, size) = told-met (building file window p name (length d)) (λ t. length (encode t)) n (sym told) in
    let front : take n out ≡ encode U =
    ap (take n) (left ∙ ap (λ (o : Outcome Text). left_by encode o d) e) ∙ over-front d (encode U) n size in
    let w = built-writable file window p name (length d) U e in
    let means : stretch_of (encode U) ≡ ok U = writable-accepted U w in
    rw (front, ← built file window p name (length d) U e) (means, rw (standing-encoded U w) at (reads_as (encode U) U means))

-- Records outside the window change nothing but what they may refuse: of a file that 19 does not refuse, the lines that have a base in
-- the window, after any heading and among any skipped lines, have the same answer.
pub part-built :
    (file part window : List ℕ) (p : ℕ) (name : List ℕ) (room : ℕ) →
    ((k : ℕ) → building file window p name room ≡ refused 19 k → ⊥) →
    prefix heading part ≡ prefix heading file → noted (lines part) ≡ touching (meant window) p (lines file) →
    building part window p name room ≡ building file window p name room
unfolding building
part-built file part window p name room sound same own =
    step (placed window p) (prefix heading file) (every letter window) (records name (meant window) p 1 0 (lines file)) same refl sound
  where
    rest : Outcome (List (List ℕ)) → Outcome Text
    rest o = after o λ ls. putting (text_from (meant window) p 0 ls) room

    asks : Bool → Bool → Bool → Outcome (List (List ℕ)) → Outcome Text
    asks a b c o = demand a 28 0 (demand b 18 0 (demand c 7 (first_not letter window) (rest o)))

    step :
        (a b c : Bool) (o : Outcome (List (List ℕ))) → prefix heading part ≡ b → records name (meant window) p 1 0 (lines file) ≡ o →
        ((k : ℕ) → asks a b c o ≡ refused 19 k → ⊥) →
        asks a (prefix heading part) c (records name (meant window) p 1 0 (lines part)) ≡ asks a b c o
    step false b c o f e n = refl
    step true false c o f e n = rw f
    step true true false o f e n = rw f
    step true true true (refused m q) f e n =
        let z : m ≡ 19 = records-refused name (meant window) p (lines file) 1 0 m q e in absurd (n q (rw z))
    step true true true (ok ls) f e n =
        let (is, k) = kept name (meant window) p (lines file) ls 1 0 e in
        let all : noted (lines part) ≡ ls = own ∙ sym is in
        let h = kept-records name (meant window) p (lines part) 1 0 (rw all k) in
        rw (f, h, all)

-- An empty window is built exactly if it has a position, the file's first line and its records are right, and there is room for two bytes.
module _ (file : List ℕ) (p : ℕ) (name : List ℕ) (room : ℕ) where
  abbrev pub Right : Type 0
  Right = (0 < p) × (prefix heading file ≡ true) × Sound name 0 (noted (lines file)) × (2 ≤ room)

  pub empty-built : Right → building file [] p name room ≡ ok []
  empty-built x = nothing_put file p name room x.0 x.1 x.2 ∙ rw (le-leb 2 room x.3)

  pub empty_right : (U : Text) → building file [] p name room ≡ ok U → Right
  empty_right U e =
      let a = asked file [] p name room U e in
      let some = some-placed p a.put in
      let sound = sound-only name p (lines file) a.kept 1 0 a.accepted in
      let (fits, _) = demand-met (leb 2 room) 15 0 (ok []) U (sym (nothing_put file p name room some a.begun sound) ∙ e) in
      (some, a.begun, sound, leb-true 2 room fits)

-- Then 00 00 is in front of the buffer, and the rest stays.
pub empty-window :
    (file : List ℕ) (p : ℕ) (name d : List ℕ) (r : Written) (out : List ℕ) →
    told_written r ≡ written (building file [] p name (length d)) → out ≡ left_by encode (building file [] p name (length d)) d →
    Right file p name (length d) → (r ≡ Count 2) × (out ≡ 0 ∷ 0 ∷ drop 2 d)
unfolding over
empty-window file p name d r out told left right =
    let e = empty-built file p name (length d) right in
    let two : written (building file [] p name (length d)) ≡ ok 2 =
    ap written e ∙ ap (λ (b : List ℕ). ok (length b)) nothing-encoded in (
      written-two r (told ∙ two),
      left ∙ ap (λ (o : Outcome Text). left_by encode o d) e ∙ ap (λ (b : List ℕ). b ++ drop (0 + length b) d) nothing-encoded,
    )
  where
    written-two : (r : Written) → told_written r ≡ ok 2 → r ≡ Count 2
    written-two (Count n) e = ap Count (ok-inj e)
    written-two (Refused w) e = absurd (refused-ok w.number w.place 2 e)
