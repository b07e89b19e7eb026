-- Lines that were put are read back: where each begins, what it says, and so all of them.
use Prim.Native.Nat.{ℕ, suc, ◌+◌, ◌-◌, ◌<◌}
use native.Mathlib.Omega.{arith}
use mathlib.Core.Path.{◌≡◌, refl, sym, ap, ◌∙◌}
use mathlib.Core.Bool.{true, false, not}
use mathlib.Core.List.{List, [], ◌∷◌, ◌++◌, append-nil, append_assoc}
use borrow.Author.Tests.{lt-leb}
use Rattle.std.proofs.Common.{Some, None}
use lib.Dec.{eqb, ltb}
use lib.ListN.{length, take, drop, get_or, length-append}
use lib.Seq.{take_at, drop_at, drop-drop, drop-append_seam}
use Rattle.text.specs.Letter.{every, first_not}
use Rattle.text.specs.Compare.{same, from_to}
use Rattle.text.proofs.Strings.{same_refl}
use Rattle.text.proofs.Truth.{and_left, and_right, and_both}
use Rattle.manifest.specs.Kinds.{in_line, hex_digit, of_name, is_name}
use Rattle.manifest.specs.Line.{blanks, is_comment, is_entry, comment, entry, said_by, line_to, end_from, line_of}
use Rattle.manifest.specs.Lines.{Entry, entry_at, entries_from, wrong_from}
use Rattle.manifest.specs.Written.{comment_line, comment_lines, entry_for, entry_line, entry_lines}
use Rattle.manifest.proofs.Entries.{line-none}
use Rattle.manifest.proofs.Lines.{entries_none, entries-more, wrong-none, wrong-more}
use Rattle.manifest.proofs.Seals.{hex-digest}
use Rattle.manifest.proofs.Plain.{both-every, digits-plain, names-plain, digit-no-comment, digest-digits, first-feed}

-- an entry that can be put: 64 digits and a name
pub record SoundEntry (e : Entry) : Type 0 where
  pub size : length e.digest ≡ 64
  pub digits : every hex_digit e.digest ≡ true
  pub named : is_name e.name ≡ true

-- that of a stretch under a name is one
pub entry-for : (stretch name : List ℕ) → is_name name ≡ true → SoundEntry (entry_for stretch name)
entry-for stretch name e = record { size = hex-digest stretch; digits = digest-digits stretch; named = e }

-- the entries from a place on are these, and no line is wrong
pub record Reads (m : List ℕ) (at : ℕ) (es : List Entry) : Type 0 where
  pub entries : entries_from m at ≡ es
  pub right : wrong_from m at ≡ false

pub reads_end : (m : List ℕ) → Reads m (length m) []
reads_end m =
    let none : line_of m (length m) ≡ None = sym (line-none m (length m) (omega arith)) in
    record { entries = entries_none m (length m) none; right = wrong-none m (length m) none }

-- what a comment's line and an entry's line say
comment-said : (at end : ℕ) (l : List ℕ) → is_comment l ≡ true → said_by at end l ≡ comment (end + 1)
unfolding said_by
comment-said at end l e = rw e refl

entry-said : (at end : ℕ) (l : List ℕ) → is_comment l ≡ false → is_entry l ≡ true → said_by at end l ≡ entry (at + 66) end (end + 1)
unfolding said_by
entry-said at end l c e = rw (c, e) refl

-- an entry's line without its end
abbrev content_of : Entry → List ℕ
content_of e = e.digest ++ blanks ++ e.name

no-comment : (d r : List ℕ) → length d ≡ 64 → every hex_digit d ≡ true → is_comment (d ++ r) ≡ false
unfolding is_comment every
no-comment [] r n e = absurd (let z : ⊥ = omega arith in z)
no-comment (c ∷ d) r n e = digit-no-comment c (and_left (hex_digit c) (every hex_digit d) e)

name-bytes : (n : List ℕ) → is_name n ≡ true → every of_name n ≡ true
unfolding is_name
name-bytes n e = and_right (not (eqb (get_or n 0 0) 0x2F)) (every of_name n) (and_right (ltb 0 (length n)) _ e)

blanks-plain : every in_line blanks ≡ true
unfolding every in_line hex_digit of_name
blanks-plain = refl

module _ (e : Entry) (s : SoundEntry e) where
  front : length (e.digest ++ blanks) ≡ 66
  front = length-append e.digest blanks ∙ (let z : length e.digest + 2 ≡ 66 = omega (arith, s.size) in z)

  content-length : length (content_of e) ≡ 66 + length e.name
  content-length = length-append (e.digest ++ blanks) e.name ∙ ap (λ (n : ℕ). n + length e.name) front

  content-plain : every in_line (content_of e) ≡ true
  content-plain =
      both-every in_line (e.digest ++ blanks) e.name
      (both-every in_line e.digest blanks (digits-plain e.digest s.digits) blanks-plain)
      (names-plain e.name (name-bytes e.name s.named))

  content-no-comment : is_comment (content_of e) ≡ false
  content-no-comment = rw (append_assoc e.digest blanks e.name) (no-comment e.digest (blanks ++ e.name) s.size s.digits)

  content-entry : is_entry (content_of e) ≡ true
  unfolding is_entry
  content-entry =
      let parted : content_of e ≡ e.digest ++ (blanks ++ e.name) = append_assoc e.digest blanks e.name in
      let digest : take 64 (content_of e) ≡ e.digest = ap (take 64) parted ∙ take_at e.digest (blanks ++ e.name) 64 s.size in
      let blank : drop 64 (content_of e) ≡ blanks ++ e.name = ap (drop 64) parted ∙ drop_at e.digest (blanks ++ e.name) 64 s.size in
      let name : drop 66 (content_of e) ≡ e.name = drop_at (e.digest ++ blanks) e.name 66 front in
      rw (digest, blank, name)
      (and_both (every hex_digit e.digest) _ s.digits (and_both (same blanks blanks) _ (same_refl blanks) s.named))

-- a line l that begins after u
module _ (u l r : List ℕ) (plain : every in_line l ≡ true) where
  abbrev whole : List ℕ
  whole = u ++ (l ++ (10 ∷ r))

  at-line : drop (length u) whole ≡ l ++ (10 ∷ r)
  at-line = drop-append_seam u (l ++ (10 ∷ r))

  size : length whole ≡ length u + (length l + suc (length r))
  size = length-append u (l ++ (10 ∷ r)) ∙ ap (λ (n : ℕ). length u + n) (length-append l (10 ∷ r))

  begins : length u < length whole
  begins = omega (arith, size)

  ends : end_from whole (length u) ≡ length u + length l
  ends = ap (λ (n : ℕ). length u + n) (ap (first_not in_line) at-line ∙ first-feed l r plain)

  content : from_to whole (length u) (length u + length l) ≡ l
  content =
      let n : length u + length l - length u ≡ length l = omega arith in
      rw (n, at-line) (take_at l (10 ∷ r) (length l) refl)

  line-there : line_of whole (length u) ≡ Some (said_by (length u) (length u + length l) l)
  unfolding line_of line_to
  line-there =
      let inside : length u + length l < length whole = omega (arith, size) in
      rw (lt-leb (length whole) (length u) begins, ends, lt-leb (length whole) (length u + length l) inside, content) refl

  comment-there : is_comment l ≡ true → {es : List Entry} → Reads whole (length u + length l + 1) es → Reads whole (length u) es
  comment-there c {es} rest =
      let line : line_of whole (length u) ≡ Some (comment (length u + length l + 1)) =
      line-there ∙ ap Some (comment-said (length u) (length u + length l) l c) in
      record {
        entries = entries-more whole (length u) line ∙ rest.entries;
        right = wrong-more whole (length u) line ∙ rest.right;
      }

  entry-there :
      is_comment l ≡ false → is_entry l ≡ true → {es : List Entry} → Reads whole (length u + length l + 1) es →
      Reads whole (length u) (entry_at whole (length u + 66) (length u + length l) ∷ es)
  entry-there c e {es} rest =
      let line : line_of whole (length u) ≡ Some (entry (length u + 66) (length u + length l) (length u + length l + 1)) =
      line-there ∙ ap Some (entry-said (length u) (length u + length l) l c e) in
      record {
        entries = entries-more whole (length u) line
            ∙ ap (λ (fs : List Entry). entry_at whole (length u + 66) (length u + length l) ∷ fs) rest.entries;
        right = wrong-more whole (length u) line ∙ rest.right;
      }

-- the entry that is read is the one that was put
module _ (e : Entry) (s : SoundEntry e) (u r : List ℕ) where
  abbrev there : List ℕ
  there = u ++ (content_of e ++ (10 ∷ r))

  from-entry : drop (length u) there ≡ content_of e ++ (10 ∷ r)
  from-entry = drop-append_seam u (content_of e ++ (10 ∷ r))

  read-digest : from_to there (length u + 66 - 66) (length u + 66 - 2) ≡ e.digest
  read-digest =
      let a : length u + 66 - 66 ≡ length u = omega arith in
      let b : length u + 66 - 2 - length u ≡ 64 = omega arith in
      let parted : content_of e ++ (10 ∷ r) ≡ e.digest ++ (blanks ++ (e.name ++ (10 ∷ r))) = simp append_assoc in
      rw (a, b, from-entry, parted) (take_at e.digest (blanks ++ (e.name ++ (10 ∷ r))) 64 s.size)

  read_name : from_to there (length u + 66) (length u + length (content_of e)) ≡ e.name
  read_name =
      let n : length u + length (content_of e) - (length u + 66) ≡ length e.name = omega (arith, content-length e s) in
      let parted : content_of e ++ (10 ∷ r) ≡ (e.digest ++ blanks) ++ (e.name ++ (10 ∷ r)) =
      append_assoc (e.digest ++ blanks) e.name (10 ∷ r) in
      let name : drop (length u + 66) there ≡ e.name ++ (10 ∷ r) =
      sym (drop-drop 66 (length u) there) ∙ ap (drop 66) (from-entry ∙ parted)
      ∙ drop_at (e.digest ++ blanks) (e.name ++ (10 ∷ r)) 66 (front e s) in
      rw (n, name) (take_at e.name (10 ∷ r) (length e.name) refl)

  read-entry : entry_at there (length u + 66) (length u + length (content_of e)) ≡ e
  read-entry = λ i. record { digest = read-digest i; name = read_name i }

-- a line after u, in a manifest m
pub reads-comment :
    (m u c r : List ℕ) {es : List Entry} → m ≡ u ++ (comment_line c ++ r) → every in_line c ≡ true →
    Reads m (length (u ++ comment_line c)) es → Reads m (length u) es
unfolding comment_line is_comment every in_line hex_digit of_name
reads-comment m u c r {es} e plain rest =
    let l : List ℕ = 0x23 ∷ c in
    let same : m ≡ u ++ (l ++ (10 ∷ r)) = e ∙ ap (λ (x : List ℕ). u ++ (0x23 ∷ x)) (append_assoc c (10 ∷ []) r) in
    let next : length (u ++ comment_line c) ≡ length u + length l + 1 =
    length-append u (comment_line c) ∙ (let z : length u + suc (length (c ++ (10 ∷ []))) ≡ length u + length l + 1 =
    omega (arith, length-append c (10 ∷ [])) in z) in
    let after : Reads (u ++ (l ++ (10 ∷ r))) (length u + length l + 1) es = rw (same, next) at rest in
    rw same (comment-there u l r plain refl after)

pub reads-entry :
    (m u : List ℕ) (e : Entry) (r : List ℕ) {es : List Entry} → m ≡ u ++ (entry_line e ++ r) → SoundEntry e →
    Reads m (length (u ++ entry_line e)) es → Reads m (length u) (e ∷ es)
unfolding entry_line
reads-entry m u e r {es} is s rest =
    let l : List ℕ = content_of e in
    let same : m ≡ u ++ (l ++ (10 ∷ r)) = is ∙ ap (λ (x : List ℕ). u ++ x) (append_assoc l (10 ∷ []) r) in
    let next : length (u ++ entry_line e) ≡ length u + length l + 1 =
    length-append u (entry_line e) ∙ (let z : length u + length (l ++ (10 ∷ [])) ≡ length u + length l + 1 =
    omega (arith, length-append l (10 ∷ [])) in z) in
    let after : Reads (u ++ (l ++ (10 ∷ r))) (length u + length l + 1) es = rw (same, next) at rest in
    let read : Reads (u ++ (l ++ (10 ∷ r))) (length u) (entry_at (u ++ (l ++ (10 ∷ r))) (length u + 66) (length u + length l) ∷ es) =
    entry-there u l r (content-plain e s) (content-no-comment e s) (content-entry e s) after in
    rw same (rw (read-entry e s u r) at read)

-- comments without a line feed
abbrev pub Plain : List (List ℕ) → Type 0
Plain [] = Unit {0}
Plain (c ∷ cs) = (every in_line c ≡ true) × Plain cs

-- entries that can be put
abbrev pub Sound : List Entry → Type 0
Sound [] = Unit {0}
Sound (e ∷ es) = SoundEntry e × Sound es

pub reads-comments :
    (cs : List (List ℕ)) (m u r : List ℕ) {es : List Entry} → m ≡ u ++ (comment_lines cs ++ r) → Plain cs →
    Reads m (length (u ++ comment_lines cs)) es → Reads m (length u) es
unfolding comment_lines
reads-comments [] m u r e p rest = rw (append-nil u) at rest
reads-comments (c ∷ cs) m u r {es} e p rest =
    let x : List ℕ = comment_line c in
    let a : m ≡ u ++ (x ++ (comment_lines cs ++ r)) = e ∙ ap (λ (y : List ℕ). u ++ y) (append_assoc x (comment_lines cs) r) in
    let b : m ≡ (u ++ x) ++ (comment_lines cs ++ r) = a ∙ sym (append_assoc u x (comment_lines cs ++ r)) in
    let after : Reads m (length ((u ++ x) ++ comment_lines cs)) es = rw (append_assoc u x (comment_lines cs)) rest in
    reads-comment m u c (comment_lines cs ++ r) a p.0 (reads-comments cs m (u ++ x) r b p.1 after)

pub reads-entries :
    (es : List Entry) (m u r : List ℕ) → m ≡ u ++ (entry_lines es ++ r) → Sound es → Reads m (length (u ++ entry_lines es)) [] →
    Reads m (length u) es
unfolding entry_lines
reads-entries [] m u r e p rest = rw (append-nil u) at rest
reads-entries (f ∷ es) m u r e p rest =
    let x : List ℕ = entry_line f in
    let a : m ≡ u ++ (x ++ (entry_lines es ++ r)) = e ∙ ap (λ (y : List ℕ). u ++ y) (append_assoc x (entry_lines es) r) in
    let b : m ≡ (u ++ x) ++ (entry_lines es ++ r) = a ∙ sym (append_assoc u x (entry_lines es ++ r)) in
    let after : Reads m (length ((u ++ x) ++ entry_lines es)) [] = rw (append_assoc u x (entry_lines es)) rest in
    reads-entry m u f (entry_lines es ++ r) a p.0 (reads-entries es m (u ++ x) r b p.1 after)
