-- A manifest as it is put: its lines are read back, its last line seals it, and its counts stand.
use Prim.Native.Nat.{ℕ, ◌-◌, ◌≤◌}
use native.Mathlib.Omega.{arith}
use mathlib.Core.Path.{◌≡◌, refl, sym, ap, ◌∙◌}
use mathlib.Core.Bool.{Bool, true}
use mathlib.Core.List.{List, [], ◌∷◌, ◌++◌, append-nil, append_assoc}
use lib.ListN.{length, take, drop, length-append}
use lib.Seq.{take_at, drop_at}
use Rattle.text.specs.Letter.{every}
use Rattle.text.specs.Compare.{prefix}
use Rattle.text.proofs.Strings.{same_refl, is-prefix, is-suffix}
use Rattle.digest.specs.Blake2b.{blake2b256}
use Rattle.lines.specs.Decimal.{digits}
use Rattle.lines.specs.Puts.{Put}
use Rattle.lines.proofs.Putting.{put-more, put_all}
use Rattle.manifest.specs.Kinds.{in_line, hex_digit, of_name}
use Rattle.manifest.specs.Line.{blanks}
use Rattle.manifest.specs.Lines.{Entry}
use Rattle.manifest.specs.Written.{hex_of, head_line, comment_line, comment_lines, entry_line, entry_lines, stretches_word, segments_word}
use Rattle.manifest.specs.Written.{bytes_word, digest_word, counts_line, digest_line, end_lines, front_of, manifest_of}
use Rattle.manifest.specs.Check.{before_seal, sealed, counts_stand}
use Rattle.manifest.proofs.Seals.{seal-length}
use Rattle.manifest.proofs.Plain.{both-every, digits-plain, decimal-plain, digest-digits}
use Rattle.manifest.proofs.ReadBack.{Plain, Sound, Reads, reads_end, reads-comment, reads-comments, reads-entries}

-- the first line, the counts and the last line are comments
head_words : List ℕ
head_words = take 16 (drop 1 head_line)

unfoldable pub counts_words : ℕ → ℕ → ℕ → List ℕ
counts_words n s b = drop 1 stretches_word ++ digits n ++ segments_word ++ digits s ++ bytes_word ++ digits b

seal_words : List ℕ → List ℕ
seal_words d = drop 1 digest_word ++ hex_of d

head-is : head_line ≡ comment_line head_words
unfolding comment_line head_words
head-is = refl

pub counts-is : (n s b : ℕ) → counts_line n s b ≡ comment_line (counts_words n s b)
unfolding counts_line comment_line counts_words
counts-is n s b = refl

seal-is : (d : List ℕ) → digest_line d ≡ comment_line (seal_words d)
unfolding digest_line comment_line seal_words
seal-is d = refl

head_plain : every in_line head_words ≡ true
unfolding every in_line hex_digit of_name head_words
head_plain = refl

pub counts-plain : (n s b : ℕ) → every in_line (counts_words n s b) ≡ true
unfolding every in_line hex_digit of_name counts_words
counts-plain n s b =
    let f : ℕ → Bool = in_line in
    let w : List ℕ = drop 1 stretches_word in
    let one = both-every f w (digits n) refl (decimal-plain n) in
    let two = both-every f (w ++ digits n) segments_word one refl in
    let three = both-every f (w ++ digits n ++ segments_word) (digits s) two (decimal-plain s) in
    let four = both-every f (w ++ digits n ++ segments_word ++ digits s) bytes_word three refl in
    both-every f (w ++ digits n ++ segments_word ++ digits s ++ bytes_word) (digits b) four (decimal-plain b)

seal-plain : (s : List ℕ) → every in_line (seal_words (blake2b256 s)) ≡ true
unfolding every in_line hex_digit of_name seal_words
seal-plain s =
    both-every in_line (drop 1 digest_word) (hex_of (blake2b256 s)) refl (digits-plain (hex_of (blake2b256 s)) (digest-digits s))

-- a line that is a comment
reads-own :
    (m u x c r : List ℕ) {es : List Entry} → x ≡ comment_line c → m ≡ u ++ (x ++ r) → every in_line c ≡ true →
    Reads m (length (u ++ x)) es → Reads m (length u) es
reads-own m u x c r {es} is e p rest =
    let a : m ≡ u ++ (comment_line c ++ r) = rw is at e in
    let b : Reads m (length (u ++ comment_line c)) es = rw is at rest in
    reads-comment m u c r a p b

module _ (cs : List (List ℕ)) (es : List Entry) (n s b : ℕ) where
  abbrev H : List ℕ
  H = head_line

  abbrev C : List ℕ
  C = comment_lines cs

  abbrev E : List ℕ
  E = entry_lines es

  abbrev K : List ℕ
  K = counts_line n s b

  abbrev seal : List ℕ
  seal = digest_line (blake2b256 (front_of cs es ++ K))

  abbrev m : List ℕ
  m = manifest_of cs es n s b

  five : (h c e k s : List ℕ) → h ++ c ++ e ++ (k ++ s) ≡ h ++ (c ++ (e ++ (k ++ s)))
  five h c e k s = simp append_assoc

  last : (h c e k s : List ℕ) → h ++ c ++ e ++ (k ++ s) ≡ h ++ c ++ e ++ k ++ (s ++ [])
  last h c e k s = rw (append-nil s) (simp append_assoc)

  inner : (h c e k s : List ℕ) → h ++ c ++ e ++ (k ++ s) ≡ h ++ c ++ (e ++ (k ++ s))
  inner h c e k s = append_assoc (h ++ c) e (k ++ s)

  pub reads_whole : Plain cs → Sound es → Reads m 0 es
  unfolding manifest_of front_of end_lines
  reads_whole p q =
      let all : length m ≡ length (H ++ C ++ E ++ K ++ seal) =
      ap length (last H C E K seal) ∙ ap (λ (x : List ℕ). length (H ++ C ++ E ++ K ++ x)) (append-nil seal) in
      let end : Reads m (length (H ++ C ++ E ++ K ++ seal)) [] = rw (← all) (reads_end m) in
      let sealed : Reads m (length (H ++ C ++ E ++ K)) [] =
      reads-own m (H ++ C ++ E ++ K) seal (seal_words (blake2b256 (front_of cs es ++ K))) [] (seal-is (blake2b256 (front_of cs es ++ K)))
      (last H C E K seal) (seal-plain (front_of cs es ++ K)) end in
      let counts : Reads m (length (H ++ C ++ E)) [] =
      reads-own m (H ++ C ++ E) K (counts_words n s b) seal (counts-is n s b) refl (counts-plain n s b) sealed in
      let entries : Reads m (length (H ++ C)) es = reads-entries es m (H ++ C) (K ++ seal) (inner H C E K seal) q counts in
      let comments : Reads m (length H) es = reads-comments cs m H (E ++ (K ++ seal)) (five H C E K seal) p entries in
      reads-own m [] H head_words (C ++ (E ++ (K ++ seal))) head-is (five H C E K seal) head_plain comments

  pub begins-whole : prefix head_line m ≡ true
  unfolding manifest_of front_of end_lines
  begins-whole = is-prefix head_line m (record { rest = C ++ (E ++ (K ++ seal)); split = five H C E K seal })

  -- the last line begins where 74 bytes are left
  parted : m ≡ (front_of cs es ++ K) ++ seal
  unfolding manifest_of end_lines
  parted = sym (append_assoc (front_of cs es) K seal)

  before : length (front_of cs es ++ K) ≡ length m - 74
  before = omega (arith, ap length parted ∙ length-append (front_of cs es ++ K) seal, seal-length (front_of cs es ++ K))

  pub front-whole : before_seal m ≡ front_of cs es ++ K
  front-whole = ap (take (length m - 74)) parted ∙ take_at (front_of cs es ++ K) seal (length m - 74) before

  pub sealed-whole : sealed m ≡ true
  unfolding sealed
  sealed-whole =
      let behind : drop (length m - 74) m ≡ seal =
      ap (drop (length m - 74)) parted ∙ drop_at (front_of cs es ++ K) seal (length m - 74) before in
      rw (behind, front-whole) (same_refl seal)

-- it ends with a line feed
pub record Ended (s : List ℕ) : Type 0 where
  pub lines : List ℕ
  pub is : s ≡ lines ++ (10 ∷ [])

ended-more : (u x l : List ℕ) → x ≡ l ++ (10 ∷ []) → Ended (u ++ x)
ended-more u x l e = record { lines = u ++ l; is = ap (λ (y : List ℕ). u ++ y) e ∙ sym (append_assoc u l (10 ∷ [])) }

ended-comments : (cs : List (List ℕ)) (u : List ℕ) → Ended u → Ended (u ++ comment_lines cs)
unfolding comment_lines comment_line
ended-comments [] u h = rw (append-nil u) h
ended-comments (c ∷ cs) u h =
    let next : Ended (u ++ comment_line c) = ended-more u (comment_line c) (0x23 ∷ c) refl in
    let rest : Ended (u ++ comment_line c ++ comment_lines cs) = ended-comments cs (u ++ comment_line c) next in
    rw (append_assoc u (comment_line c) (comment_lines cs)) at rest

ended-entries : (es : List Entry) (u : List ℕ) → Ended u → Ended (u ++ entry_lines es)
unfolding entry_lines entry_line
ended-entries [] u h = rw (append-nil u) h
ended-entries (e ∷ es) u h =
    let next : Ended (u ++ entry_line e) = ended-more u (entry_line e) (e.digest ++ blanks ++ e.name) refl in
    let rest : Ended (u ++ entry_line e ++ entry_lines es) = ended-entries es (u ++ entry_line e) next in
    rw (append_assoc u (entry_line e) (entry_lines es)) at rest

pub front-ended : (cs : List (List ℕ)) (es : List Entry) → Ended (front_of cs es)
unfolding front_of
front-ended cs es =
    let head : Ended head_line = record { lines = take 17 head_line; is = refl } in
    ended-entries es (head_line ++ comment_lines cs) (ended-comments cs head_line head)

-- the line of the counts stands after a line feed, before the last line
pub counts-there :
    (cs : List (List ℕ)) (es : List Entry) (n s b : ℕ) →
    before_seal (manifest_of cs es n s b) ≡ (front-ended cs es).lines ++ (10 ∷ counts_line n s b)
counts-there cs es n s b =
    let K : List ℕ = counts_line n s b in
    let h : Ended (front_of cs es) = front-ended cs es in
    front-whole cs es n s b ∙ ap (λ (x : List ℕ). x ++ K) h.is ∙ append_assoc h.lines (10 ∷ []) K

pub counts_whole : (cs : List (List ℕ)) (es : List Entry) (n s b : ℕ) → counts_stand (manifest_of cs es n s b) n s b ≡ true
unfolding counts_stand
counts_whole cs es n s b =
    is-suffix (10 ∷ counts_line n s b) (before_seal (manifest_of cs es n s b))
    (record { start = (front-ended cs es).lines; split = counts-there cs es n s b })

-- the front put whole, and then the last two lines: what stands in the buffer is the manifest
pub puts_whole :
    (cs : List (List ℕ)) (es : List Entry) (n s b : ℕ) {d o out : List ℕ} {at next : ℕ} → Put d 0 (front_of cs es) o at →
    Put o at (end_lines (take at o) n s b) out next → length (manifest_of cs es n s b) ≤ length d →
    (next ≡ length (manifest_of cs es n s b)) × (take next out ≡ manifest_of cs es n s b)
unfolding manifest_of
puts_whole cs es n s b {d} {o} {out} {at} {next} first second room =
    let F : List ℕ = front_of cs es in
    let long : length F ≤ length d = omega (arith, length-append F (end_lines F n s b)) in
    let here : take at o ≡ F = (put_all d F o at first long).1 in
    let then : Put o at (end_lines F n s b) out next = rw here at second in
    put_all d (F ++ end_lines F n s b) out next (put-more first then) room
