-- What is proved of a night, theorem by theorem. By their contracts `begin` and `begin_files` answer `beginning` and `beginning_files`,
-- `over` and `missed` answer `overing` and `missing`, and `end` answers `ending`; `night_after` is a row of such calls, whatever they are.
use Prim.Native.Nat.{ℕ, zero, suc, ◌+◌, ◌≤◌, ◌<◌, min}
use native.Mathlib.Omega.{arith}
use mathlib.Core.Path.{◌≡◌, refl, sym, ap, subst, ◌∙◌}
use mathlib.Core.Logic.{◌↔◌, ⊎_elim}
use mathlib.Core.Bool.{Bool, true, false, true≢false}
use mathlib.Core.List.{List, [], ◌∷◌, ◌++◌, map}
use mathlib.Core.List.{Memᴰ}
use lib.ListN.{length, get_or, length-append, length-take, length-replicate, get_or-replicate}
use lib.Seq.{take_all}
use Rattle.std.proofs.Common.{Option, Some, None, Ok, is_some}
use Rattle.text.specs.Text.{Text, total}
use Rattle.text.specs.Refusal.{ok, after}
use Rattle.text.proofs.Outcomes.{ok-inj, after-met}
use Rattle.layout.specs.Bytes.{word_at}
use Rattle.layout.specs.Reading.{stretch_of}
use Rattle.digest.specs.Blake2b.{blake2b256}
use Rattle.search.specs.Chain.{stretches_text}
use Rattle.desk_verdict.specs.Standing.{begun, stands}
use Rattle.desk_verdict.specs.declared.standing.Standing.{Standing}
use Rattle.desk_verdict.proofs.Firsts.{reads_whole, halts-stands, stands-halts}
use Rattle.desk_verdict.proofs.Theorems.{EndsOnEither, stands-clear}
use Rattle.desk_list.specs.Lines.{Sequence, sequences_of, most, checked_of}
use Rattle.desk_list.proofs.Theorems.{SoundList, check_sound}
use Rattle.manifest.specs.Lines.{entries_of, wrong_from}
use Rattle.manifest.specs.Check.{counts_stand}
use Rattle.manifest.specs.Check as Manifest
use Rattle.manifest.proofs.Theorems.{Whole, checked-sound}
use Rattle.desk_night.specs.Standings.{standing_at}
use Rattle.desk_night.specs.Night.{count_of, list_trouble, segments_of, begun_with, beginning, beginning_files}
use Rattle.desk_night.specs.TextTrouble.{text_trouble}
use Rattle.desk_night.specs.Ending.{is_left, ending}
use Rattle.desk_night.specs.Events.{Event, handed, unread, night_after, Vouched}
use Rattle.desk_night.specs.declared.trouble.Trouble.{Trouble}
use Rattle.desk_night.specs.declared.night.Night.{Night}
use Rattle.desk_night.specs.declared.ending.Verdict.{Verdict}
use Rattle.desk_night.proofs.Asks.{none_each, each_none, each-some}
use Rattle.desk_night.proofs.Rounds.{bases_at}
use Rattle.desk_night.proofs.Runs.{moves, moves-stands, moves-halts, sought, was-calm, cut, Ran, ran}
use Rattle.desk_night.proofs.Quiet.{Ahead, quiet}
use Rattle.desk_night.proofs.Clears.{list-calm, text-calm, neither, Cleared, ending-clear, clear-ending, vouched-stands, stands-vouched}

-- every sequence of a sound list was searched for in all of these stretches, and ends in none
pub record Searched (list : List ℕ) (ss : List (List ℕ)) : Type 0 where
  pub count : ℕ
  pub sound : checked_of list ≡ Ok count
  pub clear : (P : Sequence) → Memᴰ P (sequences_of list) → (y : Standing) × (stands P.bases begun ss ≡ ok y) × (y.ends ≡ 0)

-- the counts of a manifest are those of these stretches
abbrev pub Counts : List ℕ → List (List ℕ) → Type 0
Counts m ss = counts_stand m (cut (length ss)) (cut (total segments_of ss)) (cut (total length ss)) ≡ true

-- these are the stretches of a sound manifest, in order, each with its digest, and its counts are theirs
pub record Named (m : List ℕ) (ss : List (List ℕ)) : Type 0 where
  pub count : ℕ
  pub sound : Manifest.checked_of m ≡ Ok count
  pub own : Vouched (entries_of m) ss
  pub counts : Counts m ss

-- a sequence that is searched to its first end comes to the same where it ends nowhere
moves-clear : (first : Bool) (P : List ℕ) (ss : List (List ℕ)) (y : Standing) → moves first P begun ss ≡ ok y → y.ends ≡ 0
    → stands P begun ss ≡ ok y
moves-clear true P ss y e none = halts-stands P begun ss y refl (sym (moves-halts P begun ss) ∙ e) none
moves-clear false P ss y e none = sym (moves-stands P begun ss) ∙ e

clear-moves : (first : Bool) (P : List ℕ) (ss : List (List ℕ)) (y : Standing) → stands P begun ss ≡ ok y → y.ends ≡ 0
    → moves first P begun ss ≡ ok y
clear-moves true P ss y e none = moves-halts P begun ss ∙ (stands-halts P begun ss y e none).1
clear-moves false P ss y e none = moves-stands P begun ss ∙ e

-- a member has a number, and a number a member
mem-at : (P d : Sequence) (Ps : List Sequence) → Memᴰ P Ps → (i : ℕ) × (i < length Ps) × (get_or Ps i d ≡ P)
mem-at P d [] m = absurd (mathlib.Core.List.Memᴰ.not-nil m)
mem-at P d (Q ∷ Ps) m =
    ⊎_elim
    (λ (same : P ≡ Q). (0, omega arith, sym same))
    (λ (later : Memᴰ P Ps). let (i, l, e) = mem-at P d Ps later in (suc i, omega (arith, l), e))
    (mathlib.Core.List.Memᴰ.cases_cons m)

at_mem : (d : Sequence) (Ps : List Sequence) (i : ℕ) → i < length Ps → Memᴰ (get_or Ps i d) Ps
at_mem d [] i l = absurd (let z : ⊥ = omega (arith, l) in z)
at_mem d (Q ∷ Ps) zero l = mathlib.Core.List.Memᴰ.head refl
at_mem d (Q ∷ Ps) (suc i) l = mathlib.Core.List.Memᴰ.tail (at_mem d Ps i (omega (arith, l)))

-- rows of stretches that were handed in are the same if the calls are
handed_in : List Event → List (List ℕ)
handed_in [] = []
handed_in (handed s ∷ es) = s ∷ handed_in es
handed_in (unread ∷ es) = handed_in es

handed-back : (ss : List (List ℕ)) → handed_in (map handed ss) ≡ ss
unfolding handed_in
handed-back [] = refl
handed-back (s ∷ ss) = ap (λ (l : List (List ℕ)). s ∷ l) (handed-back ss)

handed-same : (ss ts : List (List ℕ)) → map handed ss ≡ map handed ts → ss ≡ ts
handed-same ss ts e = sym (handed-back ss) ∙ ap handed_in e ∙ handed-back ts

-- a night from its beginning
module _ (list m : List ℕ) (text : Option (List ℕ)) (first : Bool) (wrong : Option Trouble) where
  abbrev start : Night
  start = begun_with list text first wrong

  begun-at : (i : ℕ) → i < most → standing_at start.standings i ≡ begun
  unfolding begun_with
  begun-at i l = get_or-replicate most i begun _ l

  begun-room : length (sought list) ≤ length start.standings
  unfolding begun_with
  begun-room = omega (arith, length-take most (sequences_of list), length-replicate {A = Standing} most begun)

  abbrev any : Sequence
  any = record { label = 0; bases = [] }

  -- all of a sound list are sought, and counted
  module _ (n : ℕ) (is : checked_of list ≡ Ok n) where
    sought-all : sought list ≡ sequences_of list
    sought-all =
        let l : SoundList list n = check_sound list n is in
        let few : length (sequences_of list) ≤ most = omega (arith, l.count, l.few) in
        take_all most (sequences_of list) few

    sought-count : length (sought list) ≡ n
    sought-count = ap length sought-all ∙ (check_sound list n is).count

    begun-count : (y : Night) → y.count ≡ start.count → min y.count most ≡ n
    unfolding begun_with
    begun-count y e =
        let same : y.count ≡ n = e ∙ ap count_of is in
        omega (arith, same, (check_sound list n is).few)

    -- the sequence of a number, and its number
    sought-at : (P : Sequence) → Memᴰ P (sequences_of list)
        → (i : ℕ) × (i < length (sought list)) × (bases_at (sought list) i ≡ P.bases)
    sought-at P mem =
        let (i, l, e) = mem-at P any (sequences_of list) mem in
        let inside : i < length (sought list) = omega (arith, l, ap length sought-all) in
        (i, inside, ap (λ (Ps : List Sequence). (get_or Ps i any).bases) sought-all ∙ ap (λ (Q : Sequence). Q.bases) e)

    at-sought : (i : ℕ) → i < length (sought list) → Memᴰ (get_or (sought list) i any) (sequences_of list)
    at-sought i l = subst (λ (Ps : List Sequence). Memᴰ (get_or (sought list) i any) Ps) sought-all (at_mem any (sought list) i l)

  -- the counts after a row of calls
  counts-row : (y : Night) (es : List Event) (r : Ran list m start y es)
      → counts_stand m y.stretches y.segments y.bytes
      ≡ counts_stand m (cut (length r.stretches)) (cut (total segments_of r.stretches)) (cut (total length r.stretches))
  unfolding begun_with
  counts-row y es r =
      let none : 0 ≡ cut 0 = omega arith in
      let a : 0 + length r.stretches ≡ length r.stretches = omega arith in
      let b : 0 + total segments_of r.stretches ≡ total segments_of r.stretches = omega arith in
      let c : 0 + total length r.stretches ≡ total length r.stretches = omega arith in
      let p : y.stretches ≡ cut (length r.stretches) = r.many 0 none ∙ ap cut a in
      let q : y.segments ≡ cut (total segments_of r.stretches) = r.segments 0 none ∙ ap cut b in
      let d : y.bytes ≡ cut (total length r.stretches) = r.bytes 0 none ∙ ap cut c in
      λ i. counts_stand m (p i) (q i) (d i)

  module _ (es : List Event) (e : ending m (night_after list m start es) ≡ Ok Verdict.Clear) where
    abbrev last : Night
    last = night_after list m start es

    ended : Cleared m last
    ended = ending-clear m last e

    row : Ran list m start last es
    row = ran list m es start begun-room ended.quiet

    calms : (list_trouble (checked_of list) ≡ None) × (wrong ≡ None)
    unfolding begun_with
    calms = neither (list_trouble (checked_of list)) wrong (was-calm list m es start ended.quiet)

    clear-one : (n : ℕ) → checked_of list ≡ Ok n → (P : Sequence) → Memᴰ P (sequences_of list)
        → (y : Standing) × (stands P.bases begun row.stretches ≡ ok y) × (y.ends ≡ 0)
    unfolding begun_with
    clear-one n is P mem =
        let (i, l, same) = sought-at n is P mem in
        let low : i < most = omega (arith, l, sought-count n is, (check_sound list n is).few) in
        let inside : i < min last.count most = omega (arith, l, sought-count n is, begun-count n is last row.count) in
        let none : (standing_at last.standings i).ends ≡ 0 = none_each (min last.count most) last.standings ended.none i inside in
        let met : moves first P.bases begun row.stretches ≡ ok (standing_at last.standings i) =
        ap (λ (b : List ℕ). moves first b begun row.stretches) (sym same)
        ∙ ap (λ (x : Standing). moves first (bases_at (sought list) i) x row.stretches) (sym (begun-at i low))
        ∙ row.each i l in
        (standing_at last.standings i, moves-clear first P.bases row.stretches _ met none, none)

    searched : Searched list row.stretches
    searched =
        let (n, is) = list-calm (checked_of list) calms.0 in
        record { count = n; sound = is; clear = clear-one n is }

    stands-last : is_some text ≡ true
        → (is_left m last.at ≡ false) × (counts_stand m last.stretches last.segments last.bytes ≡ true)
    unfolding begun_with
    stands-last w = vouched-stands m last (ap is_some row.text ∙ w) ended.own

    own-last : is_some text ≡ true → wrong_from m 0 ≡ false → Vouched (entries_of m) row.stretches
    unfolding begun_with
    own-last w right = row.named w right (stands-last w).0

    counts-last : is_some text ≡ true → Counts m row.stretches
    counts-last w = sym (counts-row last es row) ∙ (stands-last w).1

  -- stretches of which nothing keeps a night from being clear
  module _ (ss : List (List ℕ)) (s : Searched list ss) (c : wrong ≡ None) (own : is_some text ≡ true → Ahead m 0 ss)
      (counts : is_some text ≡ true → Counts m ss) where
    abbrev over : Night
    over = night_after list m start (map handed ss)

    -- where sequence i comes to
    clear_at : (i : ℕ) → i < length (sought list)
        → (y : Standing) × (moves first (bases_at (sought list) i) (standing_at start.standings i) ss ≡ ok y) × (y.ends ≡ 0)
    clear_at i l =
        let n : ℕ = s.count in
        let low : i < most = omega (arith, l, sought-count n s.sound, (check_sound list n s.sound).few) in
        let P : Sequence = get_or (sought list) i any in
        let (y, met, none) = s.clear P (at-sought n s.sound i l) in (
          y,
          ap (λ (x : Standing). moves first P.bases x ss) (begun-at i low) ∙ clear-moves first P.bases ss y met none,
          none,
        )

    quiet-over : (over.trouble ≡ None) × (is_some text ≡ true → is_left m over.at ≡ false)
    unfolding begun_with
    quiet-over =
        let sound : list_trouble (checked_of list) ≡ None = ap list_trouble s.sound in
        quiet list m ss start (rw (sound, c) refl) begun-room
        (λ i l. let (y, met, none) = clear_at i l in (y, met)) own

    row-over : Ran list m start over (map handed ss)
    row-over = ran list m (map handed ss) start begun-room quiet-over.0

    same_over : row-over.stretches ≡ ss
    same_over = sym (handed-same ss row-over.stretches row-over.events)

    none_over : (i : ℕ) → i < min over.count most → (standing_at over.standings i).ends ≡ 0
    unfolding begun_with
    none_over i h =
        let n : ℕ = s.count in
        let l : i < length (sought list) = omega (arith, h, sought-count n s.sound, begun-count n s.sound over row-over.count) in
        let (y, met, none) = clear_at i l in
        let there : moves first (bases_at (sought list) i) (standing_at start.standings i) ss ≡ ok (standing_at over.standings i) =
        ap (moves first (bases_at (sought list) i) (standing_at start.standings i)) (sym same_over) ∙ row-over.each i l in
        let is : standing_at over.standings i ≡ y = ok-inj (sym there ∙ met) in
        ap (λ (x : Standing). x.ends) is ∙ none

    counts-over : is_some text ≡ true → counts_stand m over.stretches over.segments over.bytes ≡ true
    counts-over w =
        counts-row over (map handed ss) row-over
        ∙ ap (λ (ts : List (List ℕ)). counts_stand m (cut (length ts)) (cut (total segments_of ts)) (cut (total length ts))) same_over
        ∙ counts w

    start-clear : ending m over ≡ Ok Verdict.Clear
    unfolding begun_with
    start-clear =
        let n : ℕ = s.count in
        let some : 0 < min over.count most =
        omega (arith, begun-count n s.sound over row-over.count, (check_sound list n s.sound).some) in
        clear-ending m over
        (record {
          quiet = quiet-over.0;
          own = stands-vouched m over
              (λ w.
              let named : is_some text ≡ true = sym (ap is_some row-over.text) ∙ w in
              (quiet-over.1 named, counts-over named));
          none = each_none (min over.count most) over.standings none_over;
        })
        (each-some (min over.count most) over.standings some none_over)

-- a night with a manifest is clear exactly if the stretches of the manifest were handed in, each of them and nothing else
pub clear-exactly : (list m : List ℕ) (first : Bool) (es : List Event)
    → (ending m (night_after list m (beginning list m first) es) ≡ Ok Verdict.Clear)
    ↔ ((ss : List (List ℕ)) × (es ≡ map handed ss) × Searched list ss × Named m ss)
unfolding beginning
clear-exactly list m first es = (
  λ e.
      let text : Option (List ℕ) = Some (blake2b256 m) in
      let wrong : Option Trouble = text_trouble (Manifest.checked_of m) in
      let r = row list m text first wrong es e in
      let (n, is) = text-calm (Manifest.checked_of m) (calms list m text first wrong es e).1 in (
        r.stretches,
        r.events,
        searched list m text first wrong es e,
        record {
          count = n;
          sound = is;
          own = own-last list m text first wrong es e refl (checked-sound m n is).right;
          counts = counts-last list m text first wrong es e refl;
        },
      ),
  λ (ss, events, s, n).
      let text : Option (List ℕ) = Some (blake2b256 m) in
      let wrong : Option Trouble = text_trouble (Manifest.checked_of m) in
      let quiet : wrong ≡ None = ap text_trouble n.sound in
      subst (λ (l : List Event). ending m (night_after list m (begun_with list text first wrong) l) ≡ Ok Verdict.Clear) (sym events)
      (start-clear list m text first wrong ss s quiet (λ _. ((checked-sound m n.count n.sound).right, n.own)) (λ _. n.counts)),
)

-- a night over files is clear exactly if every call handed a stretch in, and nothing ends in them
pub files-exactly : (list m : List ℕ) (first : Bool) (es : List Event)
    → (ending m (night_after list m (beginning_files list first) es) ≡ Ok Verdict.Clear)
    ↔ ((ss : List (List ℕ)) × (es ≡ map handed ss) × Searched list ss)
unfolding beginning_files
files-exactly list m first es = (
  λ e.
      let r = row list m None first None es e in
      (r.stretches, r.events, searched list m None first None es e),
  λ (ss, events, s).
      subst (λ (l : List Event). ending m (night_after list m (begun_with list None first None) l) ≡ Ok Verdict.Clear) (sym events)
      (start-clear list m None first None ss s refl (λ w. absurd (true≢false (sym w)))
      (λ w. absurd (true≢false (sym w)))),
)

-- with `--first` a night is clear exactly if it is clear without
pub first-same : (list m : List ℕ) (es : List Event)
    → (ending m (night_after list m (beginning list m true) es) ≡ Ok Verdict.Clear)
    ↔ (ending m (night_after list m (beginning list m false) es) ≡ Ok Verdict.Clear)
first-same list m es = (
  λ e. (clear-exactly list m false es).1 ((clear-exactly list m true es).0 e),
  λ e. (clear-exactly list m true es).1 ((clear-exactly list m false es).0 e),
)

pub files-first-same : (list m : List ℕ) (es : List Event)
    → (ending m (night_after list m (beginning_files list true) es) ≡ Ok Verdict.Clear)
    ↔ (ending m (night_after list m (beginning_files list false) es) ≡ Ok Verdict.Clear)
files-first-same list m es = (
  λ e. (files-exactly list m false es).1 ((files-exactly list m true es).0 e),
  λ e. (files-exactly list m true es).1 ((files-exactly list m false es).0 e),
)

-- a text that may go out: the list is sound, every stretch is accepted, and no occurrence of any sequence of the list, on either strand,
-- ends anywhere in their text
pub record Released (list : List ℕ) (ss : List (List ℕ)) : Type 0 where
  pub count : ℕ
  pub sound : SoundList list count
  pub text : Text
  pub accepted : stretches_text ss ≡ ok text
  pub none : (P : Sequence) → Memᴰ P (sequences_of list) → (j : ℕ) → EndsOnEither P.bases text j → ⊥

-- it is the text of a manifest: that is sound, and these are its stretches, each, in order, with its digest, and their counts are its own
pub record Vouches (m : List ℕ) (ss : List (List ℕ)) (text : Text) : Type 0 where
  pub count : ℕ
  pub sound : Whole m count
  pub own : Vouched (entries_of m) ss
  pub counts : counts_stand m (cut (length ss)) (cut (length text)) (cut (total length ss)) ≡ true

released : (list : List ℕ) (ss : List (List ℕ)) → Searched list ss → Released list ss
released list ss s =
    let l : SoundList list s.count = check_sound list s.count s.sound in
    let any : Sequence = record { label = 0; bases = [] } in
    let one : 0 < length (sequences_of list) = omega (arith, l.count, l.some) in
    let P : Sequence = get_or (sequences_of list) 0 any in
    let mem : Memᴰ P (sequences_of list) = at_mem any (sequences_of list) 0 one in
    let (x, stood, none) = s.clear P mem in
    let (T, accepted, _) = stands-clear P.bases ss x (l.sound P mem) stood none in
    record {
      count = s.count;
      sound = l;
      text = T;
      accepted = accepted;
      none = λ Q member j.
          let (y, met, nowhere) = s.clear Q member in
          let (U, also, nothing) = stands-clear Q.bases ss y (l.sound Q member) met nowhere in
          let same : T ≡ U = ok-inj (sym accepted ∙ also) in
          λ ends. nothing j (rw same at ends);
    }

-- the segments that accepted stretches state are those of their text
segments-text : (ss : List (List ℕ)) (T : Text) → stretches_text ss ≡ ok T → total segments_of ss ≡ length T
unfolding stretches_text total segments_of
segments-text [] T e = ap length (ok-inj e)
segments-text (s ∷ ss) T e =
    let (t, here, more) = after-met (stretch_of s) (λ t. after (stretches_text ss) λ U. ok (t ++ U)) T e in
    let (U, rest, same) = after-met (stretches_text ss) (λ U. ok (t ++ U)) T more in
    let own : word_at s 0 ≡ length t = (reads_whole s t here).states in
    let others : total segments_of ss ≡ length U = segments-text ss U rest in
    let sum : length t + length U ≡ length T = sym (length-append t U) ∙ ap length (ok-inj same) in
    omega (arith, own, others, sum)

-- NO FALSE CLEAR. Whatever is handed in, and whatever is called: a night that ends clear was over the text of its manifest, and nothing of
-- its list ends there
pub night-clear : (list m : List ℕ) (first : Bool) (es : List Event)
    → ending m (night_after list m (beginning list m first) es) ≡ Ok Verdict.Clear
    → (ss : List (List ℕ)) × (es ≡ map handed ss) × (r : Released list ss) × Vouches m ss r.text
night-clear list m first es e =
    let (ss, events, s, n) = (clear-exactly list m first es).0 e in
    let r : Released list ss = released list ss s in
    let same : total segments_of ss ≡ length r.text = segments-text ss r.text r.accepted in (
      ss,
      events,
      r,
      record {
        count = n.count;
        sound = checked-sound m n.count n.sound;
        own = n.own;
        counts = ap (λ (k : ℕ). counts_stand m (cut (length ss)) (cut k) (cut (total length ss))) (sym same) ∙ n.counts;
      },
    )

-- the same of files for which nobody vouches: nothing of the list ends in the stretches that were handed in
pub files-clear : (list m : List ℕ) (first : Bool) (es : List Event)
    → ending m (night_after list m (beginning_files list first) es) ≡ Ok Verdict.Clear
    → (ss : List (List ℕ)) × (es ≡ map handed ss) × Released list ss
files-clear list m first es e =
    let (ss, events, s) = (files-exactly list m first es).0 e in
    (ss, events, released list ss s)
