-- The calls over a list: what each step says of what is told.
use Rattle.std.proofs.Common.{◌≡◌, refl, sym, ap, ◌∙◌, ℕ, suc, ◌+◌, ◌<◌, ◌≤◌, Bool, true, false, not, cond, ◌&&◌, List, [], ◌∷◌, length, drop, get_or, Option, Some, None, arith}
use mathlib.Core.Bool.{true≢false, false≢true}
use mathlib.Core.Logic.{by_cases}
use native.Mathlib.Decide.{dec_lt}
use borrow.Author.Tests.{lt-ltb, le-ltb, lt-leb, le-leb}
use lib.Dec.{leb, ltb}
use lib.Seq.{drop-cons}
use lib.ListN.{drop_of_length-le}
use Rattle.std.specs.List.{position_or_len}
use Rattle.std.specs.Option.{is_some}
use Rattle.text.specs.Text.{Text}
use Rattle.text.specs.Card.{none}
use Rattle.text.specs.Refusal.{Outcome, ok, refused, demand}
use Rattle.text.specs.declared.refusal.Refusal.{Refusal}
use Rattle.text.proofs.Outcomes.{told-met, told-refused, refused-ok}
use Rattle.layout.specs.Reading.{stretch_of}
use Rattle.layout.proofs.Frames.{stretch-whole}
use Rattle.stretch.specs.Answers.{told_checked, checking}
use Rattle.stretch.specs.declared.checking.Checked.{Checked}
use Rattle.watch.specs.Watching.{most_watched, sound, all_sound, first_wrong, listing, first_of, ends_in, blank, seen, clear, first_seen, watching, marking, accepted, marks_of}
use Rattle.watch.specs.Sight.{Sought, text_of, some_end}
use Rattle.watch.specs.declared.watched.Watched.{Watched}
use mir.Val.{bool_byte}
use lib.ListN.{set}
use Rattle.layout.proofs.Overs.{Copied, copied_more}
use Rattle.watch.proofs.Lists.{listing-met, all-spell, mark-at, marks-count}

-- the first record whose pattern is refused, as std looks for it
abbrev pub is_wrong : Watched → Bool
is_wrong w = not (sound w)

abbrev raise : Option ℕ → Option ℕ
raise None = None
raise (Some k) = Some (1 + k)

pub wrong-is : (ws : List Watched)
    → cond (ltb (position_or_len is_wrong ws) (length ws)) (Some (position_or_len is_wrong ws)) None
    ≡ cond (all_sound ws) None (Some (first_wrong ws))
unfolding all_sound first_wrong
wrong-is [] = refl
wrong-is (w ∷ ws) = go (sound w) (position_or_len is_wrong ws) (wrong-is ws)
  where
    n : ℕ
    n = length ws

    left : (k : ℕ) → raise (cond (ltb k (length ws)) (Some k) None) ≡ cond (ltb (1 + k) (suc (length ws))) (Some (1 + k)) None
    left k =
        by_cases (dec_lt k (length ws))
        (λ (l : k < length ws). rw (lt-ltb k (length ws) l, lt-ltb (1 + k) (suc (length ws)) (omega arith)) refl)
        (λ (l : ¬ (k < length ws)).
        let far : length ws ≤ k = omega arith in rw (le-ltb k (length ws) far, le-ltb (1 + k) (suc (length ws)) (omega arith)) refl)

    right : (b : Bool) (m : ℕ) → raise (cond b None (Some m)) ≡ cond b None (Some (suc m))
    right true m = refl
    right false m = ap Some (let z : 1 + m ≡ suc m = omega arith in z)

    go : (b : Bool) (k : ℕ) → cond (ltb k (length ws)) (Some k) None ≡ cond (all_sound ws) None (Some (first_wrong ws))
        → cond (ltb (cond (not (not b)) (1 + k) 0) (suc (length ws))) (Some (cond (not (not b)) (1 + k) 0)) None
        ≡ cond (b && all_sound ws) None (Some (cond b (suc (first_wrong ws)) 0))
    go true k e = sym (left k) ∙ ap raise e ∙ right (all_sound ws) (first_wrong ws)
    go false k e = rw (lt-ltb 0 (suc (length ws)) (omega arith)) refl

-- 20 and 21
module _ {A : Type 0} (o : Outcome A) where
  pub wrong-some : (b : Bool) (m p : ℕ) → Some p ≡ cond b None (Some m) → refused 21 p ≡ demand b 21 m o
  wrong-some true m p e = absurd (true≢false (ap is_some e))
  wrong-some false m p e = let z : p ≡ m = cc in ap (refused 21) z

  pub wrong-none : (b : Bool) (m : ℕ) → None ≡ cond b None (Some m) → o ≡ demand b 21 m o
  wrong-none true m e = refl
  wrong-none false m e = absurd (false≢true (ap is_some e))

module _ (ws : List Watched) (s : List ℕ) where
  abbrev pub asked : Outcome (Unit {0})
  asked = demand (leb (length ws) most_watched) 20 0 (demand (all_sound ws) 21 (first_wrong ws) (ok (tt {0})))

  pub list-refused : (n p : ℕ) → asked ≡ refused n p → accepted (listing ws s) ≡ refused n p
  unfolding listing
  list-refused n p = go (leb (length ws) most_watched) (all_sound ws)
    where
      go : (a b : Bool) → demand a 20 0 (demand b 21 (first_wrong ws) (ok (tt {0}))) ≡ refused n p
          → accepted (demand a 20 0 (demand b 21 (first_wrong ws) (stretch_of s))) ≡ refused n p
      go true true e = absurd (refused-ok n p tt (sym e))
      go true false e = e
      go false b e = e

  pub list-passed : asked ≡ ok tt → listing ws s ≡ stretch_of s
  unfolding listing
  list-passed = go (leb (length ws) most_watched) (all_sound ws)
    where
      go : (a b : Bool) → demand a 20 0 (demand b 21 (first_wrong ws) (ok (tt {0}))) ≡ ok tt
          → demand a 20 0 (demand b 21 (first_wrong ws) (stretch_of s)) ≡ stretch_of s
      go true true e = refl
      go true false e = absurd (refused-ok 21 (first_wrong ws) tt e)
      go false b e = absurd (refused-ok 20 0 tt e)

  -- then the stretch
  module _ (passed : asked ≡ ok tt) (r : Checked) (told : told_checked r ≡ checking s) where
    pub all-passed : {n m : ℕ} → r ≡ Checked.Sound n m → ok tt ≡ accepted (listing ws s)
    unfolding checking
    all-passed is =
        let (t, read, _) = told-met (stretch_of s) _ _ (sym told ∙ ap told_checked is) in
        rw (list-passed passed, read) refl

    pub all-refused : {x : Refusal} → r ≡ Checked.Refused x → refused x.number x.place ≡ accepted (listing ws s)
    unfolding checking
    all-refused {x} is =
        let e = told-refused (stretch_of s) _ x.number x.place (sym told ∙ ap told_checked is) in
        rw (list-passed passed, e) refl

  -- a refusal of both is told by both calls
  module _ (n p : ℕ) (e : accepted (listing ws s) ≡ refused n p) where
    wrong : listing ws s ≡ refused n p
    wrong = told-refused (listing ws s) _ n p e

    pub watching-refused : refused n p ≡ watching ws s
    unfolding watching
    watching-refused = rw wrong refl

    pub marking-refused : (room : ℕ) → marking ws s room ≡ refused n p
    unfolding marking
    marking-refused room = rw wrong refl

  -- a list and a stretch that are accepted
  module _ (e : accepted (listing ws s) ≡ ok tt) where
    agreed : (t : Text) × (listing ws s ≡ ok t)
    agreed = let (t, h, _) = told-met (listing ws s) _ tt e in (t, h)

    text-is : text_of s ≡ agreed.0
    unfolding text_of
    text-is = rw (stretch-whole s agreed.0 (listing-met ws s agreed.0 agreed.1).means).1 refl

    pub listed : listing ws s ≡ ok (text_of s)
    listed = agreed.1 ∙ ap ok (sym text-is)

    pub sought-at : (i : ℕ) → i < length ws → Sought s (get_or ws i blank)
    sought-at i l =
        let y = listing-met ws s (text_of s) listed in
        record { means = (stretch-whole s (text_of s) y.means).1; spells = all-spell ws y.sounds i l }

    pub watching-is : watching ws s ≡ ok (first_seen ws (text_of s))
    unfolding watching
    watching-is = rw listed refl

    pub marking-short : (room : ℕ) → room < length ws → marking ws s room ≡ refused 10 0
    unfolding marking
    marking-short room l = rw (listed, lt-leb (length ws) room l) refl

    pub marking-fits : (room : ℕ) → length ws ≤ room → marking ws s room ≡ ok (text_of s)
    unfolding marking
    marking-fits room l = rw (listed, le-leb (length ws) room l) refl

-- what `sight` finds of a record
module _ (w : Watched) (t : Text) (found : Option ℕ) (e : found ≡ some_end (first_of w t)) where
  pub seen-some : (k : ℕ) → found ≡ Some k → (ends_in w t ≡ true) × (first_of w t ≡ k)
  unfolding some_end ends_in
  seen-some k is = go (ltb (first_of w t) none) (sym e ∙ is)
    where
      go : (b : Bool) → cond b (Some (first_of w t)) None ≡ Some k → (b ≡ true) × (first_of w t ≡ k)
      go true p = (refl, cc)
      go false p = absurd (false≢true (ap is_some p))

  pub seen-none : found ≡ None → ends_in w t ≡ false
  unfolding some_end ends_in
  seen-none is = go (ltb (first_of w t) none) (sym e ∙ is)
    where
      go : (b : Bool) → cond b (Some (first_of w t)) None ≡ None → b ≡ false
      go true p = absurd (true≢false (ap is_some p))
      go false p = refl

  pub seen-mark : is_some found ≡ ends_in w t
  unfolding some_end ends_in
  seen-mark = ap is_some e ∙ go (ltb (first_of w t) none)
    where
      go : (b : Bool) → is_some (cond b (Some (first_of w t)) None) ≡ b
      go true = refl
      go false = refl

-- the records so far: none of them ends
module _ (ws : List Watched) (t : Text) (i : ℕ) (l : i < length ws) (e : first_seen ws t ≡ first_seen (drop i ws) t) where
  split : first_seen ws t ≡ cond (ends_in (get_or ws i blank) t) (seen (get_or ws i blank).label (first_of (get_or ws i blank) t)) (first_seen (drop (i + 1) ws) t)
  unfolding first_seen
  split =
      let next : suc i ≡ i + 1 = omega arith in
      e ∙ ap (λ (xs : List Watched). first_seen xs t) (drop-cons ws i blank l ∙ ap (λ (k : ℕ). get_or ws i blank ∷ drop k ws) next)

  pub first-here : (k : ℕ) → (ends_in (get_or ws i blank) t ≡ true) × (first_of (get_or ws i blank) t ≡ k)
      → seen (get_or ws i blank).label k ≡ first_seen ws t
  first-here k h = sym (split ∙ rw (h.0, h.1) refl)

  pub first-later : ends_in (get_or ws i blank) t ≡ false → first_seen ws t ≡ first_seen (drop (i + 1) ws) t
  first-later h = split ∙ rw h refl

pub first-none : (ws : List Watched) (t : Text) (i : ℕ) → length ws ≤ i → first_seen ws t ≡ first_seen (drop i ws) t → clear ≡ first_seen ws t
unfolding first_seen
first-none ws t i l e = sym (e ∙ ap (λ (xs : List Watched). first_seen xs t) (drop_of_length-le ws {i = i} l))

-- a record's mark after those before it
byte : (b : Bool) → cond b 1 0 ≡ bool_byte b
byte true = refl
byte false = refl

pub marks-more : (ws : List Watched) (t : Text) {d out : List ℕ} {i : ℕ} → Copied d 0 (marks_of ws t) out i → i < length ws
    → (b : Bool) → b ≡ ends_in (get_or ws i blank) t → Copied d 0 (marks_of ws t) (set out i (bool_byte b)) (i + 1)
marks-more ws t {d} {out} {i} c l b e =
    let within : i < length (marks_of ws t) = omega (arith, l, marks-count ws t) in
    let here : get_or (marks_of ws t) i 0 ≡ bool_byte b =
    mark-at ws t i l ∙ ap (λ (x : Bool). cond x 1 0) (sym e) ∙ byte b in
    let place : 0 + i ≡ i = omega arith in
    rw (here, place) at (copied_more c within)
