-- What is told of a list, record by record.
use Prim.Native.Nat.{ℕ, zero, suc, ◌≤◌, ◌<◌}
use mathlib.Core.Path.{◌≡◌, refl, sym, subst}
use mathlib.Core.Logic.{◌↔◌, by_cases}
use mathlib.Core.Bool.{Bool, true, false, cond, false≢true}
use mathlib.Core.List.{List, [], ◌∷◌}
use native.Mathlib.Omega.{arith}
use native.Mathlib.Decide.{dec_lt}
use borrow.Author.Tests.{leb-true, ltb-true, lt-ltb}
use lib.Dec.{leb}
use lib.ListN.{length, get_or, length-map}
use Rattle.text.specs.Text.{Text}
use Rattle.text.specs.State.{marks, fresh}
use Rattle.text.specs.Card.{none, first_end}
use Rattle.text.specs.Refusal.{ok, demand, SoundPattern}
use Rattle.text.proofs.Outcomes.{demand-met}
use Rattle.text.proofs.Truth.{and_left, and_right}
use Rattle.text.proofs.Marks.{marks-length}
use Rattle.text.proofs.Ends.{first_end-le, first_end-least, first_end-within, first_end-mark}
use Rattle.layout.specs.Reading.{stretch_of}
use Rattle.layout.proofs.Stretches.{stretch-most}
use Rattle.watch.specs.Watching.{blank, most_watched, bases_of, sound, all_sound, first_wrong, listing, first_of, ends_in, seen, clear}
use Rattle.watch.specs.Watching.{first_seen, marks_of}
use Rattle.watch.specs.declared.watched.Watched.{Watched}
use Rattle.watch.proofs.Records.{sound-spells}
use Rattle.watch.proofs.Told.{seen-inj, clear-seen}

pub all-spell : (ws : List Watched) → all_sound ws ≡ true → (k : ℕ) → k < length ws → sound (get_or ws k blank) ≡ true
unfolding all_sound
all-spell [] e k l = absurd (let z : ⊥ = omega (arith, l) in z)
all-spell (w ∷ ws) e zero l = and_left (sound w) (all_sound ws) e
all-spell (w ∷ ws) e (suc k) l = all-spell ws (and_right (sound w) (all_sound ws) e) k (omega (arith, l))

-- a list that is accepted with a text: it is not too long, its patterns are sound, and the stretch has this text
pub record Taken (ws : List Watched) (s : List ℕ) (t : Text) : Type 0 where
  pub few : length ws ≤ most_watched
  pub sounds : all_sound ws ≡ true
  pub means : stretch_of s ≡ ok t

pub listing-met : (ws : List Watched) (s : List ℕ) (t : Text) → listing ws s ≡ ok t → Taken ws s t
unfolding listing
listing-met ws s t e =
    let a = demand-met (leb (length ws) most_watched) 20 0 (demand (all_sound ws) 21 (first_wrong ws) (stretch_of s)) t e in
    let b = demand-met (all_sound ws) 21 (first_wrong ws) (stretch_of s) t a.1 in
    record { few = leb-true (length ws) most_watched a.0; sounds = b.0; means = b.1 }

module _ (ws : List Watched) (s : List ℕ) (t : Text) (y : Taken ws s t) (i : ℕ) (l : i < length ws) where
  abbrev one : Watched
  one = get_or ws i blank

  pub taken-sound : SoundPattern (bases_of one)
  taken-sound = sound-spells one (all-spell ws y.sounds i l)

  pub taken-few : length t < none
  taken-few = omega (arith, stretch-most s t y.means)

-- the mark of a record
pub mark-at : (ws : List Watched) (t : Text) (i : ℕ) → i < length ws → get_or (marks_of ws t) i 0 ≡ cond (ends_in (get_or ws i blank) t) 1 0
unfolding marks_of
mark-at (w ∷ ws) t zero l = refl
mark-at (w ∷ ws) t (suc i) l = mark-at ws t i (omega (arith, l))
mark-at [] t i l = absurd (let z : ⊥ = omega (arith, l) in z)

pub marks-count : (ws : List Watched) (t : Text) → length (marks_of ws t) ≡ length ws
unfolding marks_of
marks-count ws t = length-map ws _

pub mark-one : (e : Bool) → (◌≡◌ {A = ℕ} (cond e 1 0) 1) ↔ (e ≡ true)
mark-one true = (λ _. refl, λ _. refl)
mark-one false = (λ h. absurd (let z : ⊥ = omega (arith, h) in z), λ h. absurd (false≢true h))

-- a record ends anywhere exactly where a mark of its pattern is 1
module _ (w : Watched) (t : Text) where
  pub ends-marked : ends_in w t ≡ true → (first_of w t < length t) × (get_or (marks (bases_of w) t) (first_of w t) 0 ≡ 1)
  unfolding ends_in first_of marks
  ends-marked e =
      let l : first_end (marks (bases_of w) t) < none = ltb-true _ none e in (
        subst (λ (n : ℕ). first_of w t < n) (marks-length (bases_of w) fresh t) (first_end-within (marks (bases_of w) t) l),
        first_end-mark (marks (bases_of w) t) l,
      )

  -- and in no segment before the first
  pub before-first : (j : ℕ) → j < first_of w t → get_or (marks (bases_of w) t) j 0 ≡ 1 → ⊥
  unfolding first_of
  before-first j l = (first_end-least (marks (bases_of w) t) (first_of w t) (first_end-le (marks (bases_of w) t))).0
      (let z : first_of w t ≤ first_of w t = omega arith in z) j l

  pub marked-ends : length t < none → (j : ℕ) → j < length t → get_or (marks (bases_of w) t) j 0 ≡ 1 → ends_in w t ≡ true
  unfolding ends_in
  marked-ends few j l e =
      by_cases (dec_lt (first_of w t) none)
      (λ (h : first_of w t < none). lt-ltb (first_of w t) none h)
      (λ (h : ¬ (first_of w t < none)). absurd (before-first j (omega (arith, h, few, l)) e))

-- the first record that ends, by its index
pub record Earliest (ws : List Watched) (t : Text) (label segment : ℕ) : Type 0 where
  pub index : ℕ
  pub inside : index < length ws
  pub ends : ends_in (get_or ws index blank) t ≡ true
  pub label_is : label ≡ (get_or ws index blank).label
  pub segment-is : segment ≡ first_of (get_or ws index blank) t
  pub before : (i : ℕ) → i < index → ends_in (get_or ws i blank) t ≡ false

-- of a record and those after it
each_more : (w : Watched) (ws : List Watched) (t : Text) (n i : ℕ) → ends_in w t ≡ false
    → ((j : ℕ) → j < n → ends_in (get_or ws j blank) t ≡ false) → i < suc n → ends_in (get_or (w ∷ ws) i blank) t ≡ false
each_more w ws t n zero e h l = e
each_more w ws t n (suc i) e h l = h i (omega (arith, l))

earliest-more : (w : Watched) (ws : List Watched) (t : Text) (label segment : ℕ) (b : Bool) → ends_in w t ≡ b
    → cond b (seen w.label (first_of w t)) (first_seen ws t) ≡ seen label segment
    → (first_seen ws t ≡ seen label segment → Earliest ws t label segment) → Earliest (w ∷ ws) t label segment
earliest-more w ws t label segment true is e k =
    let p = seen-inj e in
    record {
      index = 0;
      inside = omega arith;
      ends = is;
      label_is = sym p.0;
      segment-is = sym p.1;
      before = λ i l. absurd (let z : ⊥ = omega (arith, l) in z);
    }
earliest-more w ws t label segment false is e k =
    let m = k e in
    record {
      index = suc m.index;
      inside = omega (arith, m.inside);
      ends = m.ends;
      label_is = m.label_is;
      segment-is = m.segment-is;
      before = λ i l. each_more w ws t m.index i is m.before l;
    }

pub earliest : (ws : List Watched) (t : Text) (label segment : ℕ) → first_seen ws t ≡ seen label segment → Earliest ws t label segment
unfolding first_seen
earliest [] t label segment e = absurd (clear-seen e)
earliest (w ∷ ws) t label segment e = earliest-more w ws t label segment (ends_in w t) refl e (earliest ws t label segment)

-- none ends
none_more : (w : Watched) (ws : List Watched) (t : Text) (b : Bool) → ends_in w t ≡ b
    → cond b (seen w.label (first_of w t)) (first_seen ws t) ≡ clear
    → (first_seen ws t ≡ clear → (i : ℕ) → i < length ws → ends_in (get_or ws i blank) t ≡ false)
    → (i : ℕ) → i < suc (length ws) → ends_in (get_or (w ∷ ws) i blank) t ≡ false
none_more w ws t true is e k i l = absurd (clear-seen (sym e))
none_more w ws t false is e k i l = each_more w ws t (length ws) i is (k e) l

pub none-ends : (ws : List Watched) (t : Text) → first_seen ws t ≡ clear → (i : ℕ) → i < length ws → ends_in (get_or ws i blank) t ≡ false
unfolding first_seen
none-ends [] t e i l = absurd (let z : ⊥ = omega (arith, l) in z)
none-ends (w ∷ ws) t e i l = none_more w ws t (ends_in w t) refl e (none-ends ws t) i l

pub ends-none : (ws : List Watched) (t : Text) → ((i : ℕ) → i < length ws → ends_in (get_or ws i blank) t ≡ false) → first_seen ws t ≡ clear
unfolding first_seen
ends-none [] t h = refl
ends-none (w ∷ ws) t h = rw (h 0 (omega arith)) (ends-none ws t (λ i l. h (suc i) (omega (arith, l))))
