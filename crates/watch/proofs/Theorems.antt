-- What this crate proves of its calls, theorem by theorem: read this file first. `watching`, `marking` and `marks_of` are what the contracts
-- say of the answers of `first` and `mark`, and of the buffer that `mark` leaves.
use Prim.Native.Nat.{ℕ, ◌+◌, ◌≤◌, ◌<◌}
use mathlib.Core.Path.{◌≡◌, refl, sym, ap, subst, ◌∙◌}
use mathlib.Core.Logic.{◌↔◌}
use mathlib.Core.Bool.{Bool, true, false, cond, true≢false}
use mathlib.Core.List.{List, []}
use native.Mathlib.Omega.{arith}
use borrow.Author.Tests.{le-leb, lt-leb}
use lib.Dec.{leb}
use lib.ListN.{length, get_or, drop, get_or-append}
use Rattle.text.specs.Text.{Text}
use Rattle.text.specs.Occurrence.{EndsIn}
use Rattle.text.specs.State.{marks}
use Rattle.text.specs.Refusal.{ok, refused, demand, after}
use Rattle.text.specs.declared.strand.Strand.TheVariants.{Given}
use Rattle.text.proofs.Outcomes.{ok-inj, after-met, demand-met}
use Rattle.text.proofs.Occurrences.{marks-ends}
use Rattle.layout.specs.Bytes.{over}
use Rattle.layout.specs.Reading.{stretch_of}
use Rattle.layout.specs.Bytes.{left_by}
use Rattle.search.specs.Answers.{searching}
use Rattle.search.specs.declared.searching.Searched.{Searched}
use Rattle.search.proofs.Theorems.{Promised, search-marks}
use Rattle.watch.specs.Watching.{blank, most_watched, bases_of, all_sound, first_wrong, listing, ends_in, first_of, seen, clear, first_seen}
use Rattle.watch.specs.Watching.{watching, marks_of, marking}
use Rattle.watch.specs.declared.watched.Watched.{Watched}
use Rattle.watch.proofs.Lists.{Taken, listing-met, taken-sound, taken-few, mark-at, marks-count, mark-one, ends-marked, before-first}
use Rattle.watch.proofs.Lists.{marked-ends, earliest, none-ends, ends-none}

-- the byte that `mark` leaves for record i in the buffer d
abbrev pub mark_of : List Watched → List ℕ → List ℕ → ℕ → ℕ
mark_of ws s d i = get_or (left_by (marks_of ws) (marking ws s (length d)) d) i 0

-- the list was accepted
taken : (ws : List Watched) (s : List ℕ) (room : ℕ) (t : Text) → marking ws s room ≡ ok t → Taken ws s t
unfolding marking
taken ws s room t e =
    let m = after-met (listing ws s) (λ u. demand (leb (length ws) room) 10 0 (ok u)) t e in
    let b = demand-met (leb (length ws) room) 10 0 (ok m.0) t m.2 in
    listing-met ws s t (m.1 ∙ b.1)

left : (ws : List Watched) (s d : List ℕ) (t : Text) (i : ℕ) → marking ws s (length d) ≡ ok t → i < length ws
    → mark_of ws s d i ≡ cond (ends_in (get_or ws i blank) t) 1 0
unfolding over
left ws s d t i e l =
    let inside : i < length (marks_of ws t) = rw (marks-count ws t) l in
    rw e (get_or-append (marks_of ws t) (drop (0 + length (marks_of ws t)) d) 0 i inside ∙ mark-at ws t i l)

-- a record's mark depends on that record and the stretch only: it is the same at any place of any list that is accepted
pub mark-own : (ws ws' : List Watched) (s d d' : List ℕ) (t t' : Text) (i j : ℕ) → marking ws s (length d) ≡ ok t
    → marking ws' s (length d') ≡ ok t'
    → i < length ws → j < length ws' → get_or ws i blank ≡ get_or ws' j blank → mark_of ws s d i ≡ mark_of ws' s d' j
mark-own ws ws' s d d' t t' i j e e' l l' same =
    let one : t ≡ t' = ok-inj (sym (taken ws s (length d) t e).means ∙ (taken ws' s (length d') t' e').means) in
    left ws s d t i e l ∙ ap (λ (w : Watched). cond (ends_in w t) 1 0) same ∙ ap (λ (u : Text). cond (ends_in (get_or ws' j blank) u) 1 0) one
    ∙ sym (left ws' s d' t' j e' l')

-- an occurrence of a record ends somewhere in the text
pub record Somewhere (w : Watched) (t : Text) : Type 0 where
  pub segment : ℕ
  pub inside : segment < length t
  pub ends : EndsIn (bases_of w) t segment

-- a record's mark is 1 exactly when an occurrence of it ends anywhere, by Grossi's definition
pub mark-ends : (ws : List Watched) (s d : List ℕ) (t : Text) (i : ℕ) → marking ws s (length d) ≡ ok t → i < length ws
    → (mark_of ws s d i ≡ 1) ↔ Somewhere (get_or ws i blank) t
mark-ends ws s d t i e l =
    let w : Watched = get_or ws i blank in
    let y = taken ws s (length d) t e in
    let at : (j : ℕ) → (get_or (marks (bases_of w) t) j 0 ≡ 1) ↔ EndsIn (bases_of w) t j =
    λ j. marks-ends (bases_of w) t j (taken-sound ws s t y i l).some in
    rw (left ws s d t i e l) (
      λ h.
          let m = ends-marked w t ((mark-one (ends_in w t)).0 h) in
          record { segment = first_of w t; inside = m.0; ends = (at (first_of w t)).0 m.1 },
      λ h. (mark-one (ends_in w t)).1 (marked-ends w t (taken-few ws s t y i l) h.segment h.inside ((at h.segment).1 h.ends)),
    )

-- so it is 1 exactly when a search of that record, by either method, leaves a 1 for any segment
pub mark-searches : (ws : List Watched) (s d out left : List ℕ) (t : Text) (i : ℕ) (a : Searched) → marking ws s (length d) ≡ ok t
    → i < length ws
    → searching (bases_of (get_or ws i blank)) s (length out) ≡ ok t → Promised (bases_of (get_or ws i blank)) Given s out a left
    → (mark_of ws s d i ≡ 1) ↔ ((j : ℕ) × (j < length t) × (get_or left j 0 ≡ 1))
mark-searches ws s d out left t i a e l found p =
    let w : Watched = get_or ws i blank in
    let some = (taken-sound ws s t (taken ws s (length d) t e) i l).some in
    let here = mark-ends ws s d t i e l in
    let at : (j : ℕ) → j < length t → (get_or left j 0 ≡ 1) ↔ EndsIn (bases_of w) t j =
    λ j inside. rw p.1 (search-marks (bases_of w) Given s out t j some found inside) in (
      λ h. let m = here.0 h in (m.segment, m.inside, (at m.segment m.inside).1 m.ends),
      λ h. here.1 (record { segment = h.0; inside = h.1; ends = (at h.0 h.1).0 h.2 }),
    )

-- the first record in list order that ends anywhere: its label and its first ending segment; no record before it ends at all
pub record FirstOf (ws : List Watched) (t : Text) (label segment : ℕ) : Type 0 where
  pub index : ℕ
  pub inside : index < length ws
  pub label_is : label ≡ (get_or ws index blank).label
  pub ends : EndsIn (bases_of (get_or ws index blank)) t segment
  pub earlier : (j : ℕ) → j < segment → EndsIn (bases_of (get_or ws index blank)) t j → ⊥
  pub before : (i : ℕ) → i < index → Somewhere (get_or ws i blank) t → ⊥

module _ (ws : List Watched) (s : List ℕ) (t : Text) (e : listing ws s ≡ ok t) where
  abbrev y : Taken ws s t
  y = listing-met ws s t e

  at : (i : ℕ) → i < length ws → (j : ℕ) → (get_or (marks (bases_of (get_or ws i blank)) t) j 0 ≡ 1) ↔ EndsIn (bases_of (get_or ws i blank)) t j
  at i l j = marks-ends (bases_of (get_or ws i blank)) t j (taken-sound ws s t y i l).some

  nowhere : (i : ℕ) → i < length ws → ends_in (get_or ws i blank) t ≡ false → Somewhere (get_or ws i blank) t → ⊥
  nowhere i l miss h =
      true≢false (sym (marked-ends (get_or ws i blank) t (taken-few ws s t y i l) h.segment h.inside ((at i l h.segment).1
      h.ends)) ∙ miss)

  told : watching ws s ≡ ok (first_seen ws t)
  unfolding watching
  told = rw e refl

  pub first-told : (label segment : ℕ) → watching ws s ≡ ok (seen label segment) → FirstOf ws t label segment
  first-told label segment h =
      let m = earliest ws t label segment (ok-inj (sym told ∙ h)) in
      let w : Watched = get_or ws m.index blank in
      let hit = ends-marked w t m.ends in
      record {
        index = m.index;
        inside = m.inside;
        label_is = m.label_is;
        ends = subst (EndsIn (bases_of w) t) (sym m.segment-is) ((at m.index m.inside (first_of w t)).0 hit.1);
        earlier = λ j l h. before-first w t j (subst (λ (n : ℕ). j < n) m.segment-is l) ((at m.index m.inside j).1 h);
        before = λ i l. nowhere i (let z : i < length ws = omega (arith, l, m.inside) in z) (m.before i l);
      }

  -- "none" exactly when no record ends anywhere
  pub first-clear : (watching ws s ≡ ok clear) ↔ ((i : ℕ) → i < length ws → Somewhere (get_or ws i blank) t → ⊥)
  first-clear = (
    λ h i l. nowhere i l (none-ends ws t (ok-inj (sym told ∙ h)) i l),
    λ h. told ∙ ap ok (ends-none ws t (λ i l. quiet i l (ends_in (get_or ws i blank) t) refl (h i l))),
  )
    where
      quiet : (i : ℕ) → i < length ws → (b : Bool) → ends_in (get_or ws i blank) t ≡ b → (Somewhere (get_or ws i blank) t → ⊥)
          → ends_in (get_or ws i blank) t ≡ false
      quiet i l true is h =
          let m = ends-marked (get_or ws i blank) t is in
          absurd (h (record {
            segment = first_of (get_or ws i blank) t;
            inside = m.0;
            ends =
                (at i l (first_of (get_or ws i blank) t)).0 m.1;
          }))
      quiet i l false is h = is

-- the refusals: 20 whatever the records and the stretch are, then 21 at the first record that is wrong, then those of the stretch
pub list-long : (ws : List Watched) (s : List ℕ) → most_watched < length ws → listing ws s ≡ refused 20 0
unfolding listing
list-long ws s l = rw (lt-leb (length ws) most_watched l) refl

pub record-wrong : (ws : List Watched) (s : List ℕ) → length ws ≤ most_watched → all_sound ws ≡ false
    → listing ws s ≡ refused 21 (first_wrong ws)
unfolding listing
record-wrong ws s l e = rw (le-leb (length ws) most_watched l, e) refl

pub stretch-faulty : (ws : List Watched) (s : List ℕ) → length ws ≤ most_watched → all_sound ws ≡ true → listing ws s ≡ stretch_of s
unfolding listing
stretch-faulty ws s l e = rw (le-leb (length ws) most_watched l, e) refl

-- the empty list finds nothing, and a faulty stretch is refused
pub list-empty : (s : List ℕ) → watching [] s ≡ after (stretch_of s) (λ _. ok clear)
unfolding watching listing all_sound first_seen
list-empty s = refl

-- both calls refuse alike, `mark` 10 after all of that
pub refuse-alike : (ws : List Watched) (s : List ℕ) (room n p : ℕ) → listing ws s ≡ refused n p
    → (watching ws s ≡ refused n p) × (marking ws s room ≡ refused n p)
unfolding watching marking
refuse-alike ws s room n p e = (rw e refl, rw e refl)
